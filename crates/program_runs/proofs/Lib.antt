-- why a text is one program or has one fault
pub mod OneProgram
-- what a run of a program's net says of the program
pub mod Telling
-- from a tree and its faults to those of its text, and why its net is small enough
pub mod Texts
-- The net of a program within the limits, or of its translation, has fewer than 2 ^ 32 wires and nodes.
pub mod Sized
-- The lengths of some programs, each by a depth that is enough for its question, and by computing it.
mod Examples
-- What some texts mean, by computing it from their bytes.
mod ExampleTexts
