-- What public contracts cite, and a reader has to believe, in the order to read it: the limits, the listing of a net, which bytes are a
-- listing and which line is the first that can't stand, and what a net file is accepted as.
pub mod Limits
-- The listing of a net: a header, a line for each wire and then for each node by number, and the line `end`.
pub mod Listing
-- Which bytes are the listing of a net, and which line is the first that can't stand where it stands.
pub mod NetText
-- What a net file is accepted as, and which fault of a file is the first.
pub mod Accepted
-- What other public contracts cite, and no promise of the program needs: what the calls before the last one answer, the laws, and that
-- the constants of `limits` are the limits.
pub mod Steps
-- What holds of the texts of nets.
pub mod Laws
-- The constants of `limits` as definitions and contracts call them, which is what `law_listing_limits` says.
pub mod Constants
-- How a text is read line by line, and each line by its beginning: what laws and private contracts speak of.
pub mod Standing
-- A type read from the front of a text, as it is printed.
pub mod TypeText
-- A wire's line, read from its beginning to its end.
pub mod WireText
-- A node's line, read from its beginning to its end, as a wire's line is: its form by its name, and then its numbers.
pub mod NodeText
-- The wires and nodes that the lines of a text list, or the number of the first line that can't stand there.
pub mod FirstFault
-- What the code finds at the front of a text: a number, where the code has it.
pub mod Scanning
