-- what a reader has to believe: what reads and writes are, and what is seen of any files and any sink
--
-- What reads and writes give, and when a count of faults has risen.
pub mod Outside
-- What is seen of files and of a sink, whatever the device.
pub mod Seen
-- how contracts tell of them
--
-- How contracts tell of a read, of a write, and of what is seen: each as a record of its parts; and when reads fit what files hold.
pub mod Told
-- what is known of each device
--
-- Files in memory, and what a read of them gives.
pub mod FilesInMemory
-- What is known of the files of the system: the reads that were made, with the bytes that each gave.
pub mod FilesOnDisk
-- Which calls of a device in memory are listed to fail, by their numbers from 1 on.
pub mod Failing
-- A sink in memory, and what a write to it does.
pub mod SinkInMemory
-- What is known of a sink over a writer of std: the pieces that were handed over, and how much of each was taken.
pub mod SinkOfWriter
-- laws on files in memory
pub mod NamedFiles
-- what a read or a write adds to what a device did, for private contracts
pub mod Turns
