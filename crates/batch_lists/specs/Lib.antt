-- what a reader has to believe: the limits, and which bytes are a list of which jobs, or have which first fault
--
-- The limits of a batch as numbers, each inclusive, under the names that definitions and contracts use.
pub mod Limits
-- Which bytes are a list of jobs, and which fault of other bytes is the first.
pub mod Lists
-- the laws
pub mod Laws
-- what serves the code's inner calls only
pub mod Scanning
