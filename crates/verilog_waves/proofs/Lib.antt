-- codes tell apart what they stand for, and values tell their numbers
mod Apart
-- texts that are appended one by one
mod Appending
-- edges of a run, and where it ends
mod Going
-- that memories don't count
mod Vectors
-- one more of the names that are shown
mod Listing
