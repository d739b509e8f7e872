-- what a run of a program's module tells
mod Telling
-- numbers of two halves, and what registers show
mod Showing
-- one edge more
mod Edges
-- the states of a dump and of a run, and where both end
mod Together
