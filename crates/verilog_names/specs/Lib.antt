-- Which names a module may have: what a reader has to believe.
pub mod Name
