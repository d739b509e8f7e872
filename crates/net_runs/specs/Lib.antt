-- what a reader has to believe: what a run of a net is
pub mod IsRun
