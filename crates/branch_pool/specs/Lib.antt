-- what a reader has to believe: what a worker is given to play, and what is taken in
pub mod Benches
