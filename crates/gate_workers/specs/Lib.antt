-- what one call under the lock makes of a bench
pub mod Served
-- what a worker did, whatever the others did meanwhile
pub mod Working
