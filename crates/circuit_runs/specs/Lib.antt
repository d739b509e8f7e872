-- What a run of a net's module comes to.
pub mod Running
-- What that tells of a program: the statement of `law_program_runs`.
pub mod Laws
-- That a module's dump and its run go together: the statements of `law_same_states` and `law_same_end`.
pub mod Waves
