-- The statement of `law_clock_parts`.
pub mod Laws
