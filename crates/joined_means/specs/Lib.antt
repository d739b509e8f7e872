-- What its module tells.
pub mod Laws
