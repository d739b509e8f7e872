-- terms whose variables are below an index, and closed ones
pub mod Below
-- a closed term put below what is put
pub mod Moving
-- terms that are alike but for equations
pub mod Alike
-- evaluation of terms that are alike
pub mod Running
-- what keeps types
pub mod Types
-- the laws of equations
pub mod Exchanged
-- terms without `fix` come to results
pub mod Tait
-- the examples
pub mod Examples
