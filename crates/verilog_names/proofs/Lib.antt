-- each word that Verilog reserves names no module
pub mod Reserved
