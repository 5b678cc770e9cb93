pub mod Hexadecimal
pub mod Counted
