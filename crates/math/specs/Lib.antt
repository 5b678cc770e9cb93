-- The parts of the specification.
pub mod Sizes
pub mod Halves
pub mod Worked
