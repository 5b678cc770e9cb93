-- The parts of the specification.
pub mod Streams
pub mod Errors
pub mod Settings
