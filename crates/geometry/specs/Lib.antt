-- The parts of the specification.
pub mod Numbers
pub mod Tangents
pub mod Extents
pub mod Segments
pub mod Worked
