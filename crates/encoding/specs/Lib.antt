-- The parts of the specification.
pub mod Flags
pub mod Tags
pub mod Sheet
pub mod Promises
pub mod Rules
pub mod Paths
pub mod Elements
pub mod Inner
pub use Rattle.values.specs.Streams
pub use Rattle.values.specs.Errors
pub use Rattle.values.specs.Settings
