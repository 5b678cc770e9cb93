-- The parts of the specification.
pub mod States
pub mod Entries
pub mod Rules
pub mod View
pub mod Opening
pub mod Space
pub mod Calls
pub mod Subpaths
pub mod Turns
pub mod Theorems
pub mod Worked
