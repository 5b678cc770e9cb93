-- The parts of the specification.
pub mod Calls
pub mod Log
pub mod Wanted
pub mod Runs
pub mod Meant
pub mod Lent
pub mod Reading
pub mod Worked
