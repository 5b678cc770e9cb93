-- Lemmas.
pub mod Entries
pub mod Settings
pub mod Parts
pub mod OpenPaths
pub mod Endings
pub mod Listing
