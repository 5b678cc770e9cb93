pub mod Reducing
pub mod Words
pub mod Packs
pub mod Meetings
