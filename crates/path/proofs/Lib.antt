-- The parts of the proofs.
pub mod Lists
pub mod Cases
pub mod Laying
pub mod Taking
pub mod Finish
pub mod Amounting
pub mod Steps
pub mod Frame
pub mod Most
pub mod Copy
pub mod Answering
pub mod Examples
