-- The lemmas.
pub mod Sizes
pub mod Rounding
pub mod Widening
pub mod Means
pub mod Worked
