-- What the contracts of the C entries say, and what a reader may conclude from them.
pub mod JobBytes
pub mod Entry
pub mod Below
pub mod Promise
pub mod Meaning
pub mod BelowMeaning
