-- What the contracts of `shortfall` say, and what a reader may conclude from it.
pub mod Tally
pub mod Shortfall
pub mod Promise
pub mod Meaning
