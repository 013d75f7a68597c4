-- What the contracts of `place` say: one place over one slot, and how near it is to its end.
pub mod Setting
pub mod Opening
pub mod Place
pub mod Fraction
pub mod Choice
pub mod Range
pub mod Sound
pub mod Promise
pub mod Meaning
