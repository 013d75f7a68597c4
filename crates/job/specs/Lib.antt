-- What the contracts of `job` say: the numbers of document 01, the check of a list, the promises, and what a reader may conclude from them.
pub mod Limit
pub mod Window
pub mod Told
pub mod Check
pub mod Filled
pub mod Promise
pub mod Sound
pub mod Meaning
