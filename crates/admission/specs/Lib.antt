-- What the contracts of `admission` say: divisor, cycle, load, verdict, a lent list, their promises, and what a reader may conclude from them.
pub mod Divisor
pub mod Cycle
pub mod Load
pub mod Answer
pub mod Verdict
pub mod Lent
pub mod Promise
pub mod Judged
pub mod Meaning
pub mod LentMeaning
