-- What the contract of the timetable writer says, and what a reader may conclude from it.
pub mod Table
pub mod Promise
pub mod Meaning
