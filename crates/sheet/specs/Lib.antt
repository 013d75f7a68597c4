-- The form of a sheet, how it is read byte by byte, what a read answers and promises, and what a reader may conclude from it.
pub mod Form
pub mod Sheet
pub mod Reader
pub mod Answer
pub mod Promise
pub mod Meaning
