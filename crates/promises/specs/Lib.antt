-- What a reader outside the club may conclude, in document 01's words. Each statement is proved in proofs/, under its name.
pub mod Buffers
pub mod Cases
pub mod Published
pub mod Unique
