-- The proofs of the statements of specs/.
pub mod Buffers
pub mod Cases
pub mod Published
pub mod Unique
