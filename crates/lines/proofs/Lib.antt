-- Laws beside the functions' own proofs.
pub mod SetLaws
pub mod LengthLaws
pub mod Meaning
