-- Laws beside the functions' own proofs.
pub mod FillLaws
pub mod WriteLaws
pub mod Meaning
