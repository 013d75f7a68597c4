-- Laws beside the functions' own proofs.
pub mod ToldLaws
pub mod TestLaws
pub mod WalkLaws
pub mod FilledLaws
pub mod CheckLaws
pub mod Meaning
pub mod AlikeLaws
