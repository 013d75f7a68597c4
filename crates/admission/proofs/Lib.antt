-- Laws beside the functions' own proofs.
pub mod DivisorLaws
pub mod CycleLaws
pub mod LoadLaws
pub mod AnswerLaws
pub mod VerdictLaws
pub mod Meaning
pub mod LentMeaning
