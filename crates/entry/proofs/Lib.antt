-- Laws beside the functions' own proofs.
pub mod JobLaws
pub mod EntryLaws
pub mod NumberLaws
pub mod BelowLaws
pub mod AnswerLaws
pub mod Meaning
pub mod BelowMeaning
