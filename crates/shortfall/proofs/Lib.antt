-- Laws beside the functions' own proofs, and the proofs of the statements of specs/.
pub mod CountLaws
pub mod PassLaws
pub mod TallyLaws
pub mod NeverLaws
pub mod JudgeLaws
pub mod AlikeLaws
pub mod JobMeaning
pub mod Meaning
