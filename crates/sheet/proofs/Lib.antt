-- Laws beside the functions' own proofs.
pub mod ByteLaws
pub mod RunLaws
pub mod PushedLaws
pub mod CompleteLaws
pub mod HoldsLaws
pub mod BeginsLaws
pub mod UptoLaws
pub mod ReadLaws
pub mod AlongLaws
pub mod FormLaws
pub mod Meaning
pub mod Cases
