-- Laws beside the functions' own proofs, each over the setting: never once for each order or model.
pub mod HereLaws
pub mod SlotLaws
pub mod BestLaws
pub mod ChoiceLaws
pub mod MovingLaws
pub mod KeepLaws
pub mod RangeLaws
pub mod FreshLaws
pub mod StartLaws
pub mod AnswerLaws
pub mod TurnLaws
pub mod RunLaws
pub mod AgainLaws
pub mod CallLaws
pub mod SlotMeaning
