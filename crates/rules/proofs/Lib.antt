-- The laws behind the statements of specs/, and their proofs, each over the setting: never once for each order or model.
pub mod BytesLaws
pub mod CycleLaws
pub mod HistoryLaws
pub mod MomentLaws
pub mod PlaceLaws
pub mod ChoiceLaws
pub mod SetLaws
pub mod RunLaws
pub mod Meaning
pub mod TagMeaning
pub mod RepeatLaws
pub mod RepeatMeaning
