-- Laws beside the functions' own proofs, each over the setting: never once for each order or model.
pub mod CondLaws
pub mod CycleLaws
pub mod SignedLaws
pub mod BoundLaws
pub mod CounterLaws
pub mod WindowLaws
pub mod PlaceLaws
pub mod TagLaws
pub mod BareLaws
pub mod RangeLaws
pub mod DistanceLaws
pub mod OrderLaws
pub mod Meaning
