-- What the contracts of `run` say, from one slot to a whole run, and what a reader may conclude from it.
pub mod State
pub mod Choice
pub mod Slot
pub mod Range
pub mod Sound
pub mod Answer
pub mod Step
pub mod Run
pub mod Promise
pub mod Calls
pub mod Best
pub mod Meaning
pub mod SlotMeaning
