-- The rules of a slot, said of the list of choices alone, and what a run has to do with them.
pub mod Rules
pub mod Meaning
pub mod TagMeaning
pub mod RepeatMeaning
