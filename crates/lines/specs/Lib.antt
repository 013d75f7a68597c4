-- The text of each line; those of `slots` as document 01 words them.
pub mod Parts
pub mod Slot
pub mod Summary
pub mod Refused
pub mod Answer
pub mod Below
pub mod Promise
pub mod Meaning
