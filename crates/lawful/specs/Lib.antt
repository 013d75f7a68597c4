-- Lawful and full timetables, and what an admission has to do with them (demand 3). Each statement is proved in proofs/, under its name.
pub mod Lawful
pub mod DemandThree
