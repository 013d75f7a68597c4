-- The laws behind the statements of specs/, and their proofs.
pub mod SumLaws
pub mod AmountLaws
pub mod UnitLaws
pub mod WorkLaws
pub mod DueLaws
pub mod OnTimeLaws
pub mod AdmittedLaws
pub mod CountLaws
pub mod TimetableLaws
pub mod Timetable
pub mod FullLaws
pub mod NeverShort
