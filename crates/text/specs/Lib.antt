-- Text as lists of bytes.
pub mod Ascii
pub mod Decimal
pub mod Word
pub mod Written
pub mod Promise
