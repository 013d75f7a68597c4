-- Laws beside the functions' own proofs.
pub mod WrittenLaws
pub mod WrittenParts
pub mod DecimalLaws
pub mod WordLaws
pub mod PrintLaws
