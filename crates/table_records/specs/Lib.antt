pub mod Shapes
pub mod ParsedRecords
