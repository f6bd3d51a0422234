pub mod Shapes
pub mod KindClasses
pub mod FieldTests
