pub mod RecordTests
pub mod RecordRead
pub mod TableRead
