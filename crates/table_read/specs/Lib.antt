pub mod ReadAnswers
pub mod RecordTests
pub mod RecordRead
