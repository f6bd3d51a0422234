pub mod KindBytes
pub mod RecordsRead
pub mod Contents
