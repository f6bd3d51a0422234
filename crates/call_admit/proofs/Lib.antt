pub mod AcceptedTables
pub mod AdmissionTests
pub mod Admissions
