pub mod Pages
pub mod Digits
pub mod SignedNumbers
