pub mod Zeros
pub mod TreeScans
pub mod ComponentScans
pub mod HallScans
