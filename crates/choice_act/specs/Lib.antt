pub mod Occupants
