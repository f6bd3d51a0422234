pub mod HeldSteps
pub mod Steps
