-- The laws of `written` and of `spliced`, for whoever writes or splices.
pub mod Written
pub mod Splices
