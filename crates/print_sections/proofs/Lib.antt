pub mod NumberLines
pub mod ChannelLines
pub mod ComponentLines
pub mod RunLines
pub mod AllLines
