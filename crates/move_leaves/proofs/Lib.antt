-- What the bytes at a node tell.
pub mod Leaves
