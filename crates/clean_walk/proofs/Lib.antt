mod Tags
pub mod Going
