-- Points that differ.
--   Promise == what `apart` promises
pub mod Promise
