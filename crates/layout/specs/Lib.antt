-- What reading the layout of a pack promises. The pack and its refusals are in crate `entries`, the rules of shapes and stripes in crate `rules`.
--   Promise == what the entry promises
pub mod Promise
