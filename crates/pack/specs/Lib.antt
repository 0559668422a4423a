-- What reading a pack promises. The pack file is in crate `entries`, the rules of shapes and stripes in crate `rules`.
--   Refusal == the refusals, in order
--   Promise == what the entry promises
--   Kernel  == what the private functions do; no promise of an entry cites it
pub mod Refusal
pub mod Promise
pub mod Kernel
