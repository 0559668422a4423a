-- What filling promises. The rules that it cites are in crate `rules`.
--   Refusal == the refusals of each entry, in order
--   Promise == what each entry promises
--   Kernel  == what the private functions do; no promise of an entry cites it
pub mod Refusal
pub mod Promise
pub mod Kernel
