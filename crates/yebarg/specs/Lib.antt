-- What the entries promise. The rules that they cite are in crate `rules`.
--   Refusal == the refusals of each entry, in order
--   Promise == what each entry promises
--   Kernel  == what the private functions over the bytes of columns do; no promise of an entry cites it
pub mod Refusal
pub mod Promise
pub mod Kernel
