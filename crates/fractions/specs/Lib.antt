-- What the function that adds a fraction promises. The rules that it cites are in crate `rules`.
--   Refusal == its refusals, in order
--   Promise == what it promises
--   Kernel  == what the private functions do; no promise cites it
pub mod Refusal
pub mod Promise
pub mod Kernel
