-- What the rebuilder promises. The rules that it cites are in crate `rules`.
--   Refusal == its refusals, in order
--   Promise == what it promises
--   Kernel  == what its private functions do; the promise doesn't cite it
pub mod Refusal
pub mod Promise
pub mod Kernel
