-- What the functions that sum promise. The rules that they cite are in crate `rules`.
--   Answer  == the number and the values of each case of a test's answer
--   Refusal == the refusals of each function, in order
--   Promise == what each function promises
--   Kernel  == what the private functions do; no promise cites it
pub mod Answer
pub mod Refusal
pub mod Promise
pub mod Kernel
