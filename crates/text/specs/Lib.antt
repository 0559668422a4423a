-- The text that is printed of an answer, and what making it promises.
--   Text    == the text, in document 01's words
--   Refusal == the refusals, in order
--   Promise == what the entry promises
--   Kernel  == what the private functions that write do; no promise of the entry cites it
pub mod Text
pub mod Refusal
pub mod Promise
pub mod Kernel
