-- Why the entries keep their promises.
--   Refusals == from what an entry's tests find to its refusal
--   Lists    == zeros written into a part of a list, a list laid over another
--   Cuts     == the bytes that `take_rows` takes are the fraction
--   Laying   == a record laid and read back
--   Settled  == each promise settles answer and buffers, and rules wrong answers out
pub mod Refusals
pub mod Lists
pub mod Cuts
pub mod Laying
pub mod Settled
