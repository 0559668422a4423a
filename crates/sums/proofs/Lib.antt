-- Why the functions that sum keep their promises.
--   Refusals == what has passed all tests is not refused
--   Groups   == the columns of a group as a part of the stripe
--   Room     == how far the numbers of the loop over all nodes go
--   Summing  == the running sums of the equations
--   Settled  == each promise settles answer and buffers, and rules wrong answers out
pub mod Refusals
pub mod Groups
pub mod Room
pub mod Summing
pub mod Settled
