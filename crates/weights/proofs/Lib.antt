-- Why the functions that add a node's share keep their promises.
--   Shares   == what one node adds to the sums
--   Refusing == what fits together isn't refused
--   Settled  == each promise settles answer and sums, and rules wrong answers out
pub mod Shares
pub mod Refusing
pub mod Settled
