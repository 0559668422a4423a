-- Why the flags, and the columns copied by them, are as promised.
--   Flagged  == where a node has no flag
--   Settled  == each promise settles its result, and rules wrong answers out
pub mod Flagged
pub mod Settled
