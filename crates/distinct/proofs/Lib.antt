-- Points that differ, or don't.
--   Indices  == indices below 4
--   Distinct == points differ, or they don't
--   Settled  == the promise settles what is answered, and rules wrong answers out
pub mod Indices
pub mod Distinct
pub mod Settled
