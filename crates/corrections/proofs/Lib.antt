-- Why correcting columns keeps its promises.
--   Groups   == the loop over the columns that are corrected
--   Settled  == the promise settles answer and bytes, and rules wrong answers out
pub mod Groups
pub mod Settled
