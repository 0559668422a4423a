-- Why what is found solves what is given.
--   Combining == columns of unknowns, by constants
--   Units     == columns by the constants solve the systems of every row
--   Settled   == the promise settles what is answered and written, and rules wrong answers out
pub mod Combining
pub mod Units
pub mod Settled
