-- Why what is said of chosen nodes holds.
--   Counting == the nodes past the last flag
--   Listing  == the list of chosen nodes
--   Settled  == each promise settles the result, and rules wrong answers out
pub mod Counting
pub mod Listing
pub mod Settled
