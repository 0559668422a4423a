-- Why the column is found.
--   Finding == a column from its sums
--   Settled == the promise settles answer and column, and rules wrong answers out
pub mod Finding
pub mod Settled
