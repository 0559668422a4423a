-- Why the rebuilder keeps its promise.
--   Taken     == what the checks ask for, and what is then written
--   Gathering == the running sums, helper by helper
--   Finding   == the failed column from the sums of all helpers
--   Settled   == the promise settles answer and column, and rules wrong answers out
pub mod Taken
pub mod Gathering
pub mod Finding
pub mod Settled
