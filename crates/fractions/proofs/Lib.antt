-- Why the function that adds a fraction keeps its promise.
--   Refusals  == what is not refused has passed all tests, and the other way round
--   Positions == the rows read by their positions
--   Gains     == what is added to running sums
--   Alone     == what one fraction alone brings to the equations of the rows read
--   Pairs     == a helper and the failed node, in the numbers of the code
--   Settled   == the promise settles answer and sums, and rules wrong answers out
pub mod Refusals
pub mod Positions
pub mod Gains
pub mod Alone
pub mod Pairs
pub mod Settled
