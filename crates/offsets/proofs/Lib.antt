-- Why reading the numbers of a pack keeps its promises.
--   Placing == where columns are to stand, and what is promised in the words of the refusals
--   Settled == each promise settles its answer, and rules wrong answers out
pub mod Placing
pub mod Settled
