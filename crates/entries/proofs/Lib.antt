-- Why reading the entries of a pack keeps its promises.
--   Sets      == sets of nodes: the nodes of a set, one after the other; the other nodes
--   Positions == what stands where in a pack as it is printed
--   Good      == entries that aren't bad
--   Checking  == the entries, as the code looks at them
--   Settled   == each promise settles its answer, and rules wrong answers out
pub mod Sets
pub mod Positions
pub mod Good
pub mod Checking
pub mod Settled
