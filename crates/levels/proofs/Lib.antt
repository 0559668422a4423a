-- Why filling by levels keeps its promises.
--   Nodes      == the chosen nodes as a set
--   Losses     == what is known of lost nodes that are to be filled
--   Placements == columns put where the nodes listed have theirs
--   Shortfalls == what a row's equations fall short by and the corrections by it, in theory's words
--   Steps      == level by level
--   Settled    == the promise settles answer and bytes, and rules wrong answers out
pub mod Nodes
pub mod Losses
pub mod Placements
pub mod Shortfalls
pub mod Steps
pub mod Settled
