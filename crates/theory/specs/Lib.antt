-- The mathematics of the code: the definitions. Laws about them stand in proofs/. Nodes, groups, places and rows count from 0.
--   Field   == a field of characteristic 2
--   Sum     == finite sums
--   Power   == powers, and the sums of powers times unknowns
--   Digit   == digits of a row, a row with one digit set; place and group of a node
--   Set     == a set of nodes and its count, and a list of its nodes
--   System  == systems of equations in powers of points
--   Newton  == elimination without pivots
--   Code    == the parameters, and what is assumed of them
--   Weight  == the weight of a node at a row; the mate
--   Pair    == a node and its mate: the two symbols from the two weights
--   Share   == what one column adds to an equation: source 000, equation (4)
--   Score   == the order in which rows are settled
--   Free    == free groups and good rows: filling and rebuilding as one
--   Level   == filling level by level
--   Whole   == a row meets its equations, a stripe is whole, a stripe fills another
--   Correction == filling by corrections
--   Read    == the rows read for a failed node, and what a rebuilt column must meet
pub mod Field
pub mod Sum
pub mod Power
pub mod Digit
pub mod Set
pub mod System
pub mod Newton
pub mod Code
pub mod Weight
pub mod Pair
pub mod Share
pub mod Score
pub mod Free
pub mod Level
pub mod Whole
pub mod Correction
pub mod Read
