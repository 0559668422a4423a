-- Why the promises hold, and what the rules are.
--   Checks    == the first refusal that applies
--   Numbers   == a refusal and its number say the same
--   Accepted  == what acceptance says of a shape; bounds of every accepted shape
--   Sizing    == what `measure` finds of a shape within the limits
--   Measures  == what the answer of `measure` tells
--   Risings   == lists of the numbers that pass a test
--   Pieces    == lists laid end to end
--   RowsRead  == the rows read in closed form, fractions
--   Lengths   == lengths and groups of an accepted shape, in the sizes that `measure` gives
--   House     == the code of theory that a shape is; the points differ
--   Ties      == the rules are theory's
--   Layouts   == document 01, "Shape", sentence by sentence
--   Weighing  == document 01, "The equations", sentence by sentence; the lowest failure
--   Asking    == what an equation of a row read asks for
--   Printed   == the rules are the paper's
--   Stripes   == stripes of bytes by their symbols; sums and multiples
--   LostSets  == how many nodes are lost; the parity columns as a lost set
--   Fillings  == what is filled in is the only one, exists with r lost, and is linear
--   Rebuildings == what is rebuilt is the only one, and what was cut
--   Benches   == the bench stripes
--   Settled   == each promise settles its result, and rules wrong answers out
pub mod Checks
pub mod Numbers
pub mod Accepted
mod Sizing
pub mod Measures
pub mod Risings
pub mod Pieces
pub mod RowsRead
pub mod Lengths
pub mod House
pub mod Ties
pub mod Layouts
pub mod Weighing
pub mod Asking
pub mod Printed
pub mod Stripes
pub mod LostSets
pub mod Fillings
pub mod Rebuildings
pub mod Benches
pub mod Settled
