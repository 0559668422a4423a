-- The mathematics of the code: the laws, each file on those before it. Nothing is assumed but the parameters of `Code` and what `Lawful` says of them.
--   Ring        == a field of characteristic 2: identities by `simp ring`, cancelling
--   Counts      == sets and their counts
--   Sums        == finite sums
--   Powers      == powers, and sums of powers times unknowns
--   Vandermonde == as many equations as places settle and solve
--   Newton      == elimination without pivots: from powers of points to a triangle
--   Digits      == digits, nodes by group and place
--   Mates       == the mate of the mate is the node itself
--   Scores      == the score of a row and of a mate's row
--   Weights     == the coupled pair: two weights settle two symbols
--   Shares      == the shares of all columns make an equation; phantoms drop out
--   Linearity   == sums and multiples of stripes
--   Settled     == uniqueness, once for filling and rebuilding
--   Levels      == existence, level by level
--   Filling     == filling is unique, exists and is linear; fewer lost than equations
--   Corrections == filling by corrections is filling level by level
--   Rebuilding  == there is exactly one column for any fractions
--   Systems     == the equations of a row as a square system
pub mod Ring
pub mod Counts
pub mod Sums
pub mod Powers
pub mod Vandermonde
pub mod Newton
pub mod Digits
pub mod Mates
pub mod Scores
pub mod Weights
pub mod Shares
pub mod Linearity
pub mod Settled
pub mod Levels
pub mod Filling
pub mod Corrections
pub mod Rebuilding
pub mod Systems
