-- Why the functions by the tables keep their promises. The lists that the tables are, and the laws of logarithms, are in crate `field`.
--   Exponents == powers and quotients by logarithms
--   Settled   == each promise settles its result; wrong answers ruled out
pub mod Exponents
pub mod Settled
