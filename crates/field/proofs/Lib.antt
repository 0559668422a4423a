-- The laws of the numbers 0 to 255. A later crate cites `Numbers`, and the laws by number where it computes.
--   Xor        == sums
--   Tests      == facts about every number below a bound, by one computed test
--   Linear     == functions that keep sums; two that agree at powers of 2 agree
--   Product    == products: a commutative ring; the product by eight bits
--   Printed    == the product is the printed one
--   Division   == the printed one is a remainder of a division
--   Lists      == the powers of 2 and their logarithms as computed lists, which the tables of crate `tables` are
--   Inverses   == inverses, by one computed test
--   Numbers    == the instance of theory's field
--   Powers     == powers: theory's laws at that field
--   Logarithms == the powers of 2 are all the non-zero numbers, each once; exponents wrap
--   Lawful     == a code that meets what theory assumes
--   Settled    == each promise settles its result; wrong answers ruled out
pub mod Xor
pub mod Tests
pub mod Linear
pub mod Product
pub mod Printed
pub mod Division
pub mod Lists
pub mod Inverses
pub mod Numbers
pub mod Powers
pub mod Logarithms
pub mod Lawful
pub mod Settled
