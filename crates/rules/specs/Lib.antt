-- Document 01's rules. In the order of reading, which is document 01's:
--   Point    == the points and γ
--   Shape    == sizes of a shape, which are accepted; nodes, groups, places; digits of a row; phantoms
--   Stripe   == columns and symbols of a stripe; a record laid and read back
--   Rising   == a list of the numbers that pass a test
--   Equation == weights, the equations, whole, the lowest failure
--   Fraction == rows read, fractions, what a rebuilt column meets
--   Lost     == the lost set, and what a filled stripe is
--   Refusal  == the first refusal that applies; the numbers of the refusals; refusals 1 and 3 (the lists stand by entry in the entries' crates)
--   Sizes    == what the type of the sizes keeps
--   Paper    == the equations of Ye and Barg as they print them
--   Bench    == the bench stripes of document 01 that are proved
--   Promise  == what each public function of this crate promises
-- Words of the kit: leb, ltb, eqb == at most, below, equal, as tests; cond b x y == x where b holds, else y; get_or list j 0 == entry j, from 0, or 0 past the
-- end; take, drop, replicate, ++ == as usual of lists; compare x y == lt, eq or gt; x - y == 0 where y is greater; x / y and x % y == quotient and remainder.
pub mod Point
pub mod Shape
pub mod Stripe
pub mod Rising
pub mod Equation
pub mod Fraction
pub mod Lost
pub mod Refusal
pub mod Sizes
pub mod Paper
pub mod Bench
pub mod Promise
