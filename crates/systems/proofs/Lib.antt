-- Why what is found solves what is given.
--   Arrays       == an array by value has bytes
--   Sums         == sums of numbers of the field
--   Ties         == the systems in theory's words
--   Elimination  == from the powers of the points to a triangle
--   Substitution == back substitution
--   Settled      == the promise settles what is found, and rules wrong answers out
pub mod Arrays
pub mod Sums
pub mod Ties
pub mod Elimination
pub mod Substitution
pub mod Settled
