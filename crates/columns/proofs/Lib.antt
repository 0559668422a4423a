-- Why the functions over the bytes of columns keep their promises, and what other crates use of it.
--   Kernels  == a list that a loop writes byte by byte
--   Adding   == sums with products
--   Parts    == a part of a buffer, lent on and given back
--   Columns  == columns written one after the other
--   Carrying == a digit carried along from row to row
--   Settled  == each promise settles the result, and rules wrong answers out
pub mod Kernels
pub mod Adding
pub mod Parts
pub mod Columns
pub mod Carrying
pub mod Settled
