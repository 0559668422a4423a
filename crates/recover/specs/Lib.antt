-- What finding a column from sums promises. The rules that it cites are in crate `rules`.
--   Promise == what `solve_rows` promises
--   Kernel  == what the private functions do; the promise doesn't cite it
pub mod Promise
pub mod Kernel
