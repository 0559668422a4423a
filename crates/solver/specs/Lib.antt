-- Columns of unknowns: at every row as many as there are equations, by the powers of distinct points.
--   Solve   == what `unknowns` solves
--   Promise == what it promises
--   Kernel  == what the private functions promise
pub mod Solve
pub mod Promise
pub mod Kernel
