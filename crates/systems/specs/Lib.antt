-- What is solved: as many unknowns as there are equations, by the powers of distinct points.
--   System  == the systems in powers of points
--   Promise == what `solve` promises
--   Kernel  == what the private functions promise
pub mod System
pub mod Promise
pub mod Kernel
