-- What reading the numbers of a pack promises. The pack and its refusals are in crate `entries`.
--   Promise == what the functions promise
--   Kernel  == what the private functions promise
pub mod Promise
pub mod Kernel
