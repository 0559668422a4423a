-- What filling by levels promises.
--   Promise == what `fill_levels` promises
--   Kernel  == what the private functions do
pub mod Promise
pub mod Kernel
