-- What the functions over the bytes of columns promise.
--   Promise == of each
--   Kernel  == what the private function does; no promise cites it
pub mod Promise
pub mod Kernel
