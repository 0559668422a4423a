-- What a node adds to the sums.
--   Promise == what each function promises
--   Kernel  == what the private function `weigh` does; no promise cites it
pub mod Promise
pub mod Kernel
