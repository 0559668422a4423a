-- What is said of chosen nodes.
--   Promise == what each public function promises
--   Kernel  == one point of a list
pub mod Promise
pub mod Kernel
