-- What this crate promises. The numbers 0 to 255, and `ProductIs`, which `mul` promises, are in crate `field`.
--   Promise == what each other public function promises
pub mod Promise
