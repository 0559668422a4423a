-- What this crate promises.
--   Number     == the numbers 0 to 255: sum, product, power, quotient
--   Polynomial == the product as the standard prints it
--   Promise    == what each public function promises
pub mod Number
pub mod Polynomial
pub mod Promise
