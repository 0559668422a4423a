-- What correcting columns promises.
--   Correction == what is added to the symbols of lost nodes, by what their weights fall short by
--   Promise    == what `correct_columns` promises
--   Kernel     == what the private function for one column does
pub mod Correction
pub mod Promise
pub mod Kernel
