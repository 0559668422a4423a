-- Why the promises hold.
--   Codes    == an answer and the number that is returned for it say the same
--   Words    == a shape and the number that says it
--   Pointers == what is owed where numbers are written through pointers
--   Settled  == each promise settles its results, and rules wrong answers out
pub mod Codes
pub mod Words
pub mod Pointers
pub mod Settled
