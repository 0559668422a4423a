-- What the C library promises: of most functions what the entry promises, read through `Word`.
--   Word    == shapes and answers as numbers
--   Promise == what is promised of a shape's number, and where numbers are written through pointers
pub mod Word
pub mod Promise
