-- What is promised of flags, and of columns copied by them.
--   Promise == of each function
pub mod Promise
