-- What the functions of the program that answer or write something promise.
--   Promise == what each promises
pub mod Promise
