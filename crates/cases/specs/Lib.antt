-- What the function of the program that answers something promises.
--   Promise == what it promises
pub mod Promise
