-- Why the program writes what it does.
--   Settled == an input has one text, and some are ruled out
pub mod Settled
