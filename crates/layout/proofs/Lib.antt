-- Why reading the layout of a pack keeps its promise.
--   Taken     == what isn't refused has passed every check, and the other way round
--   Checking  == what the tests of total and offsets find, in the words of the refusals
--   Excess    == inputs longer than the largest pack
--   Packs     == accepted exactly when the input is `packed` of what is found; the largest pack; excess shows
--   Worked    == document 01's pack
--   Settled   == the promise settles its answer, and rules wrong answers out
pub mod Taken
pub mod Checking
pub mod Excess
pub mod Packs
pub mod Worked
pub mod Settled
