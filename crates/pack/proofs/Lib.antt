-- Why reading a pack keeps its promise.
--   EndToEnd  == columns end to end: two stripes with the same columns at the nodes of a set
--   Placings  == the loop that puts the columns of a pack in their places
--   Passed    == what `read_pack` refuses before it fills; what is accepted is read
--   Unpacking == the stripe of a pack, and that a whole stripe's pack gives that stripe
--   Owed      == what filling a well-formed pack owes, from what `fill` answers
--   Settled   == the promise settles answer and bytes, and rules wrong answers out
pub mod EndToEnd
pub mod Placings
pub mod Passed
pub mod Unpacking
pub mod Owed
pub mod Settled
