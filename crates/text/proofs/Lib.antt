-- Why printing keeps its promise.
--   Puts     == words put into a text, and written on a page, one after another
--   Turns    == the loops: the words of a list put in turn, the nodes of a set
--   Digits   == a number in decimal
--   Columns  == a node's bytes, as a part of the stripe
--   Refusals == what calls for no refusal
--   Readers  == the text of what the pack reader answers
--   Lengths  == how long the text is at most
--   Settled  == the promise settles answer and text, and rules wrong answers out
pub mod Puts
pub mod Turns
pub mod Digits
pub mod Columns
pub mod Refusals
pub mod Readers
pub mod Lengths
pub mod Settled
