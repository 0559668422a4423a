-- Why filling keeps its promises.
--   Flags      == no flag above n, and how many there are
--   Taken      == what the checks ask for, and what is then written
--   Attempts   == one stripe filled in scratch: what is written, or that nothing fills it
--   Settled    == each promise settles answer and stripe, and rules wrong answers out
pub mod Flags
pub mod Taken
pub mod Attempts
pub mod Settled
