-- What each function promises, for every input. What lies past the end of a list counts as 0, but for `copy`.
--   ByteIs list j x == `byte_at`: x is the byte at index j
--   LesserIs a b x  == `lesser`: x is the lesser of a and b
--   Multiplied c from before later == `add_multiple`: each byte of `before` plus c times the byte of `from`
--   Cleared before later == `clear`: as many zero bytes
--   CopiedOver from before later == `copy`: the bytes of `from` over the front of those of `before`, as far as both go
use Rattle.std.specs.Prelude.{◌≡◌, List, ℕ, ◌<◌, ◌++◌, min, length, get_or, take, drop}
use Rattle.field.specs.Number.{add, mul}

pub record ByteIs (list : List ℕ) (j x : ℕ) : Type 0 where
  pub value : x ≡ get_or list j 0

pub record LesserIs (a b x : ℕ) : Type 0 where
  pub value : x ≡ min a b

pub record Multiplied (c : ℕ) (from before later : List ℕ) : Type 0 where
  pub same_length : length later ≡ length before
  pub bytes : (j : ℕ) → j < length before → get_or later j 0 ≡ add (get_or before j 0) (mul c (get_or from j 0))

pub record Cleared (before later : List ℕ) : Type 0 where
  pub same_length : length later ≡ length before
  pub bytes : (a : ℕ) → a < length before → get_or later a 0 ≡ 0

pub record CopiedOver (from before later : List ℕ) : Type 0 where
  pub bytes : later ≡ take (length before) from ++ drop (length from) before
