-- The numbers of an array of bytes by value are below 256, as the check tells of a parameter (`c.well_formed`).
use mathlib.Core.List.{List, [], ◌∷◌}
use Prim.Native.Nat.{ℕ, zero, suc, ◌<◌}
use native.Mathlib.Omega.{arith}
use lib.ListN.{get_or}
use mir.Syntax.{w8}
use mir.Val.{Val}
use denote.Laws.{Is}
use denote.Plain.{UInt}
use denote.Array.{Array, each}
use denote.Shadow.{shadow}

each-byte : (xs : List ℕ) (vs : List Val) → shadow (each ℕ (UInt w8).own_val xs vs) → (j : ℕ) → get_or xs j 0 < 256
each-byte [] vs s j = omega arith
each-byte (x ∷ xs) [] s j = absurd s
each-byte (x ∷ xs) (v ∷ vs) s zero = s.0.1
each-byte (x ∷ xs) (v ∷ vs) s (suc j) = each-byte xs vs s.1 j

pub array_byte : (n : ℕ) (xs : List ℕ) (vs : List Val) → Is (Array (UInt w8) n) xs vs → (j : ℕ) → get_or xs j 0 < 256
array_byte n xs vs p = each-byte xs p.0 p.1.1
