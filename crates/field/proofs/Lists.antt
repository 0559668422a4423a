-- The powers of 2 and their logarithms as computed lists. That a table of the code is such a list is one computation over the whole table, at
-- the function that reads it, and no entry is copied here.
--   powers n x == n numbers from x on, each the double of the one before
--   place a xs == the place of a in the list xs
--   logarithms == the places of 1 to 255 among the powers of 2, with a 0 in front that nothing here reads
--   log a      == the logarithm of a, for a other than 0
use mathlib.Core.Bool.{true, false}
use mathlib.Core.List.{List, [], ◌∷◌}
use Prim.Native.Nat.{ℕ, zero, suc, ◌<◌}
use native.Mathlib.Omega.{arith}
use lib.Dec.{eqb}
use lib.ListN.{get_or}
use Rattle.field.specs.Number.{double}
use Rattle.field.proofs.Product.{double-below}

unfoldable pub powers : ℕ → ℕ → List ℕ
powers zero x = []
powers (suc n) x = x ∷ powers n (double x)

unfoldable pub place : ℕ → List ℕ → ℕ
place a [] = 0
place a (x ∷ xs) = elim (eqb a x) [ true ↦ 0 | false ↦ suc (place a xs) ]

-- the places of n numbers from a on
unfoldable pub places : ℕ → ℕ → List ℕ → List ℕ
places zero a xs = []
places (suc n) a xs = place a xs ∷ places n (suc a) xs

unfoldable pub logarithms : List ℕ
logarithms = 0 ∷ places 255 1 (powers 255 1)

unfoldable pub log : ℕ → ℕ
log a = get_or logarithms a 0

pub powers-below : (n x i : ℕ) → x < 256 → get_or (powers n x) i 0 < 256
unfolding powers
powers-below zero x i h = omega arith
powers-below (suc n) x zero h = h
powers-below (suc n) x (suc i) h = powers-below n (double x) i (double-below x h)
