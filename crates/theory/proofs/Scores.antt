-- Laws of the score of a row. In order: its bounds; the score changes at the mate's row by the node and its mate.
use mathlib.Core.Path.{◌≡◌, refl, ap}
use mathlib.Core.Bool.{Bool, true, false, not, ◌&&◌, and-false}
use Prim.Native.Nat.{ℕ, zero, suc, ◌+◌, ◌*◌, ◌≤◌, ◌<◌}
use native.Mathlib.Nat.{suc-mul}
use native.Mathlib.Omega.{arith}
use Rattle.theory.specs.Digit.{digit, group, node}
use Rattle.theory.specs.Set.{one_if, count}
use Rattle.theory.specs.Score.{scored, score}
use Rattle.theory.specs.Weight.{mate_node, mate_row}
use Rattle.theory.proofs.Counts.{count-zero, count-suc, count_le, count_change, count_remove, count-split, one_if_le}
use Rattle.theory.proofs.Digits.{digit_lt, node-split, group_lt}
use Rattle.theory.proofs.Mates.{mate_digit, mate_other}

pub score_le : (s m : ℕ) (free L : ℕ → Bool) (a : ℕ) → score s m free L a ≤ m
unfolding score
score_le s m free L a = count_le m (scored s free L a)

module _ (s : ℕ) (some : 0 < s) where
  scored-one : (v : ℕ) (free L : ℕ → Bool) (a : ℕ) → one_if (scored s free L a v) ≤ count s (λ i. L (v * s + i))
  unfolding node
  scored-one v free L a = go (L (v * s + digit s a v)) refl
    where
      go : (b : Bool) → L (v * s + digit s a v) ≡ b → one_if (not (free v) && b) ≤ count s (λ i. L (v * s + i))
      go false e = rw and-false (omega arith)
      go true e =
          omega (arith, one_if_le (not (free v) && true), count_remove s (digit s a v) (λ i. L (v * s + i)) (digit_lt s some a v) e)

  -- each group that is scored has a node of its own in the set
  pub score-few : (m : ℕ) (free L : ℕ → Bool) (a : ℕ) → score s m free L a ≤ count (m * s) L
  unfolding score
  score-few zero free L a = rw count-zero (omega arith)
  score-few (suc m) free L a =
      rw (count-suc, suc-mul) (omega (arith, score-few m free L a, count-split (m * s) s L, scored-one m free L a))

  pub score_mate : (m : ℕ) (free L : ℕ → Bool) (a i : ℕ) → i < m * s → free (group s i) ≡ false
      → score s m free L (mate_row s a i) + one_if (L (mate_node s a i)) ≡ score s m free L a + one_if (L i)
  unfolding score mate_node
  score_mate m free L a i h counts =
      simp (counts, mate_digit s some a i, node-split)
      at (count_change m (group s i) (scored s free L (mate_row s a i)) (scored s free L a) (group_lt s some m i h) others)
    where
      others : (v : ℕ) → v < m → (v ≡ group s i → ⊥) → scored s free L (mate_row s a i) v ≡ scored s free L a v
      others v l ne = ap (λ d. not (free v) && L (node s v d)) (mate_other s some a i v ne)
