-- What each function promises settles its result: two results that one promise allows are equal. And for each, two wrong answers that the promise rules
-- out. In order: `flags_of` and `parity_flags`, `others_of`, `copy_columns`: what can be copied is copied; both results; the wrong answers, at two
-- columns of one byte of which the second is chosen.
use mathlib.Core.Path.{◌≡◌, refl, sym, ap, ◌∙◌}
use mathlib.Core.Bool.{Bool, true, false, true≢false, ◌&&◌}
use mathlib.Core.List.{List, [], ◌∷◌}
use Prim.Native.Nat.{ℕ}
use native.Mathlib.Omega.{arith}
use lib.Dec.{ltb, leb}
use lib.ListN.{get_or, replicate}
use lib.Seq.{ext_get_or}
use Rattle.std.specs.Prelude.{Result, Ok, Err, IsOk}
use Rattle.rules.specs.declared.refusals.Misfit.{Misfit}
use Rattle.rules.specs.Lost.{is_lost}
use Rattle.rules.proofs.Stripes.{by_columns}
use Rattle.lost.specs.Promise.{FlagsAre, OthersAre, Copied, Copyable, CopiedAre}

pub flags_settled : (L : ℕ → Bool) (xs ys : List Bool) → FlagsAre L xs → FlagsAre L ys → xs ≡ ys
flags_settled L xs ys p q =
    ext_get_or false xs ys (p.all ∙ sym q.all) (λ i h. p.each i (omega (arith, p.all)) ∙ sym (q.each i (omega (arith, p.all))))

-- columns 2 and 3 are lost: no flag is set; the flags stand one node too early
pub flags-none-set : FlagsAre (is_lost 6) (replicate 16 false) → ⊥
unfolding is_lost
flags-none-set p = true≢false (sym (p.each 1 (omega arith)))

pub flags_too_early : FlagsAre (is_lost 6) (true ∷ true ∷ replicate 14 false) → ⊥
unfolding is_lost
flags_too_early p = true≢false (p.each 0 (omega arith))

-- nodes 2 and 3 of 3 are parity: the data node is flagged; a node above n is
pub parity-flags_data : FlagsAre (λ i. ltb 1 i && leb i 3) (true ∷ false ∷ false ∷ replicate 13 false) → ⊥
parity-flags_data p = true≢false (p.each 0 (omega arith))

pub parity-flags-above : FlagsAre (λ i. ltb 1 i && leb i 3) (false ∷ true ∷ true ∷ true ∷ replicate 12 false) → ⊥
parity-flags-above p = true≢false (p.each 3 (omega arith))

pub others_settled : (flags xs ys : List Bool) → OthersAre flags xs → OthersAre flags ys → xs ≡ ys
others_settled flags xs ys p q =
    ext_get_or false xs ys (p.all ∙ sym q.all) (λ i h. p.each i (omega (arith, p.all)) ∙ sym (q.each i (omega (arith, p.all))))

-- the flags as they were; and only the first two turned round
pub others_same : OthersAre (replicate 16 false) (replicate 16 false) → ⊥
others_same p = true≢false (sym (p.each 0 (omega arith)))

pub others-short : OthersAre (true ∷ replicate 15 false) (false ∷ true ∷ replicate 14 false) → ⊥
others-short p = true≢false (sym (p.each 2 (omega arith)))

module _ (flags : List Bool) (n l : ℕ) (from before : List ℕ) where
  -- what can be copied is copied
  pub copied-ok : (answer : Result (Unit {0}) Misfit) (later : List ℕ) → CopiedAre flags n l from before answer later → Copyable n l from before → IsOk answer
  copied-ok (Ok done) later p way = refl
  copied-ok (Err misfit) later p way = absurd (p.cannot refl way)

  copied-only : Copyable n l from before → (x y : List ℕ) → Copied flags n l from before x → Copied flags n l from before y → x ≡ y
  copied-only way x y p q =
      by_columns n l x y (p.same_length ∙ way.to_exact) (q.same_length ∙ way.to_exact) (λ i a hi ha. p.each i a hi ha ∙ sym (q.each i a hi ha))

  pub copied_settled : (a b : Result (Unit {0}) Misfit) (x y : List ℕ) → CopiedAre flags n l from before a x → CopiedAre flags n l from before b y
      → (a ≡ b) × (x ≡ y)
  copied_settled (Ok done) (Ok done') x y p q = (refl, copied-only (p.can refl) x y (p.copied refl) (q.copied refl))
  copied_settled (Ok done) (Err misfit) x y p q = absurd (q.cannot refl (p.can refl))
  copied_settled (Err misfit) (Ok done) x y p q = absurd (p.cannot refl (q.can refl))
  copied_settled (Err misfit) (Err misfit') x y p q = (refl, p.kept refl ∙ sym (q.kept refl))

abbrev CopiedSecond : Result (Unit {0}) Misfit → List ℕ → Type 0
CopiedSecond answer later = CopiedAre (false ∷ true ∷ replicate 14 false) 2 1 (5 ∷ 6 ∷ []) (7 ∷ 8 ∷ []) answer later

-- a misfit where it can be copied
pub copied_refuses : (misfit : Misfit) (later : List ℕ) → CopiedSecond (Err misfit) later → ⊥
copied_refuses misfit later p = p.cannot refl (record { few = omega arith; short = omega arith; to_exact = refl; from_exact = refl })

pub copied_writes_nothing : CopiedSecond (Ok tt) (7 ∷ 8 ∷ []) → ⊥
copied_writes_nothing p = let e : ◌≡◌ {A = ℕ} 8 6 = (p.copied refl).each 1 0 (omega arith) (omega arith) in omega arith

-- the first column, which isn't chosen, is copied too
pub copied_writes_all : CopiedSecond (Ok tt) (5 ∷ 6 ∷ []) → ⊥
copied_writes_all p = let e : ◌≡◌ {A = ℕ} 5 7 = (p.copied refl).each 0 0 (omega arith) (omega arith) in omega arith

-- a wrong length: taken; or refused, and a byte is written
pub copied_takes_short : (later : List ℕ) → CopiedAre (replicate 16 true) 2 1 (5 ∷ []) (7 ∷ 8 ∷ []) (Ok tt) later → ⊥
copied_takes_short later p = let e : ◌≡◌ {A = ℕ} 1 2 = (p.can refl).from_exact in omega arith

pub copied-refused_writes : (misfit : Misfit) → CopiedAre (replicate 16 true) 2 1 (5 ∷ []) (7 ∷ 8 ∷ []) (Err misfit) (5 ∷ 8 ∷ []) → ⊥
copied-refused_writes misfit p = let e : ◌≡◌ {A = ℕ} 5 7 = ap (λ (xs : List ℕ). get_or xs 0 0) (p.kept refl) in omega arith
