-- What `przytulisz_sizes` owes, of a shape that is refused and of one that is accepted.
use mathlib.Core.Path.{◌≡◌, refl, sym, ap, ◌∙◌}
use mathlib.Core.Option.{some, none-ne-some}
use Prim.Native.Nat.{ℕ}
use Rattle.rules.specs.declared.shapes.Shape.{Shape}
use Rattle.rules.specs.declared.shapes.Sizes.{Sizes}
use Rattle.rules.specs.Refusal.{shape_refusal}
use Rattle.rules.specs.Promise.{SizesAre}
use Rattle.capi.specs.Word.{refused_of}
use Rattle.capi.specs.Promise.{SizesMeet}

module _ (sh : Shape) (k m s l : ℕ) where
  pub sizes-refused : {code : ℕ} → code ≡ 1 → shape_refusal sh ≡ some 1 → SizesMeet sh k m s l code k m s l
  unfolding refused_of
  sizes-refused f e = record { answered = ap refused_of f ∙ sym e; written = λ h. absurd (none-ne-some 1 (sym h ∙ e)); kept = λ q h. (refl, refl, refl, refl) }

  pub sizes-told : (z : Sizes) → SizesAre sh z → SizesMeet sh k m s l 0 z.k z.m z.s z.l
  unfolding refused_of
  sizes-told z h = record {
    answered = sym h.taken;
    written = λ e. (h.k-is, h.m-is, h.s-is, h.l-is);
    kept = λ q e. absurd (none-ne-some q (sym h.taken ∙ e));
  }
