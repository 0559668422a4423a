-- `fill_wide` meets its contract: a number of more than 16 bits has one above n.
use mathlib.Core.Path.{◌≡◌, refl, sym, ap, ◌∙◌}
use mathlib.Core.List.{List}
use mathlib.Core.Option.{none, some, none-ne-some}
use Prim.Native.Nat.{ℕ, ◌/◌, ◌^◌, ◌<◌}
use lib.ListN.{length}
use borrow.Author.Tests.{eq-eqb, ne_eqb}
use Rattle.std.specs.Prelude.{Err}
use Rattle.rules.specs.declared.shapes.Shape.{Shape}
use Rattle.rules.specs.declared.refusals.Refusal.TheVariants.{BadNode}
use Rattle.rules.specs.Stripe.{stripe_length}
use Rattle.rules.specs.Lost.{bit_above}
use Rattle.rules.specs.Refusal.{shape_refusal}
use Rattle.rules.proofs.Accepted.{is-accepted, bounds}
use Rattle.rules.proofs.Measures.{measured-sizes, shape-is}
use Rattle.fill.specs.Refusal.{fill_refusal}
use Rattle.fill.specs.Promise.{FillMeets}
use Rattle.capi.proofs.Words.{bits_above}
use Rattle.capi.proofs.stripes.fill_wide.Goals as goal

wide : (sh : Shape) (lost : ℕ) (stripe : List ℕ) → shape_refusal sh ≡ none → length stripe ≡ stripe_length sh → 65535 < lost → fill_refusal sh lost stripe ≡ some 3
unfolding fill_refusal bit_above
wide sh lost stripe taken exact large =
    simp (
      is-accepted sh taken,
      eq-eqb (length stripe) (stripe_length sh) exact,
      ne_eqb (lost / 2 ^ sh.n) 0 (bits_above sh.n lost (bounds sh taken).n-most large),
    )

refused : (sh : Shape) (lost : ℕ) (stripe : List ℕ) → fill_refusal sh lost stripe ≡ some 3 → FillMeets sh lost stripe (Err BadNode) stripe
refused sh lost stripe e = record {
  refused = λ q h. sym e ∙ h;
  filled = λ h k. absurd (none-ne-some 3 (sym h ∙ e));
  unfillable = λ h q k. absurd (none-ne-some 3 (sym h ∙ e));
  kept = λ q h. refl;
}

pub returns : goal.returns
returns c =
    let s = measured-sizes _ c.measure.ensures c.in-Ok.is in
    refused _ _ _
    (wide _ _ _ s.taken
    (c.check_len.ensures.when.0 (rw c.in_ok-check_len.was refl) ∙ c.stripe_len.ensures.is ∙ ap stripe_length (shape-is _ _ s))
    c.requires)
