-- One stripe filled in scratch: what the scratch says of the lent stripe. In order: the chosen nodes as a set of document 01's nodes; the scratch has the
-- survivors; it fills by as many equations as nodes are chosen; where it meets all r it is what is written, and where it doesn't nothing fills the stripe.
use mathlib.Core.Path.{◌≡◌, refl, sym, ap, subst, ◌∙◌}
use mathlib.Core.Bool.{Bool, true, false, not, cond}
use mathlib.Core.List.{List}
use mathlib.Core.Logic.{◌⊎◌, inl, inr}
use Prim.Native.Nat.{ℕ, suc, ◌+◌, ◌-◌, ◌*◌, ◌<◌, ◌≤◌}
use native.Mathlib.Decide.{dec_le}
use native.Mathlib.Omega.{arith}
use lib.ListN.{get_or}
use Rattle.theory.specs.Set.{count}
use Rattle.theory.specs.Code.{nodes}
use Rattle.theory.specs.Whole.{Whole, Same, AgreeOff, Fills}
use Rattle.theory.proofs.Counts.{count-beyond}
use Rattle.theory.proofs.Filling.{fewer_equations}
use Rattle.field.proofs.Numbers.{number}
use mathlib.Core.Option.{none-ne-some, some-ne-none, some-injective}
use Rattle.std.specs.Prelude.{Ok, Err}
use Rattle.rules.specs.declared.refusals.Refusal.TheVariants.{NoWholeStripe}
use Rattle.rules.specs.declared.shapes.Shape.{Shape}
use Rattle.rules.specs.Shape.{groups, group_size}
use Rattle.rules.specs.Shape as shapes
use Rattle.rules.specs.Stripe.{IsBytes, stripe_length, symbol}
use Rattle.rules.specs.Equation as rules
use Rattle.rules.specs.Lost.{Filled}
use Rattle.rules.proofs.Accepted.{Bounds, nodes-least}
use Rattle.rules.proofs.House.{code, stripe, house_lawful}
use Rattle.rules.proofs.Ties.{symbol-phantom, whole_tie}
use Rattle.rules.proofs.Stripes.{symbol-at}
use Rattle.rules.proofs.Fillings.{filled→fills, fills→filled}
use Rattle.corrections.specs.Correction.{chosen}
use Rattle.levels.specs.Promise.{NoneFrom, LevelsCorrected}
use Rattle.levels.proofs.Nodes.{real-chosen}
use Rattle.lost.specs.Promise.{OthersAre, Copied}
use Rattle.fill.specs.Kernel.{Standing, FilledOne}

module _ (sh : Shape) (b : Bounds sh) (flags : List Bool) (none : NoneFrom sh.n flags) where
  abbrev set : ℕ → Bool
  set i = chosen flags (i - 1)

  -- what holds of real nodes holds of all, since a phantom holds 0 in every stripe
  all-nodes : (x y : List ℕ) (i a : ℕ) → (i < sh.n → symbol sh x (suc i) a ≡ symbol sh y (suc i) a) → symbol sh x (suc i) a ≡ symbol sh y (suc i) a
  all-nodes x y i a h = go (dec_le (suc i) sh.n)
    where
      go : Dec (suc i ≤ sh.n) → symbol sh x (suc i) a ≡ symbol sh y (suc i) a
      go (yes k) = h k
      go (no k) = symbol-phantom sh x (suc i) a (omega arith) ∙ sym (symbol-phantom sh y (suc i) a (omega arith))

  same_byte : (x y : List ℕ) (i a : ℕ) → i < sh.n → get_or x (i * shapes.rows sh + a) 0 ≡ get_or y (i * shapes.rows sh + a) 0
      → symbol sh x (suc i) a ≡ symbol sh y (suc i) a
  same_byte x y i a h e = symbol-at sh x i a h ∙ e ∙ sym (symbol-at sh y i a h)

  -- the survivors are copied to scratch
  pub survivors : (others : List Bool) (list zeros start : List ℕ) → OthersAre flags others → Copied others sh.n (shapes.rows sh) list zeros start
      → AgreeOff (code sh) (chosen flags) (stripe sh (symbol sh list)) (stripe sh (symbol sh start))
  unfolding shapes.rows
  survivors others list zeros start turned copied i a il al out =
      ap number
      (all-nodes list start i a (λ h. same_byte list start i a h
      (sym (copied.each i a h al ∙ ap (λ c. cond c (get_or list (i * shapes.rows sh + a) 0) (get_or zeros (i * shapes.rows sh + a) 0)) (kept h)))))
    where
      kept : i < sh.n → chosen others i ≡ true
      kept h = turned.each i (omega (arith, b.n-most)) ∙ ap not out

  module _ (k : ℕ) (exact : k ≡ count sh.n (chosen flags)) (few : k ≤ sh.r) (list start full : List ℕ)
      (agree : AgreeOff (code sh) (chosen flags) (stripe sh (symbol sh list)) (stripe sh (symbol sh start)))
      (levels : LevelsCorrected sh flags k start full) where
    -- the scratch fills the lent stripe by k equations
    fills : Fills (code sh) k (chosen flags) (stripe sh (symbol sh list)) (stripe sh (symbol sh full))
    fills = record {
      whole = levels.fills.whole;
      kept = λ i a il al out. agree i a il al out ∙ levels.fills.kept i a il al out;
    }

    chosen-all : count (nodes (code sh)) (chosen flags) ≡ k
    chosen-all = count-beyond sh.n (groups sh * group_size sh) (chosen flags) none (nodes-least sh b) ∙ sym exact

    whole-at-r : k ≡ sh.r → rules.Whole sh full
    whole-at-r e = (whole_tie sh b full).1 (subst (λ r. Whole (code sh) r (stripe sh (symbol sh full))) e fills.whole)

    pub stands-whole : (k ≡ sh.r) ⊎ rules.Whole sh full → rules.Whole sh full
    stands-whole (inl e) = whole-at-r e
    stands-whole (inr w) = w

    pub written-fills : {b : Bool} → b ≡ true → Standing sh k full b → (later : List ℕ) → IsBytes (stripe_length sh) list → IsBytes (stripe_length sh) later
        → Copied flags sh.n (shapes.rows sh) full list later → FilledOne sh flags k list (Ok tt) later
    unfolding shapes.rows
    written-fills taken stands later bl bw copied = record {
      fills = λ e.
          fills→filled sh b set list later bl bw (stripe sh (symbol sh full)) same
          (record {
            whole = (whole_tie sh b full).0 (stands-whole (stands.stands taken));
            kept = λ i a il al out. fills.kept i a il al (sym (real-chosen sh flags none i) ∙ out);
          });
      none-fills = λ q e. absurd (none-ne-some q e);
      kept = λ q e. absurd (none-ne-some q e);
      always = λ e. refl;
    }
      where
        same : Same (code sh) (stripe sh (symbol sh full)) (stripe sh (symbol sh later))
        same i a il al = go (chosen flags i) refl
          where
            byte : (c : Bool) → chosen flags i ≡ c → i < sh.n
                → get_or later (i * shapes.rows sh + a) 0 ≡ cond c (get_or full (i * shapes.rows sh + a) 0) (get_or list (i * shapes.rows sh + a) 0)
            byte c e h = copied.each i a h al ∙ ap (λ d. cond d (get_or full (i * shapes.rows sh + a) 0) (get_or list (i * shapes.rows sh + a) 0)) e

            go : (c : Bool) → chosen flags i ≡ c → stripe sh (symbol sh full) i a ≡ stripe sh (symbol sh later) i a
            go true e = ap number (all-nodes full later i a (λ h. same_byte full later i a h (sym (byte true e h))))
            go false e =
                sym (fills.kept i a il al e) ∙ ap number (all-nodes list later i a (λ h. same_byte list later i a h (sym (byte false e h))))

    pub unwritten_unfilled : {b : Bool} → b ≡ false → Standing sh k full b → FilledOne sh flags k list (Err NoWholeStripe) list
    unwritten_unfilled left stands = record {
      fills = λ e. absurd (some-ne-none 5 e);
      none-fills = λ q e. (sym (some-injective _ _ e), λ other w. stands.falls left (met other w));
      kept = λ q e. refl;
      always = λ e. absurd (stands.falls left (whole-at-r e));
    }
      where
        met : (other : List ℕ) → Filled sh set list other → rules.Whole sh full
        met other w =
            (whole_tie sh b full).1
            ((fewer_equations (code sh) (house_lawful sh b) k sh.r (chosen flags) (stripe sh (symbol sh list)) (stripe sh (symbol sh full)) chosen-all few fills).0 (
              stripe sh (symbol sh other),
              record {
                whole = (filled→fills sh b set list other w).whole;
                kept = λ i a il al out. (filled→fills sh b set list other w).kept i a il al (real-chosen sh flags none i ∙ out);
              },
            ))
