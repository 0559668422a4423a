-- Laws of the running sums. In order: sums over the nodes 1 to i, one node more; sums that hold no node yet; one node's share added; the lowest failure
-- read off the sums of all nodes; what the entries owe past their tests.
use mathlib.Core.Path.{◌≡◌, refl, sym, ap, ap₂, ◌∙◌, subst}
use mathlib.Core.Bool.{true}
use mathlib.Core.List.{List}
use Prim.Native.Nat.{ℕ, suc, ◌+◌, ◌-◌, ◌*◌, ◌<◌, min}
use native.Mathlib.Nat.{lt_trans, add-suc}
use native.Mathlib.Numerals.{add-one}
use native.Mathlib.Omega.{arith}
use lib.ListN.{length, get_or, take, drop, replicate, length-replicate, get_or-replicate}
use Rattle.std.specs.Prelude.{Option, None, Some, Ok}
use Rattle.field.specs.Number.{add, mul, power}
use Rattle.rules.specs.declared.shapes.Shape.{Shape}
use Rattle.rules.specs.Shape.{group_size, groups, rows, worth}
use Rattle.rules.specs.Point.{point_of}
use Rattle.rules.specs.Stripe.{Symbols, symbol, stripe_length}
use Rattle.rules.specs.Equation.{weight, sum_below, sum_to, equation}
use Rattle.rules.specs.declared.shapes.Sizes.{Sizes}
use Rattle.rules.proofs.Accepted.{Bounds, bounds}
use Rattle.rules.proofs.Measures.{own-sizes, sizes_of, sizes_are}
use Rattle.rules.proofs.Risings.{rising→listed, listed→rising}
use Rattle.weights.specs.Promise.{Shared, weight_at}
use Rattle.sums.specs.Kernel.{SumsAre, partial, FoundIn}
use Rattle.sums.specs.Answer.{FoundIs}
use Rattle.sums.specs.Refusal.{sums_refusal}
use Rattle.sums.specs.Promise.{TestMeets, SumsMeet}
use Rattle.sums.specs.declared.answers.Failure.{Failure}
use Rattle.columns.proofs.Kernels.{entry-within}
use Rattle.sums.proofs.Groups.{part-weight}
use Rattle.sums.proofs.Refusals.{test-accepted, sums-accepted}
use Rattle.rules.specs.Refusal.{shape_refusal}
use mathlib.Core.Option.{none, none-ne-some}

module _ (sh : Shape) (C : Symbols) where
  pub partial-zero : (a t : ℕ) → partial sh C 0 a t ≡ 0
  unfolding partial sum_to sum_below
  partial-zero a t = refl

  pub partial-suc : (i a t : ℕ) → partial sh C (suc i) a t ≡ add (partial sh C i a t) (mul (power (point_of sh (suc i)) t) (weight sh C a (suc i)))
  unfolding partial sum_to sum_below
  partial-suc i a t = refl

  pub partial-all : (a t : ℕ) → partial sh C (groups sh * group_size sh) a t ≡ equation sh C a t
  unfolding partial equation
  partial-all a t = refl

  -- a node's weights, shared out, take the sums one node further
  pub sums-suc : (i p : ℕ) (weights : ℕ → ℕ) (before later : List ℕ)
      → p ≡ point_of sh (suc i)
      → ((a : ℕ) → a < rows sh → weights a ≡ weight sh C a (suc i))
      → SumsAre sh C i before
      → Shared sh.r p (rows sh) weights before later
      → SumsAre sh C (suc i) later
  sums-suc i p weights before later is-point right was shared = record {
    all = shared.same_length ∙ was.all;
    bytes = λ t a ht ha.
        shared.bytes t a ht ha
        ∙ ap₂ (λ x q. add x (mul (power q t) (weights a))) (was.bytes t a ht ha) is-point
        ∙ ap (λ w. add (partial sh C i a t) (mul (power (point_of sh (suc i)) t) w)) (right a ha)
        ∙ sym (partial-suc i a t);
  }

-- the sums of no node are zeros
pub sums-clear : (z : Sizes) (C : Symbols) (k : ℕ) → k ≡ z.shape.r * z.l → SumsAre z.shape C 0 (replicate k 0)
sums-clear z C k exact =
    let all : k ≡ z.shape.r * rows z.shape = exact ∙ ap (λ l. z.shape.r * l) z.of_shape.l-is in
    record {
      all = length-replicate {A = ℕ} k 0 ∙ all;
      bytes = λ t a ht ha.
          get_or-replicate k (t * rows z.shape + a) 0 0 (omega (arith, all, entry-within ht ha)) ∙ sym (partial-zero z.shape C a t);
    }

-- One step of the loop over the nodes of group v: the group's columns are lent from a to e, w is what its digit counts, p the point of the node at place u.
abbrev NodeStep : Shape → List ℕ → Sizes → Type 0
NodeStep sh stripe z = (v u w p e : ℕ) (before later : List ℕ)
    → v < z.m
    → u < z.s
    → w ≡ worth sh (v + 1)
    → p ≡ point_of sh (v * z.s + u + 1)
    → e ≡ min (v * z.s * z.l + z.s * z.l) (stripe_length sh)
    → SumsAre sh (symbol sh stripe) (v * z.s + u) before
    → Shared z.shape.r p z.l (weight_at z.s w z.l (take (e - v * z.s * z.l) (drop (v * z.s * z.l) stripe)) u) before later
    → SumsAre sh (symbol sh stripe) (v * z.s + (u + 1)) later

module _ (sh : Shape) (b : Bounds sh) (stripe : List ℕ) where
  node-step-at : NodeStep sh stripe (sizes_of sh b)
  unfolding stripe_length
  node-step-at v u w p e before later of_groups inside is-worth is-point is-end was shared =
      rw (add-one u, add-suc (v * group_size sh) u)
      (sums-suc sh (symbol sh stripe) (v * group_size sh + u) p _ before later (is-point ∙ ap (point_of sh) (add-one (v * group_size sh + u))) right was shared)
    where
      right : (a : ℕ) → a < rows sh
          → weight_at (group_size sh) w (rows sh) (take (e - v * group_size sh * rows sh) (drop (v * group_size sh * rows sh) stripe)) u a
          ≡ weight sh (symbol sh stripe) a (suc (v * group_size sh + u))
      right a ha = rw (is-worth, is-end) (part-weight sh b stripe a v u ha of_groups inside)

pub node-step : (z : Sizes) (stripe : List ℕ) → NodeStep z.shape stripe z
node-step z stripe =
    let b = bounds z.shape z.of_shape.taken in
    subst (NodeStep z.shape stripe) (sym (sizes_are z.shape z (own-sizes z) b)) (node-step-at z.shape b stripe)

-- what the sums of all nodes say of the stripe
module _ (sh : Shape) (stripe sums : List ℕ) (all : SumsAre sh (symbol sh stripe) (groups sh * group_size sh) sums) where
  sum_is : (a t : ℕ) → a < rows sh → t < sh.r → get_or sums (t * rows sh + a) 0 ≡ equation sh (symbol sh stripe) a t
  sum_is a t ha ht = all.bytes t a ht ha ∙ partial-all sh (symbol sh stripe) a t

  pub found-is : (found : Option Failure) → FoundIn sh.r (rows sh) sums found → FoundIs sh stripe (Ok found)
  found-is None f = λ a ha t ht. sym (sum_is a t ha ht) ∙ f a t ha ht
  found-is (Some p) f = record {
    row_listed = rising→listed (rows sh) (λ a. true) p.row f.row_below refl;
    t-below = f.t-below;
    fails = λ e. f.fails (sum_is p.row p.t f.row_below f.t-below ∙ e);
    lower-rows = λ b hb hlt t ht. sym (sum_is b t (listed→rising (rows sh) (λ a. true) b hb).0 ht) ∙ f.lower-rows b t hlt ht;
    lower-t = λ j hj. sym (sum_is p.row j f.row_below (lt_trans hj f.t-below)) ∙ f.lower-t j hj;
  }

-- what the entries owe where nothing is refused
module _ (z : Sizes) (sh : Shape) (of_shape : z.shape ≡ sh) (stripe : List ℕ) (exact : length stripe ≡ stripe_length z.shape) (sums : List ℕ)
    (all : SumsAre z.shape (symbol z.shape stripe) (groups z.shape * group_size z.shape) sums) where
  all_sums : SumsAre sh (symbol sh stripe) (groups sh * group_size sh) sums
  all_sums = subst (λ (s : Shape). SumsAre s (symbol s stripe) (groups s * group_size s) sums) of_shape all

  taken : shape_refusal sh ≡ none
  taken = subst (λ (s : Shape). shape_refusal s ≡ none) of_shape z.of_shape.taken

  long : length stripe ≡ stripe_length sh
  long = exact ∙ ap stripe_length of_shape

  r_is : z.shape.r ≡ sh.r
  r_is = ap (λ (s : Shape). s.r) of_shape

  rows_are : z.l ≡ rows sh
  rows_are = z.of_shape.l-is ∙ ap rows of_shape

  pub summed : (before : List ℕ) → length before ≡ z.shape.r * z.l → SumsMeet sh stripe before (Ok tt) sums
  summed before h =
      let none_refused : sums_refusal sh stripe before ≡ none = sums-accepted sh stripe before taken long (h ∙ ap₂ (λ r l. r * l) r_is rows_are) in
      record {
        answered = sym none_refused;
        written = λ e. record { all = all_sums.all; bytes = λ t a ht ha. all_sums.bytes t a ht ha ∙ partial-all sh _ a t };
        kept = λ q e. absurd (none-ne-some q (sym none_refused ∙ e));
      }

  pub tested : (found : Option Failure) → FoundIn z.shape.r z.l sums found → TestMeets sh stripe (Ok found)
  tested found is = record {
    answered = sym (test-accepted sh stripe taken long);
    found = found-is sh stripe sums all_sums found (subst (λ r. FoundIn r (rows sh) sums found) r_is (subst (λ l. FoundIn z.shape.r l sums found) rows_are is));
  }
