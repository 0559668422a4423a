-- `Chosen::stands` meets its contract: with fewer than r lost it is the answer of `test`.
use Rattle.std.proofs.Common.{◌≡◌, ℕ, List, Bool, true, false, not, Ok, Option, Some, None, is_some, sym, subst, arith}
use mathlib.Core.Bool.{true≢false}
use mathlib.Core.Logic.{inr}
use Rattle.rules.specs.declared.shapes.Shape.{Shape}
use Rattle.rules.proofs.Weighing.{whole_or_fails}
use Rattle.sums.specs.declared.answers.Failure.{Failure}
use Rattle.sums.specs.Promise.{TestMeets}
use Rattle.fill.specs.Kernel.{Standing}
use Rattle.fill.proofs.filling.Chosen.stands.Goals as goal

-- no failure is that it is whole
none_stands : (sh : Shape) (list : List ℕ) (count : ℕ) → (count ≡ sh.r → ⊥) → (failure : Option Failure) → TestMeets sh list (Ok failure)
    → (b : Bool) → is_some failure ≡ not b → Standing sh count list b
none_stands sh list count fewer None p true e = record {
  stands = λ e. inr p.found;
  not_all_used = λ e. absurd (true≢false e);
  falls = λ e. absurd (true≢false e);
}
none_stands sh list count fewer (Some f) p false e = record {
  stands = λ e. absurd (true≢false (sym e));
  not_all_used = λ e. fewer;
  falls = λ e w. whole_or_fails sh list f.row f.t w p.found;
}
none_stands sh list count fewer None p false e = absurd (true≢false (sym e))
none_stands sh list count fewer (Some f) p true e = absurd (true≢false e)

pub returns-else-self : goal.returns-else-self
returns-else-self c =
    none_stands c.args.self.now.z.shape c.args.stripe.now c.args.self.now.count (λ e. omega (arith, e)) c.unwrap.result
    (subst (TestMeets c.args.self.now.z.shape c.args.stripe.now) c.unwrap.ensures c.test.ensures) c.is_none.result c.is_none.ensures
