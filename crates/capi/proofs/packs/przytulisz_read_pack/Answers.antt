-- `capi::przytulisz_read_pack` meets its contract: an accepted shape is small, so that its number says it.
use mathlib.Core.Path.{◌≡◌, refl, sym, subst}
use native.Mathlib.Omega.{arith}
use Rattle.std.specs.Prelude.{Result}
use Rattle.rules.specs.declared.refusals.Refusal.{Refusal}
use Rattle.rules.proofs.Accepted.{Bounds, bounds}
use Rattle.pack.specs.declared.answers.Contents.{Contents}
use Rattle.pack.specs.Promise.{ReadMeets}
use Rattle.capi.proofs.Words.{sum-shape}
use Rattle.pack.proofs.Passed.{accepted-read}
use Rattle.capi.proofs.packs.przytulisz_read_pack.Goals as goal
use Rattle.capi.proofs.packs.przytulisz_read_pack.Goals.{After-read_pack, In-Ok}

met : (c : After-read_pack) → {answer : Result Contents Refusal} → c.read_pack.result ≡ answer
    → ReadMeets c.args.pack.now c.args.stripe.now answer c.read_pack.new.stripe
met c e = subst (λ a. ReadMeets c.args.pack.now c.args.stripe.now a c.read_pack.new.stripe) e c.read_pack.ensures

abbrev held : In-Ok → Contents
held c = c.in-Ok.contents

small : (c : In-Ok) → Bounds (held c).shape
small c = bounds _ (accepted-read _ _ _ _ (met (goal.at.In-Ok c).After-read_pack c.in-Ok.is)).taken

pub overflow_mul-shape : goal.overflow_mul-shape
overflow_mul-shape c = record { fits = omega (arith, (small (goal.at.overflow_mul-shape c).In-Ok).r-most) }

pub overflow_add-shape : goal.overflow_add-shape
overflow_add-shape c = let b = small (goal.at.overflow_add-shape c).In-Ok in record { fits = omega (arith, b.n-most, b.r-most) }

pub returns-in-Err : goal.returns-in-Err
returns-in-Err c = record { answer = _; meets = met (goal.at.returns-in-Err c).After-read_pack c.in-Err.is; told = (c.into.ensures, refl, refl) }

pub returns-in-Ok : goal.returns-in-Ok
returns-in-Ok c =
    let found = c.in-Ok.contents in
    record {
      answer = _;
      meets = met (goal.at.returns-in-Ok c).After-read_pack c.in-Ok.is;
      told = (
        refl,
        sym (sum-shape found.shape.n found.shape.r (omega (arith, (small (goal.at.returns-in-Ok c).In-Ok).n-most))),
        omega (arith, c.into-in-Ok.ensures),
      );
    }
