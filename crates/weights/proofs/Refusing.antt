-- What is promised, used: what fits together isn't refused. In order: `add_shares`, `add_node`.
use mathlib.Core.List.{List}
use mathlib.Core.Path.{refl}
use Prim.Native.Nat.{ℕ}
use Rattle.std.specs.Prelude.{Result, Ok, Err, IsOk}
use Rattle.rules.specs.declared.refusals.Misfit.{Misfit}
use Rattle.weights.specs.Promise.{weight_at, Shared, Shareable, SharesAre, Addable, NodeAdded}

pub shares_ok : {r p : ℕ} {weights before later : List ℕ} (answer : Result (Unit {0}) Misfit) → SharesAre r p weights before answer later
    → Shareable r weights before
    → IsOk answer
shares_ok (Ok _) are way = refl
shares_ok (Err _) are way = absurd (are.cannot way)

pub node_ok : {s w l u r p : ℕ} {group before later : List ℕ} (answer : Result (Unit {0}) Misfit) → NodeAdded s w l u r p group before answer later
    → Addable s w l u r before
    → IsOk answer
node_ok (Ok _) is way = refl
node_ok (Err _) is way = absurd (is.cannot way)

pub node-shared : {s w l u r p : ℕ} {group before later : List ℕ} (answer : Result (Unit {0}) Misfit) → NodeAdded s w l u r p group before answer later
    → Addable s w l u r before
    → Shared r p l (weight_at s w l group u) before later
node-shared (Ok _) is way = is.shared
node-shared (Err _) is way = absurd (is.cannot way)
