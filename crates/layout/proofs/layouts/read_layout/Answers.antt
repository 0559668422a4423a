-- `layout::read_layout` meets its contract: a pack that passes all checks is the pack of what is found.
use mathlib.Core.Path.{◌≡◌, sym, ap, subst, ◌∙◌}
use Prim.Native.Nat.{◌+◌, ◌*◌}
use mathlib.Core.Option.{none}
use native.Mathlib.Omega.{arith}
use Rattle.std.proofs.lemmas.Grind.{common_steps}
use Rattle.rules.specs.Refusal.{shape_refusal}
use Rattle.entries.specs.Refusal.{layout_refusal, first_wrong_offset}
use Rattle.entries.specs.Promise.{is_shorter, found}
use Rattle.rules.proofs.Settled.{new_settled}
use Rattle.entries.specs.Pack.{columns_at, entry_at}
use Rattle.entries.specs.Parts.{shape_in}
use Rattle.layout.specs.Promise.{LayoutIs}
use Rattle.layout.proofs.Taken.{layout_taken, taken-good}
use Rattle.layout.proofs.Packs.{layout_found}
use Rattle.layout.proofs.Checking.{total_right, offsets_right}
use Rattle.layout.proofs.layouts.read_layout.Goals as goal
use Rattle.layout.proofs.layouts.read_layout.Goals.{After-held_of-held}

shape_is : (c : After-held_of-held) → c.new-shape.result ≡ shape_in c.args.pack.now
shape_is c =
    new_settled _ _ _ (shape_in c.args.pack.now) c.new-shape.ensures (record { nodes = sym c.from.ensures; parity = sym c.from-2.ensures })

-- the offsets are looked at where the columns begin
offsets_are : (c : After-held_of-held) → c.first_wrong_offset.result ≡ found (first_wrong_offset c.args.pack.now)
offsets_are c =
    offsets_right c.args.pack.now c.in-Ok.z (8 + 8 * c.from-3.result) (c.in-Ok.ensures ∙ shape_is c) (sym c.shorter.ensures.value ∙ c.if-shorter.false)
    (ap (λ p. 8 + 8 * p) c.from-3.ensures)
    (c.type_inv.pack 2).fits
    c.first_wrong_offset.ensures

passed : (c : After-held_of-held) → layout_refusal c.args.pack.now ≡ none
unfolding layout_refusal shape_refusal is_shorter
passed c = let offsets = offsets_are c in grind (arith, common_steps, total_right)

pub returns : goal.returns
unfolding columns_at entry_at
returns c =
    let at = (goal.at.returns c).After-held_of-held in
    let pack = c.args.pack.now in
    let held = c.held_of-held.ensures.formed (taken-good pack (layout_taken pack (passed at))) in
    let is : LayoutIs pack (record { shape = c.new-shape.result; held = c.held_of-held.result; start = 8 + 8 * c.from-3.result }) =
    rw (shape_is at, c.from-3.ensures) (layout_found pack c.held_of-held.result (λ k. (c.type_inv.pack k).fits) (passed at) held)
    in
    record { answered = sym (passed at); finds = λ found same. subst (LayoutIs pack) (cc) is }
