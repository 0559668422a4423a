-- `recover::solve_rows` meets its contract: the tests find what cannot be solved; else the points of the failed node's group differ, so that `unknowns` solves
-- every row read, and `put_rows` puts what it found at its rows.
use mathlib.Core.Path.{◌≡◌, refl, sym, ap, ap₂, ◌∙◌}
use Prim.Native.Nat.{ℕ, ◌≤◌, ◌+◌, ◌-◌, ◌*◌, ◌/◌, ◌%◌}
use native.Mathlib.Omega.{arith}
use Rattle.rules.specs.Shape.{group_size, rows, group, worth}
use Rattle.rules.specs.Fraction.{fraction_length}
use Rattle.rules.specs.Promise.{SizesAre}
use Rattle.rules.proofs.Accepted.{Bounds, bounds}
use Rattle.rules.proofs.Measures.{measured-sizes}
use Rattle.rules.proofs.RowsRead.{worth-some, group_from_1, group-most, fraction-worth, fraction-times}
use Rattle.columns.proofs.Parts.{zeros-length}
use Rattle.solver.proofs.Settled.{unknowns-ok}
use Rattle.recover.specs.Promise.{Recoverable}
use Rattle.recover.proofs.Finding.{solvable, solving, worth-room}
use Rattle.recover.proofs.solving.solve_rows.Goals as goal
use Rattle.recover.proofs.solving.solve_rows.Goals.{then-sums-end-via-then-sums-end, then-sums-end-via-else-sums-end+then-column-end}
use Rattle.recover.proofs.solving.solve_rows.Goals.{After-fraction_len-size, After-worth, Else-z-failed, In-Ok}

sizes : (c : In-Ok) → SizesAre c.args.shape c.in-Ok.z
sizes c = measured-sizes c.args.shape c.measure.ensures c.in-Ok.is

bound : (c : In-Ok) → Bounds c.args.shape
bound c = bounds c.args.shape (sizes c).taken

size_is : (c : After-fraction_len-size) → c.fraction_len-size.result ≡ fraction_length c.args.shape
size_is c = c.fraction_len-size.ensures.is ∙ ap fraction_length c.in-Ok.ensures

-- as many sums as a column has bytes
end-sums : (c : After-fraction_len-size) → c.in-Ok.z.s * c.fraction_len-size.result ≡ c.args.shape.r * fraction_length c.args.shape
unfolding group_size
end-sums c = ap₂ (λ (x y : ℕ). x * y) (sizes (goal.at.After-fraction_len-size c).In-Ok).s-is (size_is c)

end_is : (c : After-fraction_len-size) → c.in-Ok.z.s * c.fraction_len-size.result ≡ rows c.args.shape
unfolding group_size
end_is c = end-sums c ∙ omega (arith, fraction-times c.args.shape (bound (goal.at.After-fraction_len-size c).In-Ok))

pub returns-then-sums-end : goal.returns-then-sums-end
returns-then-sums-end c =
    let i = (goal.at.returns-then-sums-end c).After-fraction_len-size in
    record {
      can = tt;
      solved = tt;
      cannot = λ way.
          elim c.then-sums-end.branch [
            | then-sums-end-via-then-sums-end w ↦ w.if-sums-end.true (way.sums-exact ∙ sym (end-sums i))
            | then-sums-end-via-else-sums-end+then-column-end w ↦ w.if-column-end.true (way.column-exact ∙ sym (end_is i))
          ];
      kept = refl;
    }

end-most : (c : After-fraction_len-size) → c.in-Ok.z.s * c.fraction_len-size.result ≤ 256
end-most c = omega (arith, end_is c, (bound (goal.at.After-fraction_len-size c).In-Ok).l-most)

pub slice_bounds-room-end : goal.slice_bounds-room-end
slice_bounds-room-end c = end-most (goal.at.slice_bounds-room-end c).After-fraction_len-size

pub slice_bounds-found-end : goal.slice_bounds-found-end
slice_bounds-found-end c = sym (zeros-length _ 256 (end-most (goal.at.slice_bounds-found-end c).After-fraction_len-size))

recoverable : (c : Else-z-failed) → Recoverable c.args.shape c.args.failed c.args.sums.now c.args.column.now
recoverable c =
    let i = (goal.at.Else-z-failed c).After-fraction_len-size in
    let z = sizes (goal.at.Else-z-failed c).In-Ok in
    record {
      taken = z.taken;
      sums-exact = c.if-sums-end.false ∙ end-sums i;
      column-exact = c.if-column-end.false ∙ end_is i;
      first = c.if-failed-lt1.false;
      last = omega (arith, c.if-z-failed.false, z.n-is);
    }

pub unwrap-requires : goal.unwrap-requires
unwrap-requires c =
    let i = (goal.at.unwrap-requires c).After-fraction_len-size in
    let b = bound (goal.at.unwrap-requires c).In-Ok in
    let way = recoverable (goal.at.unwrap-requires c).Else-z-failed in
    unknowns-ok c.unknowns.result c.unknowns.ensures
    (solvable c.args.shape b c.args.failed way.first way.last c.in-Ok.z.s c.fraction_len-size.result (sizes (goal.at.unwrap-requires c).In-Ok).s-is (size_is i) _ _ _
    c.points_after-points.ensures
    c.if-sums-end.false
    (zeros-length _ 256 (end-most i)))

group-is : (c : Else-z-failed) → (c.args.failed - 1) / c.in-Ok.z.s + 1 ≡ group c.args.shape c.args.failed
unfolding group
group-is c = ap (λ s. (c.args.failed - 1) / s + 1) (sizes (goal.at.Else-z-failed c).In-Ok).s-is

worth-right : (c : After-worth) → c.worth.result ≡ worth c.args.shape (group c.args.shape c.args.failed)
worth-right c =
    let e = (goal.at.After-worth c).Else-z-failed in
    let way = recoverable e in
    c.worth.ensures.inside way.taken (omega arith)
    (omega (arith, group-is e, group-most c.args.shape (bound (goal.at.After-worth c).In-Ok) c.args.failed way.first way.last))
    ∙ ap (worth c.args.shape) (group-is e)

pub put_rows-requires-clause-w_nonzero : goal.put_rows-requires-clause-w_nonzero
put_rows-requires-clause-w_nonzero c =
    let b = bound (goal.at.put_rows-requires-clause-w_nonzero c).In-Ok in
    (omega (arith, worth-right (goal.at.put_rows-requires-clause-w_nonzero c).After-worth, worth-some c.args.shape b (group c.args.shape c.args.failed)), omega arith)

pub put_rows-requires-clause-s_bound : goal.put_rows-requires-clause-s_bound
put_rows-requires-clause-s_bound c =
    let at = goal.at.put_rows-requires-clause-s_bound c in
    let sh = c.args.shape in
    let f = c.args.failed in
    let b = bound at.In-Ok in
    let way = recoverable at.Else-z-failed in (
      omega (
        arith,
        ap₂ (λ (p q : ℕ). p * q) (worth-right at.After-worth) (sizes at.In-Ok).s-is,
        worth-room sh b (group sh f) (group_from_1 sh f) (group-most sh b f way.first way.last),
        b.l-most,
      ),
      ap₂ (λ (p q : ℕ). p % q) (size_is at.After-fraction_len-size) (worth-right at.After-worth) ∙ fraction-worth sh b f way.first way.last,
    )

pub returns : goal.returns
returns c =
    let at = goal.at.returns c in
    let way = recoverable at.Else-z-failed in
    record {
      can = way;
      solved =
          solving c.args.shape (bound at.In-Ok) c.args.failed way.first way.last c.in-Ok.z.s c.fraction_len-size.result (sizes at.In-Ok).s-is
          (size_is at.After-fraction_len-size)
          c.worth.result
          (worth-right at.After-worth)
          _ c.args.sums.now _ c.unknowns.new.found c.args.column.now _ c.points_after-points.ensures
          (rw c.unwrap.ensures at c.unknowns.ensures)
          c.put_rows.ensures
          way.column-exact;
      cannot = tt;
      kept = tt;
    }
