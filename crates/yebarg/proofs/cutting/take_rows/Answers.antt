-- `yebarg::take_rows` meets its contract: there are whole periods of rows, so that the row taken is one of the column's.
use Rattle.std.proofs.Common.{◌≡◌, ℕ, ◌+◌, ◌*◌, ◌/◌, ◌%◌, ◌<◌, length, arith, ap}
use native.Mathlib.Nat.{div-add-mod'}
use Rattle.rules.proofs.RowsRead.{row_lt}
use Rattle.yebarg.proofs.cutting.take_rows.Goals as goal
use Rattle.yebarg.proofs.cutting.take_rows.Goals.{In-loop-j}

-- of a fraction of n bytes, in whole periods of w
row-within : (s w u n j : ℕ) → 0 < w → u < s → n % w ≡ 0 → j < n → j / w * (w * s) + u * w + j % w < n * s
row-within s w u n j some small exact h =
    let whole : n / w * w ≡ n = omega (arith, div-add-mod' n w, exact) in
    omega (arith, row_lt s w u some small (n / w) j (omega (arith, h, whole)), ap (λ x. x * s) whole)

in_place : (c : In-loop-j) → c.loop-j.j / c.args.w * (c.args.w * c.args.s) + c.args.u * c.args.w + c.loop-j.j % c.args.w < length c.args.column.now
in_place c =
    omega (
      arith,
      row-within c.args.s c.args.w c.args.u (length c.args.fraction.now) c.loop-j.j c.requires.w_nonzero.0 c.requires.w_nonzero.1 c.requires.w_len
          (omega arith),
      c.requires.column_len_bound.1,
    )

pub overflow_add-byte-in-loop-j : goal.overflow_add-byte-in-loop-j
overflow_add-byte-in-loop-j c = record { fits = omega (arith, in_place (goal.at.overflow_add-byte-in-loop-j c).In-loop-j, c.requires.column_len_bound.0) }

pub bounds-column-j : goal.bounds-column-j
bounds-column-j c = in_place (goal.at.bounds-column-j c).In-loop-j
