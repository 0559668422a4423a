-- Inputs longer than the largest pack. Two of them with the same first 4,233 bytes are refused with the same number: header and entries are among these,
-- and a right total is less than either length. In order: single checks; what stands in both; each check, then all.
use mathlib.Core.Path.{◌≡◌, refl, sym, ap, ap₂, ◌∙◌}
use mathlib.Core.Bool.{Bool, true, false, cond, not}
use mathlib.Core.List.{List}
use mathlib.Core.Option.{Option, some}
use Prim.Native.Nat.{ℕ, zero, suc, ◌+◌, ◌*◌, ◌<◌, ◌≤◌}
use native.Mathlib.Omega.{arith}
use lib.Dec.{eqb, ltb}
use lib.ListN.{length}
use borrow.Author.Tests.{ltb-false, le-ltb, ne_eqb}
use Rattle.rules.specs.Shape.{accepted}
use Rattle.rules.proofs.Checks.{not_other}
use Rattle.rules.proofs.Accepted.{bounds, not_refused}
use Rattle.entries.specs.Pack.{columns_at, total_of, largest_pack, input_most, entry_at}
use Rattle.entries.specs.Parts.{byte_at, number_at, shape_in, count_in, total_in, node_in, padded_in, offset_in, node_before}
use Rattle.entries.specs.Refusal.{first_from, bad_entry, first_bad_entry, wrong_total, wrong_offset, first_wrong_offset, wrong_length, layout_refusal}
use Rattle.entries.proofs.Good.{from_same}
use Rattle.layout.proofs.Taken.{total-most}

-- a check more
cond_same : (b c : Bool) (q x y : Option ℕ) → b ≡ c → (c ≡ false → x ≡ y) → cond b q x ≡ cond c q y
cond_same b true q x y e h = ap (λ t. cond t q x) e
cond_same b false q x y e h = ap (λ t. cond t q x) e ∙ h refl

module _ (pack : List ℕ) where
  entries-there : count_in pack ≤ 16 → largest_pack < length pack → ltb (length pack) (columns_at (count_in pack)) ≡ false
  unfolding columns_at entry_at
  entries-there few long = le-ltb (length pack) (8 + 8 * count_in pack) (omega arith)

  right-total : wrong_total pack ≡ false → total_in pack ≡ total_of (shape_in pack) (count_in pack)
  unfolding wrong_total
  right-total h = not_other (total_in pack) (total_of (shape_in pack) (count_in pack)) h

  length_wrong : total_in pack ≤ largest_pack → largest_pack < length pack → wrong_length pack ≡ true
  unfolding wrong_length
  length_wrong most long = ap not (ne_eqb (length pack) (total_in pack) (λ e. omega arith))

module _ (x y : List ℕ) (same : (k : ℕ) → k < input_most → byte_at x k ≡ byte_at y k) where
  same_number : (k : ℕ) → k + 3 < input_most → number_at x k ≡ number_at y k
  unfolding number_at
  same_number k h = simp (same k (omega arith), same (k + 1) (omega arith), same (k + 2) (omega arith), same (k + 3) (omega arith))

  same_total : total_in x ≡ total_in y
  unfolding total_in
  same_total = same_number 4 (omega arith)

  same_shape : shape_in x ≡ shape_in y
  same_shape = ap₂ (λ (n r : ℕ). record { n = n; r = r }) (same 0 (omega arith)) (same 1 (omega arith))

  same_count : count_in x ≡ count_in y
  same_count = same 2 (omega arith)

  module _ (e : ℕ) (early : e < 16) where
    same-node : node_in x e ≡ node_in y e
    unfolding node_in entry_at
    same-node = same (8 + 8 * e) (omega arith)

    same_padding : padded_in x e ≡ padded_in y e
    unfolding padded_in entry_at
    same_padding = simp (same (8 + 8 * e + 1) (omega arith), same (8 + 8 * e + 2) (omega arith), same (8 + 8 * e + 3) (omega arith))

    same_offset : offset_in x e ≡ offset_in y e
    unfolding offset_in entry_at
    same_offset = same_number (8 + 8 * e + 4) (omega arith)

  same-before : (e : ℕ) → e < 16 → node_before x e ≡ node_before y e
  unfolding node_before
  same-before zero h = refl
  same-before (suc e) h = same-node e (omega arith)

  same_bad : (e : ℕ) → e < 16 → bad_entry x e ≡ bad_entry y e
  unfolding bad_entry
  same_bad e h = cc (same_shape, same-node e h, same-before e h, same_padding e h)

  same_wrong : (e : ℕ) → e < 16 → wrong_offset x e ≡ wrong_offset y e
  unfolding wrong_offset
  same_wrong e h = cc (same_shape, same_count, same_offset e h)

  -- each check, where those before it pass
  same_entries : count_in y ≤ 16 → first_bad_entry x ≡ first_bad_entry y
  unfolding first_bad_entry
  same_entries few =
      ap (first_from (bad_entry x) 0) same_count
      ∙ from_same (bad_entry x) (bad_entry y) 0 (count_in y) (λ e h k. same_bad e (omega arith))

  same-offsets : count_in y ≤ 16 → first_wrong_offset x ≡ first_wrong_offset y
  unfolding first_wrong_offset
  same-offsets few =
      ap (first_from (wrong_offset x) 0) same_count
      ∙ from_same (wrong_offset x) (wrong_offset y) 0 (count_in y) (λ e h k. same_wrong e (omega arith))

  same_wrong_total : wrong_total x ≡ wrong_total y
  unfolding wrong_total
  same_wrong_total = cc (same_shape, same_count, same_total)

  pub excess_same : largest_pack < length x → largest_pack < length y → layout_refusal x ≡ layout_refusal y
  unfolding layout_refusal
  excess_same h k =
      cond_same _ _ (some 6) _ _ (le-ltb (length x) 8 (omega arith) ∙ sym (le-ltb (length y) 8 (omega arith))) (λ a.
      cond_same _ _ (some 6) _ _ (ap (λ b. not (eqb b 0)) (same 3 (omega arith))) (λ b.
      cond_same _ _ (some 1) _ _ (ap (λ s. not (accepted s)) same_shape) (λ c.
      cond_same _ _ (some 6) _ _ (ap₂ ltb (same 0 (omega arith)) same_count) (λ d.
      let small = bounds (shape_in y) (not_refused (shape_in y) c) in
      let fit = ltb-false (shape_in y).n (count_in y) d in
      let few : count_in y ≤ 16 = omega (arith, small.n-most) in
      cond_same _ _ (some 6) _ _ (entries-there x (omega (arith, same_count)) h ∙ sym (entries-there y few k)) (λ e.
      cond_same _ _ (some 7) _ _ (ap (λ b. not (eqb b 0)) (same_entries few)) (λ f.
      cond_same _ _ (some 8) _ _ same_wrong_total (λ g.
      let most : total_in y ≤ largest_pack = omega (arith, right-total y g, total-most (shape_in y) (count_in y) small fit) in
      cond_same _ _ (some 8) _ _ (ap (λ b. not (eqb b 0)) (same-offsets few)) (λ i.
      cond_same _ _ (some 8) _ _ (length_wrong x (omega (arith, same_total, most)) h ∙ sym (length_wrong y most k)) (λ j. refl)))))))))
