-- What isn't refused has passed every check, and the other way round. In order: all checks of the layout; how long a pack is; a pack that passes has
-- its header and entries, and one with header, entries and rising nodes passes. Not here: an entry that isn't bad (`Good` of crate `entries`).
--   LayoutTaken pack == what the checks of `read_layout` ask for
use mathlib.Core.Path.{◌≡◌, refl, sym, ap, ap₂, ◌∙◌}
use mathlib.Core.Bool.{not}
use mathlib.Core.List.{List}
use mathlib.Core.Option.{none}
use Prim.Native.Nat.{ℕ, zero, suc, ◌<◌, ◌≤◌}
use native.Mathlib.Nat.{mul-le-mul}
use native.Mathlib.Omega.{arith}
use lib.ListN.{length, get_or}
use borrow.Author.Tests.{ltb-false, le-ltb, eq-eqb}
use Rattle.rules.specs.declared.shapes.Shape.{Shape}
use Rattle.rules.specs.Shape.{rows}
use Rattle.rules.specs.Refusal.{shape_refusal}
use Rattle.rules.proofs.Checks.{not_other, none-given}
use Rattle.rules.proofs.Accepted.{Bounds, bounds, is-accepted, not_refused}
use Rattle.entries.specs.Pack.{header_length, entry_at, columns_at, offset_of, total_of, largest_pack}
use Rattle.entries.specs.Parts.{byte_at, shape_in, count_in, total_in, node_in, offset_in, node_before, nodes_in}
use Rattle.entries.specs.Refusal.{bad_entry, first_bad_entry, wrong_total, wrong_offset, first_wrong_offset, wrong_length}
use Rattle.entries.specs.Refusal.{layout_checks, layout_refusal}
use Rattle.entries.specs.Promise.{EntriesGood}
use Rattle.entries.proofs.Checking.{there_not_shorter}
use Rattle.entries.proofs.Sets.{Rises}
use Rattle.entries.proofs.Positions.{Stands}
use Rattle.entries.proofs.Good.{none_from, from_none, GoodEntry, entry-good, good-entry, padding_zero, zero_padding, nodes_in_length, nodes_in_at}

-- all checks
pub record LayoutTaken (pack : List ℕ) : Type 0 where
  pub zero-byte : byte_at pack 3 ≡ 0
  pub taken : shape_refusal (shape_in pack) ≡ none
  pub few : count_in pack ≤ (shape_in pack).n
  pub there : columns_at (count_in pack) ≤ length pack
  pub good : (e : ℕ) → e < count_in pack → GoodEntry pack e
  pub total : total_in pack ≡ total_of (shape_in pack) (count_in pack)
  pub offsets : (e : ℕ) → e < count_in pack → offset_in pack e ≡ offset_of (shape_in pack) (count_in pack) e
  pub exact : length pack ≡ total_in pack

pub layout_taken : (pack : List ℕ) → layout_refusal pack ≡ none → LayoutTaken pack
unfolding layout_refusal first_bad_entry first_wrong_offset wrong_total wrong_offset wrong_length
layout_taken pack h =
    let (a, (b, (c, (d, (e, (f, (g, (i, (j, u))))))))) =
    none-given (layout_checks pack) h in
    record {
      zero-byte = not_other (byte_at pack 3) 0 b;
      taken = not_refused (shape_in pack) c;
      few = ltb-false (shape_in pack).n (count_in pack) d;
      there = ltb-false (length pack) (columns_at (count_in pack)) e;
      good = λ k l. entry-good pack k (none_from (bad_entry pack) 0 (count_in pack) (not_other (first_bad_entry pack) 0 f) k (omega arith) (omega arith));
      total = not_other (total_in pack) (total_of (shape_in pack) (count_in pack)) g;
      offsets = λ k l. not_other (offset_in pack k) (offset_of (shape_in pack) (count_in pack) k)
          (none_from (wrong_offset pack) 0 (count_in pack) (not_other (first_wrong_offset pack) 0 i) k (omega arith) (omega arith));
      exact = not_other (length pack) (total_in pack) j;
    }

header-first : (p : ℕ) → header_length ≤ columns_at p
unfolding columns_at entry_at
header-first p = omega arith

taken-entries : (pack : List ℕ) → LayoutTaken pack → first_bad_entry pack ≡ 0
unfolding first_bad_entry
taken-entries pack t = from_none (bad_entry pack) 0 (count_in pack) (λ e k l. good-entry pack e (t.good e (omega arith)))

taken-offsets : (pack : List ℕ) → LayoutTaken pack → first_wrong_offset pack ≡ 0
unfolding first_wrong_offset wrong_offset
taken-offsets pack t = from_none (wrong_offset pack) 0 (count_in pack) (λ e k l. ap not (eq-eqb _ _ (t.offsets e (omega arith))))

-- the entries are good
pub taken-good : (pack : List ℕ) → LayoutTaken pack → EntriesGood pack
taken-good pack t = record {
  there = there_not_shorter pack t.there;
  nodes = (bounds (shape_in pack) t.taken).n-most;
  good = taken-entries pack t;
}

pub taken→layout : (pack : List ℕ) → LayoutTaken pack → layout_refusal pack ≡ none
unfolding layout_refusal wrong_total wrong_length
taken→layout pack t =
    simp (
      le-ltb (length pack) header_length (omega (arith, t.there, header-first (count_in pack))),
      eq-eqb (byte_at pack 3) 0 t.zero-byte,
      is-accepted (shape_in pack) t.taken,
      le-ltb (shape_in pack).n (count_in pack) t.few,
      le-ltb (length pack) (columns_at (count_in pack)) t.there,
      eq-eqb (first_bad_entry pack) 0 (taken-entries pack t),
      eq-eqb (total_in pack) (total_of (shape_in pack) (count_in pack)) t.total,
      eq-eqb (first_wrong_offset pack) 0 (taken-offsets pack t),
      eq-eqb (length pack) (total_in pack) t.exact,
    )

-- at most sixteen columns of at most 256 bytes
pub total-most : (sh : Shape) (p : ℕ) → Bounds sh → p ≤ sh.n → total_of sh p ≤ largest_pack
unfolding total_of columns_at entry_at
total-most sh p b h = omega (arith, b.n-most, mul-le-mul {n₁ = p} {m₁ = rows sh} {n₂ = 16} {m₂ = 256} (omega (arith, b.n-most)) b.l-most)

total-least : (sh : Shape) (p : ℕ) → columns_at p ≤ total_of sh p
unfolding total_of
total-least sh p = omega arith

-- a pack that no check refuses has the header and the entries of what is found in it
pub taken-stands : (pack : List ℕ) → LayoutTaken pack → Stands (shape_in pack) (nodes_in pack (count_in pack)) pack
unfolding total_in node_in offset_in
taken-stands pack t =
    let exact = nodes_in_length pack (count_in pack) in
    record {
      header = record {
        first = refl;
        second = refl;
        third = sym exact;
        fourth = t.zero-byte;
        number = t.total ∙ ap (total_of (shape_in pack)) (sym exact);
      };
      entries = λ e h.
          let l : e < count_in pack = omega arith in
          let (x, y, z) = padding_zero pack e (t.good e l).padded in
          record {
            first = sym (nodes_in_at pack (count_in pack) e l);
            second = x;
            third = y;
            fourth = z;
            number = t.offsets e l ∙ ap (λ p. offset_of (shape_in pack) p e) (sym exact);
          };
    }

-- where header and entries stand, and the nodes rise, every check is passed
module _ (sh : Shape) (nodes pack : List ℕ) (s : Stands sh nodes pack) where
  pub stands-shape : shape_in pack ≡ sh
  stands-shape = ap₂ (λ (n r : ℕ). record { n = n; r = r }) s.header.first s.header.second

  stands-before : Rises sh.n nodes → (e : ℕ) → e < length nodes → node_before pack e < get_or nodes e 0
  unfolding node_before node_in
  stands-before up zero h = up.least 0 h
  stands-before up (suc e) h = rw (s.entries e (omega arith)).first (up.rises e h)

  stands-entry : Rises sh.n nodes → (e : ℕ) → e < length nodes → GoodEntry pack e
  unfolding node_in
  stands-entry up e h =
      let b = s.entries e h in
      record {
        least = rw b.first (up.least e h);
        most = rw (b.first, s.header.first) (up.most e h);
        above = rw b.first (stands-before up e h);
        padded = zero_padding pack e b.second b.third b.fourth;
      }

  pub stands-taken : shape_refusal sh ≡ none → length nodes ≤ sh.n → Rises sh.n nodes → length pack ≡ total_of sh (length nodes) → LayoutTaken pack
  unfolding total_in offset_in
  stands-taken taken few up long =
      let head = s.header in
      record {
        zero-byte = head.fourth;
        taken = ap shape_refusal stands-shape ∙ taken;
        few = rw (head.first, head.third) few;
        there = rw (head.third, long) (total-least sh (length nodes));
        good = λ e h. stands-entry up e (omega (arith, head.third));
        total = head.number ∙ sym (ap₂ total_of stands-shape head.third);
        offsets = λ e h. (s.entries e (omega (arith, head.third))).number ∙ sym (ap₂ (λ (x : Shape) (p : ℕ). offset_of x p e) stands-shape head.third);
        exact = long ∙ sym head.number;
      }
