-- The pack, and reading its layout. In order: a pack that no check refuses is the `packed` of what is found; a content's pack is
-- accepted; there is one content; accepted exactly when `packed`; the largest pack; excess shows.
--   found_in sh held == the content of a pack: shape, held set, and where the columns begin
--   IsPack sh held columns pack == the list is the pack of an accepted shape, a set of its nodes, and as many bytes of columns as these have
use mathlib.Core.Path.{◌≡◌, refl, sym, ap, ap₂, ◌∙◌, subst}
use mathlib.Core.Bool.{Bool, true, false}
use mathlib.Core.List.{List}
use mathlib.Core.Logic.{◌↔◌}
use mathlib.Core.Option.{none, some-ne-none}
use Prim.Native.Nat.{ℕ, ◌+◌, ◌*◌, ◌<◌, ◌≤◌}
use native.Mathlib.Omega.{arith}
use lib.Dec.{ltb}
use lib.ListN.{length, get_or, take, drop, replicate, length-drop, length-replicate}
use lib.Seq.{ext_get_or, length-take-le, take_all, get_or-take}
use borrow.Author.Tests.{ltb-true, ltb-false}
use Rattle.rules.specs.declared.shapes.Shape.{Shape}
use Rattle.rules.specs.Shape.{group_size, groups, rows, accepted}
use Rattle.rules.specs.Rising.{rising}
use Rattle.rules.specs.Lost.{is_lost, bit_above}
use Rattle.rules.specs.Refusal.{shape_refusal}
use Rattle.rules.specs.Bench.{shape}
use Rattle.rules.proofs.Accepted.{bounds}
use Rattle.layout.specs.declared.answers.Found.{Found}
use Rattle.std.specs.Prelude.{Result, Ok, Err}
use Rattle.rules.specs.declared.refusals.Refusal.{Refusal}
use Rattle.rules.specs.Refusal.{number_of}
use Rattle.entries.specs.Pack.{nodes_of, columns_at, total_of, packed_nodes, packed, largest_pack, input_most, entry_at}
use Rattle.entries.specs.Parts.{shape_in, count_in, node_in, nodes_in}
use Rattle.entries.specs.Refusal.{layout_refusal}
use Rattle.layout.specs.Promise.{LayoutIs, LayoutMeets}
use Rattle.entries.specs.Promise.{HeldIs}
use Rattle.entries.proofs.Sets.{Rises, nodes-all, nodes_rise, nodes-few, same_nodes}
use Rattle.entries.proofs.Positions.{Stands, packed-length, packed-rest, packed-stands, stands-packed}
use Rattle.entries.proofs.Good.{nodes_in_length, nodes_in_at}
use Rattle.layout.proofs.Taken.{LayoutTaken, layout_taken, taken→layout, total-most}
use Rattle.layout.proofs.Taken.{taken-stands, stands-shape, stands-taken}
use Rattle.layout.proofs.Excess.{excess_same}

abbrev pub found_in : Shape → ℕ → Found
found_in sh held = record { shape = sh; held = held; start = columns_at (length (nodes_of sh held)) }

-- a pack that no check refuses is the pack of what is found in it
pub layout_found : (pack : List ℕ) (held : ℕ) → ((k : ℕ) → get_or pack k 0 < 256) → layout_refusal pack ≡ none → HeldIs pack held
    → LayoutIs pack (record { shape = shape_in pack; held = held; start = columns_at (count_in pack) })
unfolding packed
layout_found pack held bytes h is = record {
  taken = t.taken;
  inside = is.inside;
  starts = ap columns_at (sym exact);
  long = t.exact ∙ t.total ∙ ap (total_of (shape_in pack)) (sym exact);
  is =
      stands-packed (shape_in pack) nodes pack bytes (rw exact t.there) (rw is.nodes (taken-stands pack t))
      ∙ ap (λ p. packed_nodes (shape_in pack) nodes (drop (columns_at p) pack)) exact;
}
  where
    t : LayoutTaken pack
    t = layout_taken pack h

    nodes : List ℕ
    nodes = nodes_of (shape_in pack) held

    exact : length nodes ≡ count_in pack
    exact = ap length is.nodes ∙ nodes_in_length pack (count_in pack)

-- the pack of an accepted shape has its header and entries, and no check refuses such a one
module _ (sh : Shape) (held : ℕ) (taken : shape_refusal sh ≡ none) where
  nodes_up : Rises sh.n (nodes_of sh held)
  nodes_up = rw (nodes-all sh held) (nodes_rise held sh.n)

  nodes_stand : (columns : List ℕ) → Stands sh (nodes_of sh held) (packed sh held columns)
  unfolding packed
  nodes_stand columns =
      packed-stands sh (nodes_of sh held) columns
      (omega (arith, total-most sh (length (nodes_of sh held)) (bounds sh taken) (nodes-few sh held)))

  nodes-accepted : (pack : List ℕ) → Stands sh (nodes_of sh held) pack → length pack ≡ total_of sh (length (nodes_of sh held)) → layout_refusal pack ≡ none
  nodes-accepted pack s long = taken→layout pack (stands-taken sh (nodes_of sh held) pack s taken (nodes-few sh held) nodes_up long)

module _ (pack : List ℕ) (found : Found) (is : LayoutIs pack found) where
  found-stands : Stands found.shape (nodes_of found.shape found.held) pack
  found-stands =
      subst (Stands found.shape (nodes_of found.shape found.held)) (sym is.is)
      (nodes_stand found.shape found.held is.taken (drop found.start pack))

  -- a content's pack has its shape and its count
  pub found-parts : (shape_in pack ≡ found.shape) × (count_in pack ≡ length (nodes_of found.shape found.held))
  found-parts = (stands-shape found.shape (nodes_of found.shape found.held) pack found-stands, found-stands.header.third)

  -- and its nodes
  pub found-nodes : nodes_in pack (count_in pack) ≡ nodes_of found.shape found.held
  unfolding node_in
  found-nodes =
      ext_get_or 0 (nodes_in pack (count_in pack)) (nodes_of found.shape found.held) (nodes_in_length pack (count_in pack) ∙ found-parts.1)
      (λ e h.
      let l : e < count_in pack = omega (arith, nodes_in_length pack (count_in pack)) in
      nodes_in_at pack (count_in pack) e l ∙ (found-stands.entries e (omega (arith, found-parts.1))).first)

  -- no check refuses it
  pub found-accepted : layout_refusal pack ≡ none
  found-accepted = nodes-accepted found.shape found.held is.taken pack found-stands is.long

-- there is one content
pub layout_only : (pack : List ℕ) (x y : Found) → LayoutIs pack x → LayoutIs pack y → x ≡ y
layout_only pack x y a b = equal shapes sets (a.starts ∙ ap₂ (λ s h. columns_at (length (nodes_of s h))) shapes sets ∙ sym b.starts)
  where
    shapes : x.shape ≡ y.shape
    shapes = sym (found-parts pack x a).0 ∙ (found-parts pack y b).0

    sets : x.held ≡ y.held
    sets =
        same_nodes y.shape x.held y.held (subst (λ s. bit_above s x.held ≡ false) shapes a.inside) b.inside
        (ap (λ s. nodes_of s x.held) (sym shapes) ∙ sym (found-nodes pack x a) ∙ found-nodes pack y b)

    equal : x.shape ≡ y.shape → x.held ≡ y.held → x.start ≡ y.start → x ≡ y
    equal s h t =
        ap (λ z. record { shape = z; held = x.held; start = x.start }) s
        ∙ ap₂ (λ u v. record { shape = y.shape; held = u; start = v }) h t

-- and its columns are the bytes after the entries
pub packed-columns : (sh : Shape) (held : ℕ) (columns : List ℕ) → drop (columns_at (length (nodes_of sh held))) (packed sh held columns) ≡ columns
unfolding packed
packed-columns sh held columns = packed-rest sh (nodes_of sh held) columns

pub record IsPack (sh : Shape) (held : ℕ) (columns pack : List ℕ) : Type 0 where
  pub taken : shape_refusal sh ≡ none
  pub inside : bit_above sh held ≡ false
  pub exact : length columns ≡ length (nodes_of sh held) * rows sh
  pub is : pack ≡ packed sh held columns

module _ (sh : Shape) (held : ℕ) (columns pack : List ℕ) where
  pub pack-columns : IsPack sh held columns pack → drop (columns_at (length (nodes_of sh held))) pack ≡ columns
  pack-columns p = ap (drop (columns_at (length (nodes_of sh held)))) p.is ∙ packed-columns sh held columns

  pub pack→layout : IsPack sh held columns pack → LayoutIs pack (found_in sh held)
  unfolding total_of packed
  pack→layout p = record {
    taken = p.taken;
    inside = p.inside;
    starts = refl;
    long =
        ap length p.is ∙ packed-length sh (nodes_of sh held) columns ∙ ap (λ n. columns_at (length (nodes_of sh held)) + n) p.exact;
    is = p.is ∙ ap (packed sh held) (sym (pack-columns p));
  }

  pub layout→pack : LayoutIs pack (found_in sh held) → drop (columns_at (length (nodes_of sh held))) pack ≡ columns → IsPack sh held columns pack
  unfolding total_of
  layout→pack l e = record {
    taken = l.taken;
    inside = l.inside;
    exact = ap length (sym e) ∙ length-drop (columns_at (length (nodes_of sh held))) pack ∙ omega (arith, l.long);
    is = l.is ∙ ap (packed sh held) e;
  }

-- where there is a content, it is the answer
pub content-answered : (pack : List ℕ) (answer : Result Found Refusal) (found : Found) → LayoutMeets pack answer → LayoutIs pack found → answer ≡ Ok found
content-answered pack (Ok x) found m is = ap Ok (layout_only pack x found (m.finds x refl) is)
content-answered pack (Err q) found m is = absurd (some-ne-none (number_of q) (m.answered ∙ found-accepted pack found is))

-- "reading the layout is accepted with a shape, a set and columns exactly when the input is `packed` of them"
pub layout_exactly : (pack : List ℕ) (answer : Result Found Refusal) → LayoutMeets pack answer → (sh : Shape) (held : ℕ) (columns : List ℕ)
    → ((answer ≡ Ok (found_in sh held)) × (drop (columns_at (length (nodes_of sh held))) pack ≡ columns)) ↔ IsPack sh held columns pack
layout_exactly pack answer m sh held columns = (
  λ h. layout→pack sh held columns pack (m.finds (found_in sh held) h.0) h.1,
  λ p. (content-answered pack answer (found_in sh held) m (pack→layout sh held columns pack p), pack-columns sh held columns pack p),
)

-- "the total is at most 4,232"
pub largest_pack_lem : (pack : List ℕ) → layout_refusal pack ≡ none → length pack ≤ largest_pack
largest_pack_lem pack h =
    let t = layout_taken pack h in
    omega (arith, t.exact, t.total, total-most (shape_in pack) (count_in pack) (bounds (shape_in pack) t.taken) t.few)

-- and is that with all sixteen columns of 256 bytes
all_held : (columns : List ℕ) → length columns ≡ 4096 → LayoutIs (packed (shape 16 4) 65535 columns) (found_in (shape 16 4) 65535)
unfolding nodes_of rising is_lost bit_above shape_refusal accepted rows groups group_size
all_held columns exact =
    pack→layout (shape 16 4) 65535 columns (packed (shape 16 4) 65535 columns)
    (record { taken = refl; inside = refl; exact = exact; is = refl })

pub largest_pack-is : (pack : List ℕ) × (layout_refusal pack ≡ none) × (length pack ≡ largest_pack)
unfolding nodes_of rising is_lost total_of columns_at entry_at rows groups group_size
largest_pack-is =
    let l = all_held (replicate 4096 0) (length-replicate {A = ℕ} 4096 0) in
    (packed (shape 16 4) 65535 (replicate 4096 0), found-accepted _ _ l, l.long)

-- "at most 4,233 bytes, which shows excess": what is read of a longer input is refused as the whole of it
pub excess_shows : (pack : List ℕ) → layout_refusal (take input_most pack) ≡ layout_refusal pack
excess_shows pack = go (ltb largest_pack (length pack)) refl
  where
    go : (t : Bool) → ltb largest_pack (length pack) ≡ t → layout_refusal (take input_most pack) ≡ layout_refusal pack
    go false h = ap layout_refusal (take_all input_most pack (omega (arith, ltb-false largest_pack (length pack) h)))
    go true h =
        let long = ltb-true largest_pack (length pack) h in
        excess_same (take input_most pack) pack (λ k l. get_or-take input_most pack k 0 l) (omega (arith, length-take-le input_most pack long)) long
