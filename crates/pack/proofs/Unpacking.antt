-- The stripe of a pack. In order: a stripe unpacks exactly where it fills what was placed; a pack of a stripe's columns has one content and, with at
-- most r lost, one stripe; from a filling to what the reader promises; a pack of a whole stripe's columns gives that stripe, and one of columns that
-- nothing fills is refused with 5.
use mathlib.Core.Path.{◌≡◌, refl, sym, ap, ap₂, subst, ◌∙◌}
use mathlib.Core.Bool.{true, false, not}
use mathlib.Core.List.{List, ◌++◌}
use mathlib.Core.Option.{none, some, none-ne-some}
use Prim.Native.Nat.{ℕ, suc, ◌≤◌}
use native.Mathlib.Decide.{dec_le}
use native.Mathlib.Omega.{arith}
use lib.ListN.{length, take, drop, take-append-drop}
use lib.Seq.{take_at, drop_at}
use borrow.Author.Tests.{not-false, not-true}
use Rattle.rules.specs.declared.shapes.Shape.{Shape}
use Rattle.rules.specs.Stripe.{IsBytes, stripe_length, column}
use Rattle.rules.specs.Equation.{Whole}
use Rattle.rules.specs.Lost.{is_lost, lost_count, bit_above, Filled}
use Rattle.rules.specs.declared.refusals.Refusal.TheVariants.{NoWholeStripe}
use Rattle.rules.specs.Refusal.{number_of, refusal_of, shape_refusal}
use Rattle.rules.proofs.Numbers.{number_of-injective}
use Rattle.rules.proofs.Accepted.{bounds}
use Rattle.rules.proofs.LostSets.{lost_among_lem}
use Rattle.rules.proofs.Fillings.{filled-only, filled_exists}
use Rattle.layout.specs.declared.answers.Found.{Found}
use Rattle.entries.specs.Pack.{has, nodes_of, others, columns_of, columns_at, packed, packed_nodes, header}
use Rattle.entries.specs.Parts.{shape_in}
use Rattle.layout.specs.Promise.{LayoutIs}
use Rattle.entries.proofs.Sets.{others-inside, others-has, others-others}
use Rattle.layout.proofs.Packs.{found_in, layout_only, packed-columns, found-parts, pack→layout}
use Rattle.pack.specs.declared.answers.Contents.{Contents}
use Rattle.std.specs.Prelude.{Result, Ok, Err}
use Rattle.rules.specs.declared.refusals.Refusal.{Refusal}
use Rattle.pack.specs.Refusal.{stripe_most, read_refusal}
use Rattle.pack.specs.Promise.{Unpacks, ReadIs, ReadMeets}
use Rattle.pack.specs.Kernel.{Placed, FoundMeets}
use Rattle.pack.proofs.EndToEnd.{columns-same, columns-each, columns-length}
use Rattle.pack.proofs.Passed.{found-few, found-many, found_none}

-- a node of 1 to n that isn't lost is held
not_lost : (sh : Shape) (held i : ℕ) → bit_above sh held ≡ false → 1 ≤ i → i ≤ sh.n → is_lost (others sh held) i ≡ false → has held i ≡ true
not_lost sh held i inside h k out = not-false (has held i) (sym (others-has sh held i inside h k) ∙ out)

module _ (found : Found) (pack before placed : List ℕ) (is : LayoutIs pack found) (put : Placed found pack before placed) where
  pub filled→unpacks : (stripe : List ℕ) → Filled found.shape (is_lost (others found.shape found.held)) placed stripe
      → Unpacks found.shape (others found.shape found.held) pack stripe
  filled→unpacks stripe f = record {
    bytes = f.bytes;
    whole = f.whole;
    is =
        is.is ∙ ap (packed sh found.held) columns
        ∙ ap (λ set. packed sh set (columns_of sh set stripe)) (sym (others-others sh found.held is.inside));
  }
    where
      sh : Shape
      sh = found.shape

      lost_not : (i : ℕ) → 1 ≤ i → i ≤ sh.n → has found.held i ≡ true → is_lost (others sh found.held) i ≡ false
      lost_not i h k held = others-has sh found.held i is.inside h k ∙ ap not held

      columns : drop found.start pack ≡ columns_of sh found.held stripe
      columns =
          sym put.placed
          ∙ sym (columns-same sh found.held stripe placed (λ i h k held. f.survivors i h k (lost_not i h k held)))

  pub unpacks→filled : (stripe : List ℕ) → length before ≡ stripe_length found.shape
      → Unpacks found.shape (others found.shape found.held) pack stripe
      → Filled found.shape (is_lost (others found.shape found.held)) placed stripe
  unpacks→filled stripe exact u = record {
    bytes = u.bytes;
    survivors = λ i h k out.
        columns-each sh found.held stripe placed u.bytes.exact (put.same_length ∙ exact) columns i h k
        (not_lost sh found.held i is.inside h k out);
    whole = u.whole;
  }
    where
      sh : Shape
      sh = found.shape

      columns : columns_of sh found.held stripe ≡ columns_of sh found.held placed
      columns =
          sym (packed-columns sh found.held (columns_of sh found.held stripe))
          ∙ ap (drop (columns_at (length (nodes_of sh found.held))))
          (sym (u.is ∙ ap (λ set. packed sh set (columns_of sh set stripe)) (others-others sh found.held is.inside)))
          ∙ ap (λ k. drop k pack) (sym is.starts)
          ∙ sym put.placed

packed-shape : (sh : Shape) (held : ℕ) (columns : List ℕ) → shape_in (packed sh held columns) ≡ sh
unfolding packed packed_nodes header
packed-shape sh held columns = refl

-- a pack of a stripe's columns: its content
columns_layout : (sh : Shape) (lost : ℕ) (pack stripe : List ℕ) → shape_refusal sh ≡ none → length stripe ≡ stripe_length sh
    → pack ≡ packed sh (others sh lost) (columns_of sh (others sh lost) stripe) → LayoutIs pack (found_in sh (others sh lost))
columns_layout sh lost pack stripe taken exact is =
    pack→layout sh (others sh lost) (columns_of sh (others sh lost) stripe) pack
    (record { taken = taken; inside = others-inside sh lost; exact = columns-length sh (others sh lost) stripe exact; is = is })

module _ (sh : Shape) (lost : ℕ) (pack stripe : List ℕ) (u : Unpacks sh lost pack stripe) where
  pub unpacks-shape : shape_in pack ≡ sh
  unpacks-shape = ap shape_in u.is ∙ packed-shape sh (others sh lost) (columns_of sh (others sh lost) stripe)

  pub unpacks-columns : drop (columns_at (length (nodes_of sh (others sh lost)))) pack ≡ columns_of sh (others sh lost) stripe
  unpacks-columns =
      ap (drop (columns_at (length (nodes_of sh (others sh lost))))) u.is
      ∙ packed-columns sh (others sh lost) (columns_of sh (others sh lost) stripe)

  pub unpacks_layout : shape_refusal sh ≡ none → LayoutIs pack (found_in sh (others sh lost))
  unpacks_layout taken = columns_layout sh lost pack stripe taken u.bytes.exact u.is

  -- which is read with whatever bytes come after the stripe
  pub unpacks→read : (before : List ℕ) → shape_refusal sh ≡ none → bit_above sh lost ≡ false
      → ReadIs pack before (record { shape = sh; lost = lost }) (stripe ++ drop (stripe_length sh) before)
  unpacks→read before taken inside = record {
    taken = taken;
    inside = inside;
    filled = subst (Unpacks sh lost pack) (sym (take_at stripe (drop (stripe_length sh) before) (stripe_length sh) u.bytes.exact)) u;
    kept = drop_at stripe (drop (stripe_length sh) before) (stripe_length sh) u.bytes.exact;
  }

-- there is one content
pub unpacks-found : (found : Found) (pack : List ℕ) → LayoutIs pack found
    → (sh : Shape) (lost : ℕ) (stripe : List ℕ) → bit_above sh lost ≡ false → Unpacks sh lost pack stripe
    → (sh ≡ found.shape) × (lost ≡ others found.shape found.held)
unpacks-found found pack is sh lost stripe inside u =
    (shape, sym (others-others sh lost inside) ∙ ap (λ (x : Found). others x.shape x.held) (layout_only pack _ found is' is))
  where
    shape : sh ≡ found.shape
    shape = sym (unpacks-shape sh lost pack stripe u) ∙ (found-parts pack found is).0

    is' : LayoutIs pack (found_in sh (others sh lost))
    is' = unpacks_layout sh lost pack stripe u (ap shape_refusal shape ∙ is.taken)

contents-only : (pack : List ℕ) (c d : Contents) (stripe : List ℕ) → LayoutIs pack (found_in d.shape (others d.shape d.lost))
    → bit_above c.shape c.lost ≡ false → bit_above d.shape d.lost ≡ false → Unpacks c.shape c.lost pack stripe → c ≡ d
contents-only pack c d stripe is inside inside' u =
    let (shape, lost) = unpacks-found (found_in d.shape (others d.shape d.lost)) pack is c.shape c.lost stripe inside u in
    λ i. record { shape = shape i; lost = (lost ∙ others-others d.shape d.lost inside') i }

-- what unpacks fills the stripe that the columns are from
pub unpacks-fills : (sh : Shape) (lost : ℕ) (given pack stripe : List ℕ) → bit_above sh lost ≡ false → length given ≡ stripe_length sh
    → pack ≡ packed sh (others sh lost) (columns_of sh (others sh lost) given) → Unpacks sh lost pack stripe → Filled sh (is_lost lost) given stripe
unpacks-fills sh lost given pack stripe inside exact is u = record { bytes = u.bytes; survivors = survivors; whole = u.whole }
  where
    columns : columns_of sh (others sh lost) stripe ≡ columns_of sh (others sh lost) given
    columns =
        sym (unpacks-columns sh lost pack stripe u)
        ∙ ap (drop (columns_at (length (nodes_of sh (others sh lost))))) is
        ∙ packed-columns sh (others sh lost) (columns_of sh (others sh lost) given)

    survivors : (i : ℕ) → 1 ≤ i → i ≤ sh.n → is_lost lost i ≡ false → column sh stripe i ≡ column sh given i
    survivors i h k out =
        columns-each sh (others sh lost) stripe given u.bytes.exact exact columns i h k (others-has sh lost i inside h k ∙ ap not out)

-- so with at most r lost there is one
pub unpacks-only : (sh : Shape) (lost : ℕ) (pack x y : List ℕ) → shape_refusal sh ≡ none → bit_above sh lost ≡ false → lost_count lost ≤ sh.r
    → Unpacks sh lost pack x → Unpacks sh lost pack y → x ≡ y
unpacks-only sh lost pack x y taken inside few u v =
    filled-only sh (bounds sh taken) (is_lost lost) (omega (arith, few, lost_among_lem sh lost inside)) y x y
    (unpacks-fills sh lost y pack x inside v.bytes.exact v.is u)
    (unpacks-fills sh lost y pack y inside v.bytes.exact v.is v)

-- what `read_pack` promises where the layout is read
pub found→read : (found : Found) (pack before : List ℕ) (answer : Result Contents Refusal) (later : List ℕ) → length before ≡ stripe_most → LayoutIs pack found
    → FoundMeets found pack before answer later → ReadMeets pack before answer later
found→read found pack before answer later room is m = record {
  refused = λ q e. refused q e (dec_le (suc sh.r) (lost_count lost));
  reads = λ e contents a. m.reads contents a;
  unfillable = λ e q a. let (five, unread) = m.unfillable (found-few pack before found is e) q a in (
    five,
    λ sh' lost' stripe inside u.
        let (shape, same) = unpacks-found found pack is sh' lost' stripe inside u in
        unread stripe (subst (λ (s : Shape). Unpacks s lost pack stripe) shape (subst (λ set. Unpacks sh' set pack stripe) same u)),
  );
  kept = m.kept;
}
  where
    sh : Shape
    sh = found.shape

    lost : ℕ
    lost = others found.shape found.held

    refused : (q : ℕ) → read_refusal pack before ≡ some q → Dec (suc sh.r ≤ lost_count lost) → refusal_of answer ≡ some q
    refused q e (yes h) = ap refusal_of (m.many h) ∙ sym (found-many pack before found is room h) ∙ e
    refused q e (no h) = absurd (none-ne-some q (sym (found_none pack before found is room (omega arith)) ∙ e))

-- what is read has at most r lost
module _ (pack before : List ℕ) (c : Contents) (later : List ℕ) (p : ReadIs pack before c later) where
  content_layout : LayoutIs pack (found_in c.shape (others c.shape c.lost))
  content_layout = unpacks_layout c.shape c.lost pack (take (stripe_length c.shape) later) p.filled p.taken

  pub content-few : read_refusal pack before ≡ none → lost_count c.lost ≤ c.shape.r
  content-few passes =
      rw (others-others c.shape c.lost p.inside) at
      (found-few pack before (found_in c.shape (others c.shape c.lost)) content_layout passes)

-- what is accepted is one content and one stripe, with the rest as it was
pub read_only : (pack before : List ℕ) (c d : Contents) (x y : List ℕ) → read_refusal pack before ≡ none → ReadIs pack before c x → ReadIs pack before d y
    → (c ≡ d) × (x ≡ y)
read_only pack before c d x y passes p q = (content, go (subst (λ (z : Contents). ReadIs pack before z x) content p))
  where
    sh : Shape
    sh = d.shape

    content : c ≡ d
    content = contents-only pack c d (take (stripe_length c.shape) x) (content_layout pack before d y q) p.inside q.inside p.filled

    go : ReadIs pack before d x → x ≡ y
    go r =
        sym (take-append-drop (stripe_length sh) x)
        ∙ ap₂ (λ (a b : List ℕ). a ++ b)
        (unpacks-only sh d.lost pack (take (stripe_length sh) x) (take (stripe_length sh) y) q.taken q.inside (content-few pack before d y q passes)
        r.filled q.filled)
        (r.kept ∙ sym q.kept)
        ∙ take-append-drop (stripe_length sh) y

-- a pack made of the columns of a stripe with at most r missing
module _ (sh : Shape) (lost : ℕ) (given before : List ℕ) (answer : Result Contents Refusal) (later : List ℕ)
    (taken : shape_refusal sh ≡ none) (inside : bit_above sh lost ≡ false) (few : lost_count lost ≤ sh.r) (exact : length given ≡ stripe_length sh)
    (room : length before ≡ stripe_most)
    (p : ReadMeets (packed sh (others sh lost) (columns_of sh (others sh lost) given)) before answer later) where
  abbrev pack : List ℕ
  pack = packed sh (others sh lost) (columns_of sh (others sh lost) given)

  found-is : LayoutIs pack (found_in sh (others sh lost))
  found-is = columns_layout sh lost pack given taken exact refl

  passes : read_refusal pack before ≡ none
  passes =
      found_none pack before (found_in sh (others sh lost)) found-is room (omega (arith, few, ap lost_count (others-others sh lost inside)))

  -- where the stripe is whole, the answer is that stripe
  pub given_back : IsBytes (stripe_length sh) given → Whole sh given
      → (answer ≡ Ok (record { shape = sh; lost = lost })) × (later ≡ given ++ drop (stripe_length sh) before)
  given_back bytes whole = go answer refl
    where
      contents : Contents
      contents = record { shape = sh; lost = lost }

      rest : List ℕ
      rest = drop (stripe_length sh) before

      unpacks : Unpacks sh lost pack given
      unpacks = record { bytes = bytes; whole = whole; is = refl }

      go : (a : Result Contents Refusal) → answer ≡ a → (answer ≡ Ok contents) × (later ≡ given ++ rest)
      go (Err q) e = absurd ((p.unfillable passes (number_of q) (ap refusal_of e)).1 sh lost given inside unpacks)
      go (Ok c) e =
          let right = unpacks→read sh lost pack given unpacks before taken inside in
          let (content, same) = read_only pack before c contents later (given ++ rest) passes (p.reads passes c e) right in
          (e ∙ ap Ok content, same)

  -- and of columns that belong to no whole stripe it is 5
  pub read-unfillable : ((other : List ℕ) → Filled sh (is_lost lost) given other → ⊥) → (answer ≡ Err NoWholeStripe) × (later ≡ before)
  read-unfillable unfilled = go answer refl
    where
      go : (a : Result Contents Refusal) → answer ≡ a → (answer ≡ Err NoWholeStripe) × (later ≡ before)
      go (Err q) e =
          (e ∙ ap Err (number_of-injective q NoWholeStripe (p.unfillable passes (number_of q) (ap refusal_of e)).0), p.kept (number_of q) (ap refusal_of e))
      go (Ok c) e =
          let read = p.reads passes c e in
          let same = contents-only pack c (record { shape = sh; lost = lost }) _ found-is read.inside inside read.filled in
          absurd
          (unfilled _ (unpacks-fills sh lost given pack _ inside exact refl (subst (λ (z : Contents). ReadIs pack before z later) same read).filled))

-- "for a pack made of the columns of a whole stripe with at most r missing, the answer is that stripe"
pub read_gives_back : (sh : Shape) (lost : ℕ) (stripe before : List ℕ) (answer : Result Contents Refusal) (later : List ℕ)
    → shape_refusal sh ≡ none → bit_above sh lost ≡ false → lost_count lost ≤ sh.r → IsBytes (stripe_length sh) stripe → Whole sh stripe
    → length before ≡ stripe_most
    → ReadMeets (packed sh (others sh lost) (columns_of sh (others sh lost) stripe)) before answer later
    → (answer ≡ Ok (record { shape = sh; lost = lost })) × (later ≡ stripe ++ drop (stripe_length sh) before)
read_gives_back sh lost stripe before answer later taken inside few bytes whole room p =
    given_back sh lost stripe before answer later taken inside few bytes.exact room p bytes whole

-- "Refusal 5 can't occur with r lost": whatever the bytes of the other columns are
pub read_with_r-lost : (sh : Shape) (lost : ℕ) (stripe before : List ℕ) (answer : Result Contents Refusal) (later : List ℕ)
    → shape_refusal sh ≡ none → bit_above sh lost ≡ false → lost_count lost ≡ sh.r → IsBytes (stripe_length sh) stripe
    → length before ≡ stripe_most
    → ReadMeets (packed sh (others sh lost) (columns_of sh (others sh lost) stripe)) before answer later
    → answer ≡ Ok (record { shape = sh; lost = lost })
read_with_r-lost sh lost stripe before answer later taken inside many bytes room p =
    let (W, f) = filled_exists sh (bounds sh taken) (is_lost lost) (lost_among_lem sh lost inside ∙ many) stripe bytes in
    (read_gives_back sh lost W before answer later taken inside (omega (arith, many)) f.bytes f.whole room
    (subst (λ columns. ReadMeets (packed sh (others sh lost) columns) before answer later) (same W f) p)).0
  where
    same : (W : List ℕ) → Filled sh (is_lost lost) stripe W → columns_of sh (others sh lost) stripe ≡ columns_of sh (others sh lost) W
    same W f =
        columns-same sh (others sh lost) stripe W
        (λ i h k held. sym (f.survivors i h k (not-true (is_lost lost i) (sym (others-has sh lost i inside h k) ∙ held))))
