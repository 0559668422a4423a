-- What `read_pack` promises settles its answer and every byte that it leaves: two results that one promise allows are equal. And wrong answers that the
-- promise rules out, at document 01's worked pack and the bench stripes; n = 3, r = 2. In order: two results; an
-- input that is longer than what is read of it; the worked pack; wrong answers of it; K
-- and J, which are refused with 5; no columns, which is refused with 4; a refusal that writes; the order of the refusals.
--   pack_k   == columns 1 and 3 of the stripe tested in J, which is K
--   pack_j   == all three columns of it
--   pack_none == no column
use mathlib.Core.Path.{◌≡◌, refl, sym, ap, subst, ◌∙◌}
use mathlib.Core.Bool.{true, false}
use mathlib.Core.List.{List, [], ◌∷◌, ◌++◌, flat_map}
use mathlib.Core.Option.{Option, none, some, none-ne-some, some-ne-none, some-injective}
use Prim.Native.Nat.{ℕ, zero, suc, ◌+◌, ◌≤◌}
use native.Mathlib.Decide.{ℕ_discrete}
use native.Mathlib.Omega.{arith}
use lib.Count.{ones, ones_in}
use lib.ListN.{length, get_or, take, drop, replicate, length-replicate, get_or-replicate}
use lib.Seq.{get_or-append-add, get_or-drop, take_all}
use Rattle.rules.specs.declared.refusals.Refusal.TheVariants.{BadHeader, TooManyLost, NoWholeStripe}
use Rattle.rules.specs.Refusal.{number_of, refusal_of}
use Rattle.rules.proofs.Numbers.{number_of-injective}
use Rattle.rules.specs.Shape.{group_size, groups, rows, accepted}
use Rattle.rules.specs.Stripe.{stripe_length, column_start, column}
use Rattle.rules.specs.Rising.{rising}
use Rattle.rules.specs.Lost.{is_lost, lost_count, bit_above, Filled}
use Rattle.rules.specs.Bench.{shape, stripe_c, stripe_j}
use Rattle.rules.proofs.Fillings.{filled-wider}
use Rattle.rules.proofs.Benches.{parity-c, bench-shape}
use Rattle.fill.proofs.Settled.{nothing-fills-k}
use Rattle.entries.specs.Pack.{nodes_of, others, columns_of, four_bytes, entry_at, columns_at, offset_of, total_of, header, entry, entries_from, packed_nodes}
use Rattle.entries.specs.Pack.{packed, input_most}
use Rattle.entries.specs.Parts.{number_at, total_in}
use Rattle.entries.specs.Refusal.{first_from, first_bad_entry, wrong_total, first_wrong_offset, wrong_length, layout_refusal}
use Rattle.layout.proofs.Packs.{largest_pack_lem, excess_shows}
use Rattle.layout.proofs.Worked.{worked}
use Rattle.pack.specs.declared.answers.Contents.{Contents}
use Rattle.std.specs.Prelude.{Result, Ok, Err}
use Rattle.rules.specs.declared.refusals.Refusal.{Refusal}
use Rattle.pack.specs.Refusal.{stripe_most, read_refusal}
use Rattle.pack.specs.Promise.{ReadMeets}
use Rattle.pack.proofs.Passed.{read_length, read_layout, read-many}
use Rattle.pack.proofs.Unpacking.{read_only, read_gives_back, read-unfillable}

refused-is : (a : Result Contents Refusal) (q : Refusal) → refusal_of a ≡ some (number_of q) → a ≡ Err q
refused-is (Ok c) q e = absurd (none-ne-some (number_of q) e)
refused-is (Err k) q e = ap Err (number_of-injective k q (some-injective _ _ e))

refused-alike : (a b : Result Contents Refusal) (k : ℕ) → refusal_of a ≡ some k → refusal_of b ≡ some k → a ≡ b
refused-alike a (Ok c) k e f = absurd (none-ne-some k f)
refused-alike a (Err q) k e f = refused-is a q (e ∙ sym f)

-- two packs that are refused alike leave the same bytes
same-refused : (pack other before : List ℕ) (a b : Result Contents Refusal) (x y : List ℕ) → ReadMeets pack before a x → ReadMeets other before b y
    → (k : ℕ) → refusal_of a ≡ some k → refusal_of b ≡ some k → (a ≡ b) × (x ≡ y)
same-refused pack other before a b x y p q k e f = (refused-alike a b k e f, p.kept k e ∙ sym (q.kept k f))

module _ (pack before : List ℕ) (a b : Result Contents Refusal) (x y : List ℕ) (p : ReadMeets pack before a x) (q : ReadMeets pack before b y) where
  pub read_settled : (a ≡ b) × (x ≡ y)
  read_settled = go (read_refusal pack before) refl
    where
      both : (k : ℕ) → refusal_of a ≡ some k → refusal_of b ≡ some k → (a ≡ b) × (x ≡ y)
      both = same-refused pack pack before a b x y p q

      answered : read_refusal pack before ≡ none → (u v : Result Contents Refusal) → a ≡ u → b ≡ v → (a ≡ b) × (x ≡ y)
      answered t (Ok c) (Ok d) e f =
          let (same, bytes) = read_only pack before c d x y t (p.reads t c e) (q.reads t d f) in
          (e ∙ ap Ok same ∙ sym f, bytes)
      answered t (Ok c) (Err k) e f =
          let r = p.reads t c e in
          absurd ((q.unfillable t (number_of k) (ap refusal_of f)).1 c.shape c.lost _ r.inside r.filled)
      answered t (Err j) (Ok d) e f =
          let r = q.reads t d f in
          absurd ((p.unfillable t (number_of j) (ap refusal_of e)).1 d.shape d.lost _ r.inside r.filled)
      answered t (Err j) (Err k) e f =
          both 5
          (ap refusal_of e ∙ ap some (p.unfillable t (number_of j) (ap refusal_of e)).0)
          (ap refusal_of f ∙ ap some (q.unfillable t (number_of k) (ap refusal_of f)).0)

      go : (z : Option ℕ) → read_refusal pack before ≡ z → (a ≡ b) × (x ≡ y)
      go (some k) t = both k (p.refused k t) (q.refused k t)
      go none t = answered t a b refl refl

-- "at most 4,233 bytes, which shows excess": of a longer input, what is read is answered as the whole of it
pub excess_read : (pack before : List ℕ) (a b : Result Contents Refusal) (x y : List ℕ) → ReadMeets (take input_most pack) before a x → ReadMeets pack before b y
    → (a ≡ b) × (x ≡ y)
excess_read pack before a b x y p q = go (layout_refusal pack) refl
  where
    both : (k : ℕ) → refusal_of a ≡ some k → refusal_of b ≡ some k → (a ≡ b) × (x ≡ y)
    both = same-refused (take input_most pack) pack before a b x y p q

    go : (r : Option ℕ) → layout_refusal pack ≡ r → (a ≡ b) × (x ≡ y)
    go none e =
        read_settled pack before a b x y
        (subst (λ input. ReadMeets input before a x) (take_all input_most pack (omega (arith, largest_pack_lem pack e))) p) q
    go (some k) e = at (ℕ_discrete (length before) stripe_most)
      where
        at : Dec (length before ≡ stripe_most) → (a ≡ b) × (x ≡ y)
        at (yes room) = both k (p.refused k (read_layout _ before room (excess_shows pack ∙ e))) (q.refused k (read_layout pack before room e))
        at (no other) = both 2 (p.refused 2 (read_length _ before other)) (q.refused 2 (read_length pack before other))

-- document 01's worked pack is that of columns 1 and 3 of bench stripe C
pub worked-is : worked ≡ packed (shape 3 2) (others (shape 3 2) 2) (columns_of (shape 3 2) (others (shape 3 2) 2) stripe_c)
unfolding packed packed_nodes header entry entries_from four_bytes columns_at entry_at offset_of total_of nodes_of others columns_of flat_map rising is_lost
    column column_start rows groups group_size
worked-is = refl

lost_2 : (bit_above (shape 3 2) 2 ≡ false) × (lost_count 2 ≡ 1)
unfolding bit_above lost_count ones ones_in
lost_2 = (refl, refl)

stripe_12 : stripe_length (shape 3 2) ≡ 12
unfolding stripe_length rows groups group_size
stripe_12 = refl

module _ (before : List ℕ) (room : length before ≡ stripe_most) where
  -- the whole answer, and every byte
  pub read-c : (answer : Result Contents Refusal) (later : List ℕ) → ReadMeets worked before answer later
      → (answer ≡ Ok (record { shape = shape 3 2; lost = 2 })) × (later ≡ stripe_c ++ drop 12 before)
  read-c answer later p =
      let (e, f) =
      read_gives_back (shape 3 2) 2 stripe_c before answer later bench-shape.0 lost_2.0 (omega (arith, lost_2.1))
      parity-c.1 parity-c.2 room
      (subst (λ (pack : List ℕ). ReadMeets pack before answer later) worked-is p) in
      (e, f ∙ ap (λ k. stripe_c ++ drop k before) stripe_12)

  byte-c : (answer : Result Contents Refusal) (later : List ℕ) → ReadMeets worked before answer later → (j : ℕ) → get_or later j 0 ≡ get_or (stripe_c ++ drop 12 before) j 0
  byte-c answer later p j = ap (λ (l : List ℕ). get_or l j 0) (read-c answer later p).1

  rest-c : (answer : Result Contents Refusal) (later : List ℕ) → ReadMeets worked before answer later → (j : ℕ) → get_or later (12 + j) 0 ≡ get_or before (12 + j) 0
  rest-c answer later p j = byte-c answer later p (12 + j) ∙ get_or-append-add stripe_c (drop 12 before) j 0 ∙ get_or-drop 12 before j 0

  -- refuses everything, with 5 too
  pub read_refuses : (q : Refusal) (later : List ℕ) → ReadMeets worked before (Err q) later → ⊥
  read_refuses q later p = some-ne-none (number_of q) (ap refusal_of (read-c (Err q) later p).0)

  -- writes zeros
  pub read_writes_zeros : (contents : Contents) (rest : List ℕ)
      → ReadMeets worked before (Ok contents) (4 ∷ 0 ∷ 0 ∷ 12 ∷ 0 ∷ 0 ∷ 0 ∷ 0 ∷ 2 ∷ 12 ∷ 0 ∷ 5 ∷ rest) → ⊥
  read_writes_zeros contents rest p = let e : ◌≡◌ {A = ℕ} 0 6 = byte-c (Ok contents) _ p 4 in omega arith

  -- one wrong byte
  pub read_wrong_byte : (contents : Contents) (rest : List ℕ)
      → ReadMeets worked before (Ok contents) (4 ∷ 0 ∷ 0 ∷ 12 ∷ 6 ∷ 15 ∷ 12 ∷ 31 ∷ 2 ∷ 12 ∷ 0 ∷ 5 ∷ rest) → ⊥
  read_wrong_byte contents rest p = let e : ◌≡◌ {A = ℕ} 31 30 = byte-c (Ok contents) _ p 7 in omega arith

  -- the column filled stands where another should
  pub read_wrong_column : (contents : Contents) (rest : List ℕ)
      → ReadMeets worked before (Ok contents) (4 ∷ 0 ∷ 0 ∷ 12 ∷ 2 ∷ 12 ∷ 0 ∷ 5 ∷ 6 ∷ 15 ∷ 12 ∷ 30 ∷ rest) → ⊥
  read_wrong_column contents rest p = let e : ◌≡◌ {A = ℕ} 2 6 = byte-c (Ok contents) _ p 4 in omega arith

  -- another lost set, as the right one with its bits shifted up and down
  pub read_wrong_lost : (lost : ℕ) (later : List ℕ) → (lost ≡ 2 → ⊥)
      → ReadMeets worked before (Ok (record { shape = shape 3 2; lost = lost })) later → ⊥
  read_wrong_lost lost later ne p = ne (ap lost_of (read-c (Ok (record { shape = shape 3 2; lost = lost })) later p).0)
    where
      lost_of : Result Contents Refusal → ℕ
      lost_of (Ok contents) = contents.lost
      lost_of (Err q) = 0

  pub read-lost_shifted_up : (later : List ℕ) → ReadMeets worked before (Ok (record { shape = shape 3 2; lost = 4 })) later → ⊥
  read-lost_shifted_up later = read_wrong_lost 4 later (λ e. omega arith)

  pub read-lost_shifted_down : (later : List ℕ) → ReadMeets worked before (Ok (record { shape = shape 3 2; lost = 1 })) later → ⊥
  read-lost_shifted_down later = read_wrong_lost 1 later (λ e. omega arith)

-- 4,096 sevens are lent
sevens_room : length (replicate {A = ℕ} 4096 7) ≡ stripe_most
sevens_room = length-replicate {A = ℕ} 4096 7

-- writes nothing
pub read_writes_nothing : (contents : Contents) → ReadMeets worked (replicate 4096 7) (Ok contents) (replicate 4096 7) → ⊥
read_writes_nothing contents p =
    let e : ◌≡◌ {A = ℕ} 7 6 = sym (get_or-replicate 4096 4 7 0 (omega arith)) ∙ byte-c (replicate 4096 7) sevens_room (Ok contents) _ p 4 in
    omega arith

-- a byte after n × l is changed
pub read_spoils_rest : (contents : Contents) (rest : List ℕ) → ReadMeets worked (replicate 4096 7) (Ok contents) (stripe_c ++ 0 ∷ rest) → ⊥
read_spoils_rest contents rest p =
    let e : ◌≡◌ {A = ℕ} 0 7 =
    rest-c (replicate 4096 7) sevens_room (Ok contents) _ p 0 ∙ get_or-replicate 4096 12 7 0 (omega arith) in
    omega arith

-- K: the columns 1 and 3 of J belong to no whole stripe
abbrev pub pack_k : List ℕ
pack_k =
    3 ∷ 2 ∷ 2 ∷ 0 ∷ 32 ∷ 0 ∷ 0 ∷ 0
    ∷ 1 ∷ 0 ∷ 0 ∷ 0 ∷ 24 ∷ 0 ∷ 0 ∷ 0
    ∷ 3 ∷ 0 ∷ 0 ∷ 0 ∷ 28 ∷ 0 ∷ 0 ∷ 0
    ∷ 4 ∷ 0 ∷ 0 ∷ 0
    ∷ 2 ∷ 3 ∷ 0 ∷ 1
    ∷ []

pack_k-is : pack_k ≡ packed (shape 3 2) (others (shape 3 2) 2) (columns_of (shape 3 2) (others (shape 3 2) 2) stripe_j)
unfolding packed packed_nodes header entry entries_from four_bytes columns_at entry_at offset_of total_of nodes_of others columns_of flat_map rising is_lost
    column column_start rows groups group_size
pack_k-is = refl

-- J: nor do all three
abbrev pub pack_j : List ℕ
pack_j =
    3 ∷ 2 ∷ 3 ∷ 0 ∷ 44 ∷ 0 ∷ 0 ∷ 0
    ∷ 1 ∷ 0 ∷ 0 ∷ 0 ∷ 32 ∷ 0 ∷ 0 ∷ 0
    ∷ 2 ∷ 0 ∷ 0 ∷ 0 ∷ 36 ∷ 0 ∷ 0 ∷ 0
    ∷ 3 ∷ 0 ∷ 0 ∷ 0 ∷ 40 ∷ 0 ∷ 0 ∷ 0
    ∷ stripe_j

pack_j-is : pack_j ≡ packed (shape 3 2) (others (shape 3 2) 0) (columns_of (shape 3 2) (others (shape 3 2) 0) stripe_j)
unfolding packed packed_nodes header entry entries_from four_bytes columns_at entry_at offset_of total_of nodes_of others columns_of flat_map rising is_lost
    column column_start rows groups group_size
pack_j-is = refl

lost_0 : (bit_above (shape 3 2) 0 ≡ false) × (lost_count 0 ≡ 0)
unfolding bit_above lost_count ones ones_in
lost_0 = (refl, refl)

none-lost : (i : ℕ) → 1 ≤ i → i ≤ 3 → is_lost 0 i ≡ true → is_lost 2 i ≡ true
unfolding is_lost
none-lost zero h k e = absurd (omega arith)
none-lost (suc zero) h k e = e
none-lost (suc (suc zero)) h k e = refl
none-lost (suc (suc (suc zero))) h k e = e
none-lost (suc (suc (suc (suc i)))) h k e = absurd (omega arith)

nothing-fills-j : (other : List ℕ) → Filled (shape 3 2) (is_lost 0) stripe_j other → ⊥
nothing-fills-j other f = nothing-fills-k other (filled-wider (shape 3 2) (is_lost 0) (is_lost 2) stripe_j other none-lost f)

-- a pack of no columns: three lost of at most two
abbrev pub pack_none : List ℕ
pack_none = 3 ∷ 2 ∷ 0 ∷ 0 ∷ 8 ∷ 0 ∷ 0 ∷ 0 ∷ []

layout_none : layout_refusal pack_none ≡ none
unfolding layout_refusal accepted rows groups group_size columns_at entry_at total_of first_from first_bad_entry wrong_total first_wrong_offset wrong_length total_in number_at
layout_none = refl

module _ (before : List ℕ) (room : length before ≡ stripe_most) where
  pub read-k : (answer : Result Contents Refusal) (later : List ℕ) → ReadMeets pack_k before answer later → (answer ≡ Err NoWholeStripe) × (later ≡ before)
  read-k answer later p =
      read-unfillable (shape 3 2) 2 stripe_j before answer later bench-shape.0 lost_2.0 (omega (arith, lost_2.1))
      (sym stripe_12) room (subst (λ (pack : List ℕ). ReadMeets pack before answer later) pack_k-is p) nothing-fills-k

  pub read-j : (answer : Result Contents Refusal) (later : List ℕ) → ReadMeets pack_j before answer later → (answer ≡ Err NoWholeStripe) × (later ≡ before)
  read-j answer later p =
      read-unfillable (shape 3 2) 0 stripe_j before answer later bench-shape.0 lost_0.0 (omega (arith, lost_0.1))
      (sym stripe_12) room (subst (λ (pack : List ℕ). ReadMeets pack before answer later) pack_j-is p) nothing-fills-j

  -- K is accepted, as it is with as many equations as there are lost bytes; J is accepted, as it is where nothing lost is nothing tested
  pub read-accepts-k : (contents : Contents) (later : List ℕ) → ReadMeets pack_k before (Ok contents) later → ⊥
  read-accepts-k contents later p = none-ne-some 5 (ap refusal_of (read-k (Ok contents) later p).0)

  pub read-accepts-j : (contents : Contents) (later : List ℕ) → ReadMeets pack_j before (Ok contents) later → ⊥
  read-accepts-j contents later p = none-ne-some 5 (ap refusal_of (read-j (Ok contents) later p).0)

  -- any other answer than 4
  pub read_4 : (answer : Result Contents Refusal) (later : List ℕ) → (answer ≡ Err TooManyLost → ⊥) → ReadMeets pack_none before answer later → ⊥
  read_4 answer later ne p = ne (refused-is answer TooManyLost (p.refused 4 (read-many pack_none before room layout_none (omega arith))))

-- a refusal that changes a byte, of whatever pack
pub read-refused_writes : (pack rest : List ℕ) (q : Refusal) → ReadMeets pack (7 ∷ rest) (Err q) (0 ∷ rest) → ⊥
read-refused_writes pack rest q p = let e : ◌≡◌ {A = ℕ} 0 7 = ap (λ (l : List ℕ). get_or l 0 0) (p.kept (number_of q) refl) in omega arith

-- not 4,096 bytes lent goes before a pack under 8 bytes
pub read_order : (later : List ℕ) → ReadMeets [] [] (Err BadHeader) later → ⊥
unfolding read_refusal
read_order later p = let h = p.refused 2 refl in let e : ◌≡◌ {A = ℕ} 6 2 = cc in omega arith
