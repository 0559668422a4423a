-- What the demands need, step by step. In order: answers; what a fill that is accepted did; data columns and the record; a whole stripe; nothing lost;
-- lost numbers for parity; stripes that differ in lost columns; parity beside a fill; a record that was laid; sums and multiples; fractions that were cut;
-- a pack that was read and printed.
use mathlib.Core.Path.{◌≡◌, refl, sym, ap, ap₂, ◌∙◌, subst}
use mathlib.Core.Bool.{Bool, true, false, not, cond}
use mathlib.Core.List.{List, [], ◌∷◌, ◌++◌}
use mathlib.Core.Logic.{◌↔◌}
use mathlib.Core.Option.{Option, none, some, none-ne-some, some-ne-none, some-injective}
use Prim.Native.Nat.{ℕ, zero, suc, ◌-◌, ◌*◌, ◌/◌, ◌%◌, ◌^◌, ◌<◌, ◌≤◌}
use native.Mathlib.Nat.{zero-div, one-le-pow}
use native.Mathlib.Omega.{arith}
use lib.Dec.{eqb, ltb}
use lib.ListN.{length, get_or, take, drop, replicate, length-append, length-drop, length-replicate}
use lib.Seq.{ext_get_or, length-take-le, get_or-take, drop-append-le, take-append-le}
use borrow.Author.Tests.{ltb-false, le-ltb}
use Rattle.std.specs.Prelude.{Result, Ok, Err}
use Rattle.rules.specs.declared.shapes.Shape.{Shape}
use Rattle.rules.specs.declared.refusals.Refusal.{Refusal}
use Rattle.rules.specs.Shape.{data_nodes, rows, accepted}
use Rattle.rules.specs.Stripe.{IsBytes, stripe_length, data_length, column_start, column, read_back, plus_bytes, times_bytes}
use Rattle.rules.specs.Fraction.{fraction_length, fraction, end_to_end, cut_all}
use Rattle.rules.specs.Equation.{Whole}
use Rattle.rules.specs.Lost.{is_lost, lost_count, bit_above, is_parity, Filled}
use Rattle.rules.specs.Refusal.{first_of, ◌given-when◌, shape_refusal, refusal_of, number_of}
use Rattle.rules.proofs.Accepted.{Bounds, bounds}
use Rattle.rules.proofs.Checks.{none_left}
use Rattle.rules.proofs.LostSets.{below-lost, lost_among, lost_among_lem, among_same, parity_among}
use Rattle.rules.proofs.Fillings.{OnNodes, filled-only, filled-same-survivors, filled-same-set, filled-plus, filled-times}
use Rattle.rules.proofs.Layouts.{column-room, column-length, symbol-column}
use Rattle.rules.proofs.Rebuildings.{end_to_end-same, cut-rebuilt, cut-all-length}
use Rattle.rules.proofs.Ties.{lost_tie}
use Rattle.theory.proofs.Counts.{count-zero}
use Rattle.rules.proofs.Stripes.{symbol-below, plus-bytes, times-bytes, same_symbols, byte-node, byte-row, byte-symbol, column-same}
use Rattle.yebarg.specs.Refusal.{read_back_refusal}
use Rattle.yebarg.specs.Promise.{LayMeets, CutMeets}
use Rattle.yebarg.proofs.Refusals.{a-node, cut-accepted, lay-taken, read-back-accepted, accepted_writes}
use Rattle.yebarg.proofs.Laying.{read-back-after-lay}
use Rattle.rules.proofs.Lengths.{stripe-most, data_most}
use Rattle.yebarg.proofs.Settled.{refusal-only}
use Rattle.rebuild.specs.Refusal.{rebuild_refusal}
use Rattle.rebuild.specs.Promise.{RebuildMeets}
use Rattle.rebuild.proofs.Taken.{taken→rebuild, rebuild-answers}
use Rattle.fill.specs.Refusal.{fill_refusal, parity_refusal}
use Rattle.fill.specs.Promise.{FillMeets, ParityMeets}
use Rattle.fill.proofs.Taken.{fill-taken, taken→fill, fill-answers, parity-taken}
use Rattle.pack.specs.declared.answers.Contents.{Contents}
use Rattle.pack.specs.Refusal.{stripe_most}
use Rattle.text.specs.Text.{printed}
use Rattle.text.specs.Refusal.{print_refusal}
use Rattle.text.specs.Promise.{PrintMeets}

pub done : (answer : Result (Unit {0}) Refusal) → refusal_of answer ≡ none → answer ≡ Ok tt
done answer e = refusal-only answer (Ok tt) e

pub not_refused : (answer : Result (Unit {0}) Refusal) → answer ≡ Ok tt → refusal_of answer ≡ none
not_refused answer e = ap refusal_of e

module _ (sh : Shape) (lost : ℕ) (stripe : List ℕ) (answer : Result (Unit {0}) Refusal) (later : List ℕ) (p : FillMeets sh lost stripe answer later) where
  -- what is accepted has passed the checks
  pub accepted-taken : answer ≡ Ok tt → fill_refusal sh lost stripe ≡ none
  accepted-taken e =
      none_left (fill_refusal sh lost stripe) (λ q t. none-ne-some q (sym (not_refused answer e) ∙ p.refused q t))

  pub accepted-filled : answer ≡ Ok tt → Filled sh (is_lost lost) stripe later
  accepted-filled e = p.filled (accepted-taken e) (not_refused answer e)

  -- where something fills it, it is accepted and that is written
  pub filled-accepted : fill_refusal sh lost stripe ≡ none → (other : List ℕ) → Filled sh (is_lost lost) stripe other → (answer ≡ Ok tt) × (later ≡ other)
  filled-accepted taken other f = let (e, w) = fill-answers sh lost stripe answer later taken p other f in (done answer e, w)

-- the checks see the length alone
pub refusal-length : (sh : Shape) (lost : ℕ) (x y : List ℕ) → length x ≡ length y → fill_refusal sh lost x ≡ fill_refusal sh lost y
unfolding fill_refusal
refusal-length sh lost x y e = rw e

-- data columns are the survivors of a fill of parity
pub data_kept : (sh : Shape) (i : ℕ) → i ≤ data_nodes sh → is_parity sh i ≡ false
unfolding is_parity
data_kept sh i h = le-ltb (data_nodes sh) i h

pub kept_data : (sh : Shape) (i : ℕ) → is_parity sh i ≡ false → i ≤ data_nodes sh
unfolding is_parity
kept_data sh i e = ltb-false (data_nodes sh) i e

-- the record is in the data columns
data_byte : (sh : Shape) (x y : List ℕ) → ((i : ℕ) → 1 ≤ i → i ≤ data_nodes sh → column sh x i ≡ column sh y i)
    → (k : ℕ) → k < data_length sh → get_or x k 0 ≡ get_or y k 0
unfolding data_length stripe_length
data_byte sh x y same k l =
    byte-symbol sh x k most
    ∙ column-same sh x y (k / rows sh) (byte-node sh.n (rows sh) k most)
    (same (suc (k / rows sh)) (omega arith) (byte-node (data_nodes sh) (rows sh) k l))
    (k % rows sh)
    (byte-row (data_nodes sh) (rows sh) k l)
    ∙ sym (byte-symbol sh y k most)
  where
    most : k < stripe_length sh
    most = omega (arith, l, data_most sh)

pub same-record : (sh : Shape) (x y : List ℕ) → length x ≡ stripe_length sh → length y ≡ stripe_length sh
    → ((i : ℕ) → 1 ≤ i → i ≤ data_nodes sh → column sh x i ≡ column sh y i) → read_back sh x ≡ read_back sh y
unfolding read_back
same-record sh x y ex ey same =
    ext_get_or 0 (take (data_length sh) x) (take (data_length sh) y) (long x ex ∙ sym (long y ey))
    (λ k h. let l : k < data_length sh = omega (arith, h, long x ex) in
    get_or-take (data_length sh) x k 0 l ∙ byte k l ∙ sym (get_or-take (data_length sh) y k 0 l))
  where
    long : (z : List ℕ) → length z ≡ stripe_length sh → length (take (data_length sh) z) ≡ data_length sh
    long z e = length-take-le (data_length sh) z (omega (arith, e, data_most sh))

    byte : (k : ℕ) → k < data_length sh → get_or x k 0 ≡ get_or y k 0
    byte k l = data_byte sh x y same k l

pub column-bytes : (sh : Shape) (stripe : List ℕ) → IsBytes (stripe_length sh) stripe → (i : ℕ) → 1 ≤ i → i ≤ sh.n → IsBytes (rows sh) (column sh stripe i)
column-bytes sh stripe bytes zero h k = absurd (omega arith)
column-bytes sh stripe bytes (suc i) h k = record {
  exact = column-length sh stripe (suc i) bytes.exact h k;
  bytes = λ a l. rw (← symbol-column sh stripe (suc i) a k l) (symbol-below sh stripe bytes i a k l);
}

-- a whole stripe fills itself, whatever is lost
pub whole-fills : (sh : Shape) (L : ℕ → Bool) (stripe : List ℕ) → IsBytes (stripe_length sh) stripe → Whole sh stripe → Filled sh L stripe stripe
whole-fills sh L stripe bytes whole = record { bytes = bytes; survivors = λ i h k out. refl; whole = whole }

module _ (sh : Shape) (lost : ℕ) (stripe : List ℕ) (taken : fill_refusal sh lost stripe ≡ none) where
  pub taken-bounds : Bounds sh
  taken-bounds = bounds sh (fill-taken sh lost stripe taken).shape

  pub taken_among : lost_among sh (is_lost lost) ≡ lost_count lost
  taken_among = lost_among_lem sh lost (fill-taken sh lost stripe taken).none_above

-- nothing lost: the stripe itself is all that can be filled in
pub nothing-lost : (i : ℕ) → is_lost 0 i ≡ false
unfolding is_lost
nothing-lost i = rw (zero-div (2 ^ (i - 1)))

pub all-kept : (sh : Shape) (L : ℕ → Bool) (stripe later : List ℕ) → ((i : ℕ) → L i ≡ false) → length stripe ≡ stripe_length sh
    → Filled sh L stripe later → later ≡ stripe
all-kept sh L stripe later kept exact f =
    same_symbols sh later stripe f.bytes.exact exact (λ i a h l. column-same sh later stripe i h (f.survivors (suc i) (omega arith) h (kept (suc i))) a l)

-- a lost number whose nodes are the parity columns has passed the checks where `fill_parity`'s have
pub parity-number-taken : (sh : Shape) (lost : ℕ) (stripe : List ℕ) → bit_above sh lost ≡ false → OnNodes sh (λ i. is_lost lost i ≡ is_parity sh i)
    → parity_refusal sh stripe ≡ none → fill_refusal sh lost stripe ≡ none
parity-number-taken sh lost stripe above same e =
    let (taken, exact) = parity-taken sh stripe e in
    taken→fill sh lost stripe (record {
      shape = taken;
      exact = exact;
      none_above = above;
      few = omega (arith, lost_among_lem sh lost above, among_same sh (is_lost lost) (is_parity sh) same, parity_among sh (bounds sh taken));
    })

-- and is refused where they refuse: both lists begin alike
pub parity-number-refused : (sh : Shape) (lost : ℕ) (stripe : List ℕ) (q : ℕ) → parity_refusal sh stripe ≡ some q → fill_refusal sh lost stripe ≡ some q
unfolding fill_refusal parity_refusal
parity-number-refused sh lost stripe q e = go (not (accepted sh)) (not (eqb (length stripe) (stripe_length sh))) e
  where
    rest : Option ℕ
    rest = first_of (3 given-when bit_above sh lost ∷ 4 given-when ltb sh.r (lost_count lost) ∷ [])

    go : (a b : Bool) → cond {A = Option ℕ} a (some 1) (cond b (some 2) none) ≡ some q → cond {A = Option ℕ} a (some 1) (cond b (some 2) rest) ≡ some q
    go true b e = e
    go false true e = e
    go false false e = absurd (none-ne-some q e)

-- two stripes that differ in lost columns alone
module _ (sh : Shape) (lost : ℕ) (x y : List ℕ) (long : length x ≡ length y)
    (same : OnNodes sh (λ i. is_lost lost i ≡ false → column sh x i ≡ column sh y i)) where
  pub carried : (b : Result (Unit {0}) Refusal) (x' y' : List ℕ) → FillMeets sh lost x (Ok tt) x' → FillMeets sh lost y b y' → (b ≡ Ok tt) × (y' ≡ x')
  carried b x' y' p q =
      filled-accepted sh lost y b y' q (sym (refusal-length sh lost x y long) ∙ accepted-taken sh lost x (Ok tt) x' p refl) x'
      (filled-same-survivors sh (is_lost lost) x y x' same (accepted-filled sh lost x (Ok tt) x' p refl))

  -- refused, both with the same number
  both-refused : (i j : Refusal) (x' y' : List ℕ) → FillMeets sh lost x (Err i) x' → FillMeets sh lost y (Err j) y' → number_of i ≡ number_of j
  both-refused i j x' y' p q = go (fill_refusal sh lost x) refl
    where
      go : (z : Option ℕ) → fill_refusal sh lost x ≡ z → number_of i ≡ number_of j
      go none t = (p.unfillable t (number_of i) refl).0 ∙ sym (q.unfillable (sym (refusal-length sh lost x y long) ∙ t) (number_of j) refl).0
      go (some k) t = some-injective (number_of i) (number_of j) (p.refused k t ∙ sym (q.refused k (sym (refusal-length sh lost x y long) ∙ t)))

module _ (sh : Shape) (lost : ℕ) (x y : List ℕ) (long : length x ≡ length y)
    (same : OnNodes sh (λ i. is_lost lost i ≡ false → column sh x i ≡ column sh y i)) where
  pub unread : (a b : Result (Unit {0}) Refusal) (x' y' : List ℕ) → FillMeets sh lost x a x' → FillMeets sh lost y b y' → (a ≡ b) × (a ≡ Ok tt → x' ≡ y')
  unread (Ok _) b x' y' p q = let (e, f) = carried sh lost x y long same b x' y' p q in (sym e, λ d. sym f)
  unread (Err i) (Ok _) x' y' p q =
      let (e, f) = carried sh lost y x (sym long) (λ i h k out. sym (same i h k out)) (Err i) y' x' q p in (e, λ d. f)
  unread (Err i) (Err j) x' y' p q =
      (refusal-only (Err i) (Err j) (ap some (both-refused sh lost x y long same i j x' y' p q)), λ d. absurd (some-ne-none (number_of i) (ap refusal_of d)))

-- `fill_parity` beside a fill of a lost number whose nodes are the parity columns
pub parity_as_fill : (sh : Shape) (lost : ℕ) (stripe : List ℕ) → bit_above sh lost ≡ false → OnNodes sh (λ i. is_lost lost i ≡ is_parity sh i)
    → (a b : Result (Unit {0}) Refusal) (x y : List ℕ) → ParityMeets sh stripe a x → FillMeets sh lost stripe b y → (a ≡ b) × (x ≡ y)
parity_as_fill sh lost stripe above same a b x y p q = go (parity_refusal sh stripe) refl
  where
    go : (z : Option ℕ) → parity_refusal sh stripe ≡ z → (a ≡ b) × (x ≡ y)
    go none t =
        let (e, w) =
        filled-accepted sh lost stripe b y q (parity-number-taken sh lost stripe above same t) x
        (filled-same-set sh (is_parity sh) (is_lost lost) stripe x (λ i h k. sym (same i h k)) (p.filled t)) in
        (done a (p.answered ∙ t) ∙ sym e, sym w)
    go (some k) t =
        let e = q.refused k (parity-number-refused sh lost stripe k t) in
        (refusal-only a b (p.answered ∙ t ∙ sym e), p.kept k t ∙ sym (q.kept k e))

pub filled_data : (sh : Shape) (stripe later : List ℕ) → Filled sh (is_parity sh) stripe later
    → (i : ℕ) → 1 ≤ i → i ≤ data_nodes sh → column sh later i ≡ column sh stripe i
unfolding data_nodes
filled_data sh stripe later f i h k = f.survivors i h (omega (arith, k)) (data_kept sh i k)

-- what `fill_parity` did
module _ (sh : Shape) (stripe later : List ℕ) (p : ParityMeets sh stripe (Ok tt) later) where
  pub parity_checks : parity_refusal sh stripe ≡ none
  parity_checks = sym p.answered

  pub parity-filled : Filled sh (is_parity sh) stripe later
  parity-filled = p.filled parity_checks

  pub parity-shape : shape_refusal sh ≡ none
  parity-shape = (parity-taken sh stripe parity_checks).0

  pub parity-exact : length stripe ≡ stripe_length sh
  parity-exact = (parity-taken sh stripe parity_checks).1

  pub parity-record : read_back sh later ≡ read_back sh stripe
  parity-record = same-record sh later stripe parity-filled.bytes.exact parity-exact (filled_data sh stripe later parity-filled)

-- a record that was laid is what is read back from the data columns
pub laid-record : (sh : Shape) (rec stripe later : List ℕ) → LayMeets sh rec stripe (Ok tt) later → length later ≡ stripe_length sh
    → read_back sh later ≡ rec ++ replicate (data_length sh - length rec) 0
laid-record sh rec stripe later p exact =
    (read-back-after-lay sh rec stripe zeros (sym p.answered) (length-replicate (data_length sh) 0) (Ok tt) (Ok tt) later (read_back sh later) p
    (record { answered = sym taken; buffer_later = accepted_writes zeros taken refl })).1
  where
    zeros : List ℕ
    zeros = replicate (data_length sh) 0

    taken : read_back_refusal sh later zeros ≡ none
    taken = read-back-accepted sh later zeros (lay-taken sh rec stripe (sym p.answered)).0 exact (length-replicate (data_length sh) 0)

-- data columns alone decide what parity fills in
parity-unread : (sh : Shape) (x y x' y' : List ℕ) → ((i : ℕ) → 1 ≤ i → i ≤ data_nodes sh → column sh x i ≡ column sh y i)
    → ParityMeets sh x (Ok tt) x' → ParityMeets sh y (Ok tt) y' → x' ≡ y'
parity-unread sh x y x' y' same p q =
    let b = bounds sh (parity-shape sh x x' p) in
    filled-only sh b (is_parity sh) (omega (arith, parity_among sh b)) y x' y'
    (filled-same-survivors sh (is_parity sh) x y x' (λ i h k out. same i h (kept_data sh i out)) (parity-filled sh x x' p))
    (parity-filled sh y y' q)

same-refusal : (sh : Shape) (x y : List ℕ) → length x ≡ length y → parity_refusal sh x ≡ parity_refusal sh y
unfolding parity_refusal
same-refusal sh x y e = rw e refl

-- with the same data columns, whatever the parity columns held
pub parity-unread-all : (sh : Shape) (x y x' y' : List ℕ) (a b : Result (Unit {0}) Refusal) → length x ≡ length y → ((i : ℕ) → 1 ≤ i → i ≤ data_nodes sh → column sh x i ≡ column sh y i)
    → ParityMeets sh x a x' → ParityMeets sh y b y' → (a ≡ b) × (a ≡ Ok tt → x' ≡ y')
parity-unread-all sh x y x' y' a b long same p q =
    let e : a ≡ b = refusal-only a b (p.answered ∙ same-refusal sh x y long ∙ sym q.answered) in
    (e, λ d. parity-unread sh x y x' y' same (subst (λ z. ParityMeets sh x z x') d p) (subst (λ z. ParityMeets sh y z y') (sym e ∙ d) q))

pub fill-record : (sh : Shape) (lost : ℕ) (stripe later : List ℕ) → ((i : ℕ) → 1 ≤ i → i ≤ data_nodes sh → is_lost lost i ≡ false)
    → FillMeets sh lost stripe (Ok tt) later → read_back sh later ≡ read_back sh stripe
unfolding data_nodes
fill-record sh lost stripe later kept p =
    let f = accepted-filled sh lost stripe (Ok tt) later p refl in
    same-record sh later stripe f.bytes.exact (fill-taken sh lost stripe (accepted-taken sh lost stripe (Ok tt) later p refl)).exact
    (λ i h k. f.survivors i h (omega (arith, k)) (kept i h k))

pub empty_fill : (sh : Shape) (stripe : List ℕ) (answer : Result (Unit {0}) Refusal) (later : List ℕ) → shape_refusal sh ≡ none → IsBytes (stripe_length sh) stripe
    → FillMeets sh 0 stripe answer later → ((answer ≡ Ok tt) ↔ Whole sh stripe) × (later ≡ stripe)
empty_fill sh stripe answer later accepted bytes p = ((whole, accepts), kept answer refl)
  where
    taken : fill_refusal sh 0 stripe ≡ none
    taken = taken→fill sh 0 stripe (record { shape = accepted; exact = bytes.exact; none_above = none_above; few = few })
      where
        none_above : bit_above sh 0 ≡ false
        none_above = below-lost sh 0 (one-le-pow sh.n 2 (omega arith))

        few : lost_count 0 ≤ sh.r
        few = omega (arith, lost_tie 0 0 (omega arith), count-zero (λ i. is_lost 0 (suc i)))

    same : answer ≡ Ok tt → later ≡ stripe
    same e = all-kept sh (is_lost 0) stripe later nothing-lost bytes.exact (accepted-filled sh 0 stripe answer later p e)

    accepts : Whole sh stripe → answer ≡ Ok tt
    accepts w = (filled-accepted sh 0 stripe answer later p taken stripe (whole-fills sh (is_lost 0) stripe bytes w)).0

    whole : answer ≡ Ok tt → Whole sh stripe
    whole e = subst (Whole sh) (same e) (accepted-filled sh 0 stripe answer later p e).whole

    kept : (z : Result (Unit {0}) Refusal) → answer ≡ z → later ≡ stripe
    kept (Ok _) e = same e
    kept (Err q) e = p.kept (number_of q) (ap refusal_of e)

module _ (sh : Shape) (lost : ℕ) (x y x' y' : List ℕ) (answer : Result (Unit {0}) Refusal) (later : List ℕ) (bx : IsBytes (stripe_length sh) x) (by : IsBytes (stripe_length sh) y)
    (taken : fill_refusal sh lost x ≡ none) (f : Filled sh (is_lost lost) x x') (g : Filled sh (is_lost lost) y y') where
  pub sum-filled : FillMeets sh lost (plus_bytes x y) answer later → (answer ≡ Ok tt) × (later ≡ plus_bytes x' y')
  sum-filled p =
      filled-accepted sh lost (plus_bytes x y) answer later p
      (refusal-length sh lost (plus_bytes x y) x ((plus-bytes (stripe_length sh) x y bx by).exact ∙ sym bx.exact) ∙ taken)
      (plus_bytes x' y') (filled-plus sh (taken-bounds sh lost x taken) (is_lost lost) x y x' y' bx by f g)

module _ (sh : Shape) (lost c : ℕ) (x x' : List ℕ) (answer : Result (Unit {0}) Refusal) (later : List ℕ) (bx : IsBytes (stripe_length sh) x)
    (taken : fill_refusal sh lost x ≡ none) (f : Filled sh (is_lost lost) x x') where
  pub multiple_filled : FillMeets sh lost (times_bytes c x) answer later → (answer ≡ Ok tt) × (later ≡ times_bytes c x')
  multiple_filled p =
      filled-accepted sh lost (times_bytes c x) answer later p
      (refusal-length sh lost (times_bytes c x) x ((times-bytes (stripe_length sh) c x bx).exact ∙ sym bx.exact) ∙ taken)
      (times_bytes c x') (filled-times sh (taken-bounds sh lost x taken) (is_lost lost) c x x' bx f)

-- fractions that were cut, laid end to end
module _ (sh : Shape) (failed : ℕ) (W : List ℕ) (buffers fractions : ℕ → List ℕ) (answers : ℕ → Result (Unit {0}) Refusal)
    (accepted : shape_refusal sh ≡ none) (first : 1 ≤ failed) (last : failed ≤ sh.n)
    (bytes : IsBytes (stripe_length sh) W) (rooms : (i : ℕ) → length (buffers i) ≡ fraction_length sh)
    (cut : (i : ℕ) → 1 ≤ i → i ≤ sh.n → (i ≡ failed → ⊥) → CutMeets sh i failed (column sh W i) (buffers i) (answers i) (fractions i)) where
  cut-is : (i : ℕ) → 1 ≤ i → i ≤ sh.n → (i ≡ failed → ⊥) → fractions i ≡ fraction sh failed (column sh W i)
  cut-is i h k ne =
      (cut i h k ne).buffer_later.written
      (cut-accepted sh i failed (column sh W i) (buffers i) accepted (column-length sh W i bytes.exact h k) (rooms i)
      (a-node sh i h k) (a-node sh failed first last) ne)

  pub cuts_are : end_to_end sh failed fractions ≡ cut_all sh failed W
  unfolding cut_all
  cuts_are = end_to_end-same sh failed first last fractions (λ i. fraction sh failed (column sh W i)) cut-is

pub rebuilt-back : (sh : Shape) (failed : ℕ) (W before : List ℕ) (answer : Result (Unit {0}) Refusal) (later : List ℕ)
    → shape_refusal sh ≡ none → 1 ≤ failed → failed ≤ sh.n → IsBytes (stripe_length sh) W → Whole sh W → length before ≡ rows sh
    → RebuildMeets sh failed (cut_all sh failed W) before answer later → (answer ≡ Ok tt) × (later ≡ column sh W failed)
rebuilt-back sh failed W before answer later accepted first last bytes whole room p = (
  done answer (p.answered ∙ taken),
  rebuild-answers sh failed (cut_all sh failed W) before answer later taken p (column sh W failed)
      (column-bytes sh W bytes failed first last) (cut-rebuilt sh (bounds sh accepted) failed first last W whole),
)
  where
    taken : rebuild_refusal sh failed (cut_all sh failed W) before ≡ none
    taken =
        taken→rebuild sh failed (cut_all sh failed W) before
        (record {
          shape = accepted;
          fractions-long = cut-all-length sh (bounds sh accepted) failed first last W;
          column-long = room;
          first = first;
          last = last;
        })

-- the lent bytes after a pack is read: as many, and in front the columns of the stripe
module _ (sh : Shape) (stripe before later : List ℕ) (exact : length stripe ≡ stripe_length sh) (is : later ≡ stripe ++ drop (stripe_length sh) before) where
  pub still_room : shape_refusal sh ≡ none → length before ≡ stripe_most → length later ≡ stripe_most
  still_room taken room =
      ap length is
      ∙ length-append stripe (drop (stripe_length sh) before)
      ∙ omega (arith, exact, room, length-drop (stripe_length sh) before, stripe-most sh (bounds sh taken))

  pub front-columns : (i : ℕ) → 1 ≤ i → i ≤ sh.n → column sh later i ≡ column sh stripe i
  unfolding column column_start stripe_length
  front-columns i h k =
      ap (λ list. take (rows sh) (drop ((i - 1) * rows sh) list)) is
      ∙ ap (take (rows sh)) (drop-append-le ((i - 1) * rows sh) stripe _ (omega (arith, exact, column-room sh i h k)))
      ∙ take-append-le (rows sh) (drop ((i - 1) * rows sh) stripe) _ (rw length-drop (omega (arith, exact, column-room sh i h k)))

-- what is printed, where its text is known
pub text-written : (answer : Result Contents ℕ) (stripe before : List ℕ) (result : Result ℕ Refusal) (later text : List ℕ)
    → print_refusal stripe before ≡ none → printed answer stripe ≡ text → PrintMeets answer stripe before result later
    → (result ≡ Ok (length text)) × (later ≡ text ++ drop (length text) before)
text-written answer stripe before (Ok k) later text passed is (_, exact, written) =
    let size : k ≡ length text = exact ∙ ap length is in
    (ap Ok size, written ∙ ap₂ (λ (t : List ℕ) (j : ℕ). t ++ drop j before) is size)
text-written answer stripe before (Err q) later text passed is (refused, _) = absurd (none-ne-some (number_of q) (sym passed ∙ refused))
