-- The user's three demands, sentence by sentence. Each theorem is about any results that the promises of the entries allow: `answer` is what an entry
-- answers, `later` what the lent buffer holds when it returns. That each entry keeps its promise is proved in its own crate. In order: demands 1, 2 and 3;
-- then what document 01 says beside them, and the whole way of a record.
--   refusal answer ≡ some q == the entry refuses with the number q
--   IsBytes n list     == n bytes
--   Whole sh stripe    == every row of the stripe meets its r equations
--   Filled sh L stripe W == W is n × l bytes, is whole, and has the columns of the stripe outside the set L, which are the survivors'
use mathlib.Core.Path.{◌≡◌, refl, sym, ap, subst, ◌∙◌}
use mathlib.Core.Bool.{false}
use mathlib.Core.List.{List, ◌++◌}
use mathlib.Core.Logic.{◌↔◌}
use mathlib.Core.Option.{Option, none, some, some-ne-none, none-ne-some}
use Prim.Native.Nat.{ℕ, ◌-◌, ◌^◌, ◌≤◌}
use lib.ListN.{length, take, drop, replicate}
use lib.Seq.{take_at}
use Rattle.std.specs.Prelude as prelude
use Rattle.std.specs.Prelude.{Result, Ok, Err, None}
use Rattle.rules.specs.declared.shapes.Shape.{Shape}
use Rattle.rules.specs.declared.refusals.Refusal.{Refusal}
use Rattle.rules.specs.Shape.{data_nodes, rows}
use Rattle.rules.specs.Stripe.{IsBytes, stripe_length, data_length, column, symbol, read_back, plus_bytes, times_bytes}
use Rattle.rules.specs.Equation.{Whole}
use Rattle.rules.specs.Fraction.{fraction_length, end_to_end}
use Rattle.rules.specs.Lost.{is_lost, lost_count, bit_above, is_parity, Filled}
use Rattle.rules.specs.Refusal.{Check, first_of, shape_refusal, refusal_of, number_of}
use Rattle.rules.specs.Paper.{Matrices, Meets}
use Rattle.rules.proofs.Accepted.{bounds}
use Rattle.rules.proofs.Checks.{FirstIs, NoneApplies, first-given, none-given}
use Rattle.rules.proofs.Printed.{matrix, matrix-printed, paper_exactly}
use Rattle.rules.proofs.LostSets.{parity-number, parity-number-taken}
use Rattle.rules.proofs.Fillings.{filled_exists}
use Rattle.yebarg.specs.Refusal.{lay_refusal, read_back_refusal, cut_refusal}
use Rattle.sums.specs.Refusal.{test_refusal, sums_refusal}
use Rattle.fractions.specs.Refusal.{add_refusal}
use Rattle.yebarg.specs.Promise.{LayMeets, ReadBackMeets, CutMeets}
use Rattle.sums.specs.declared.answers.Failure.{Failure}
use Rattle.sums.specs.Promise.{TestMeets, SumsMeet}
use Rattle.fractions.specs.Promise.{AddMeets}
use Rattle.sums.proofs.Refusals.{test-accepted}
use Rattle.sums.proofs.Settled.{test-whole_exactly}
use Rattle.rebuild.specs.Refusal.{rebuild_refusal}
use Rattle.rebuild.specs.Promise.{RebuildMeets}
use Rattle.fill.specs.Refusal.{fill_refusal, parity_refusal}
use Rattle.fill.specs.Promise.{FillMeets, ParityMeets}
use Rattle.fill.proofs.Taken.{FillTaken, fill-taken, taken→fill, taken→parity}
use Rattle.entries.specs.Pack.{others, columns_of, packed}
use Rattle.pack.specs.declared.answers.Contents.{Contents}
use Rattle.pack.specs.Refusal.{stripe_most}
use Rattle.entries.specs.Refusal.{layout_refusal}
use Rattle.pack.specs.Refusal.{read_refusal}
use Rattle.layout.specs.declared.answers.Found.{Found}
use Rattle.layout.specs.Promise.{LayoutMeets}
use Rattle.pack.specs.Promise.{ReadMeets}
use Rattle.pack.proofs.Unpacking.{read_gives_back}
use Rattle.text.specs.Text.{read_text, printed, numbered, longest_text}
use Rattle.text.specs.Refusal.{print_refusal}
use Rattle.text.specs.Promise.{PrintMeets}
use Rattle.text.proofs.Refusals.{print-taken}
use Rattle.text.proofs.Readers.{reader_printed, same_text}
use Rattle.demands.proofs.Deeds as deeds

-- DEMAND 1. "Every public entry takes every input and ends." No entry has a `requires`, and that it ends is part of what the checker proves of its
-- contract. So each promise stands for every input. (`measure` and `divide`, which are no entries, say their refusals 1 and 9 in their own promises.)

-- "Bad shapes, lengths, node numbers and lost sets are refused by number, in document 01's order": of a list of checks the first that applies is given, and
-- none otherwise. The entries' lists are `lay_refusal`, `read_back_refusal`, and so on
pub first_that_applies : (checks : List Check) (q : ℕ) → first_of checks ≡ some q → FirstIs checks q
first_that_applies = first-given

pub none-otherwise : (checks : List Check) → first_of checks ≡ none → NoneApplies checks
none-otherwise = none-given

-- "and a refusal leaves every buffer it was lent as it found it"
pub lay-refusals : (sh : Shape) (rec stripe : List ℕ) (answer : Result (Unit {0}) Refusal) (later : List ℕ) → LayMeets sh rec stripe answer later
    → (refusal_of answer ≡ lay_refusal sh rec stripe) × ((q : ℕ) → refusal_of answer ≡ some q → later ≡ stripe)
lay-refusals sh rec stripe answer later p = (p.answered, λ q e. p.stripe-later.kept q (sym p.answered ∙ e))

pub read-back-refusals : (sh : Shape) (stripe buffer : List ℕ) (answer : Result (Unit {0}) Refusal) (later : List ℕ) → ReadBackMeets sh stripe buffer answer later
    → (refusal_of answer ≡ read_back_refusal sh stripe buffer) × ((q : ℕ) → refusal_of answer ≡ some q → later ≡ buffer)
read-back-refusals sh stripe buffer answer later p = (p.answered, λ q e. p.buffer_later.kept q (sym p.answered ∙ e))

-- a test is lent nothing to write
pub test-refusals : (sh : Shape) (stripe : List ℕ) (answer : Result (prelude.Option Failure) Refusal) → TestMeets sh stripe answer → refusal_of answer ≡ test_refusal sh stripe
test-refusals sh stripe answer p = p.answered

pub cut-refusals : (sh : Shape) (helper failed : ℕ) (col buffer : List ℕ) (answer : Result (Unit {0}) Refusal) (later : List ℕ)
    → CutMeets sh helper failed col buffer answer later
    → (refusal_of answer ≡ cut_refusal sh helper failed col buffer) × ((q : ℕ) → refusal_of answer ≡ some q → later ≡ buffer)
cut-refusals sh helper failed col buffer answer later p = (p.answered, λ q e. p.buffer_later.kept q (sym p.answered ∙ e))

pub sums-refusals : (sh : Shape) (stripe buffer : List ℕ) (answer : Result (Unit {0}) Refusal) (later : List ℕ) → SumsMeet sh stripe buffer answer later
    → (refusal_of answer ≡ sums_refusal sh stripe buffer) × ((q : ℕ) → refusal_of answer ≡ some q → later ≡ buffer)
sums-refusals sh stripe buffer answer later p = (p.answered, λ q e. p.kept q (sym p.answered ∙ e))

pub add-refusals : (sh : Shape) (failed helper : ℕ) (given sums : List ℕ) (answer : Result (Unit {0}) Refusal) (later : List ℕ)
    → AddMeets sh failed helper given sums answer later
    → (refusal_of answer ≡ add_refusal sh failed helper given sums) × ((q : ℕ) → refusal_of answer ≡ some q → later ≡ sums)
add-refusals sh failed helper given sums answer later p = (p.answered, λ q e. p.kept q (sym p.answered ∙ e))

pub rebuild-refusals : (sh : Shape) (failed : ℕ) (fractions before : List ℕ) (answer : Result (Unit {0}) Refusal) (later : List ℕ)
    → RebuildMeets sh failed fractions before answer later
    → (refusal_of answer ≡ rebuild_refusal sh failed fractions before) × ((q : ℕ) → refusal_of answer ≡ some q → later ≡ before)
rebuild-refusals sh failed fractions before answer later p = (p.answered, λ q e. p.kept q (sym p.answered ∙ e))

pub parity-refusals : (sh : Shape) (stripe : List ℕ) (answer : Result (Unit {0}) Refusal) (later : List ℕ) → ParityMeets sh stripe answer later
    → (refusal_of answer ≡ parity_refusal sh stripe) × ((q : ℕ) → refusal_of answer ≡ some q → later ≡ stripe)
parity-refusals sh stripe answer later p = (p.answered, λ q e. p.kept q (sym p.answered ∙ e))

-- of `fill`: 1 to 4 in order, and past them no number but 5
pub fill-refusals : (sh : Shape) (lost : ℕ) (stripe : List ℕ) (answer : Result (Unit {0}) Refusal) (later : List ℕ) → FillMeets sh lost stripe answer later
    → ((q : ℕ) → fill_refusal sh lost stripe ≡ some q → refusal_of answer ≡ some q)
    × (fill_refusal sh lost stripe ≡ none → (q : ℕ) → refusal_of answer ≡ some q → q ≡ 5)
    × ((q : ℕ) → refusal_of answer ≡ some q → later ≡ stripe)
fill-refusals sh lost stripe answer later p = (p.refused, λ e q r. (p.unfillable e q r).0, p.kept)

-- of a pack, in the pack reader's own order. Reading the layout is lent nothing to write
pub layout_refusals : (pack : List ℕ) (answer : Result Found Refusal) → LayoutMeets pack answer → refusal_of answer ≡ layout_refusal pack
layout_refusals pack answer p = p.answered

pub read-refusals : (pack before : List ℕ) (answer : Result Contents Refusal) (later : List ℕ) → ReadMeets pack before answer later
    → ((q : ℕ) → read_refusal pack before ≡ some q → refusal_of answer ≡ some q)
    × (read_refusal pack before ≡ none → (q : ℕ) → refusal_of answer ≡ some q → q ≡ 5)
    × ((q : ℕ) → refusal_of answer ≡ some q → later ≡ before)
read-refusals pack before answer later p = (p.refused, λ e q r. (p.unfillable e q r).0, p.kept)

pub print-refusals : (answer : Result Contents ℕ) (stripe before : List ℕ) (result : Result ℕ Refusal) (later : List ℕ) → PrintMeets answer stripe before result later
    → (refusal_of result ≡ print_refusal stripe before) × ((q : ℕ) → refusal_of result ≡ some q → later ≡ before)
print-refusals answer stripe before (Ok k) later (passed, _, _) = (sym passed, λ q e. absurd (none-ne-some q e))
print-refusals answer stripe before (Err k) later (refused, kept) = (sym refused, λ q e. kept)

-- DEMAND 2. "A stripe is whole exactly when it meets the parity equations of Ye and Barg with our field and points."
-- The equations are (3) of source 000, with the matrices of (4), (5) and (6), which there are
pub whole_exactly : (sh : Shape) → shape_refusal sh ≡ none → (A : ℕ → ℕ → ℕ → ℕ → ℕ) → Matrices sh A → (stripe : List ℕ)
    → Meets sh A (symbol sh stripe) ↔ Whole sh stripe
whole_exactly = paper_exactly

pub matrices_exist : (sh : Shape) → shape_refusal sh ≡ none → Matrices sh (matrix sh)
matrices_exist sh accepted = matrix-printed sh (bounds sh accepted)

-- and it is what `test` finds
pub test-finds-whole : (sh : Shape) (stripe : List ℕ) (answer : Result (prelude.Option Failure) Refusal) → shape_refusal sh ≡ none → IsBytes (stripe_length sh) stripe
    → TestMeets sh stripe answer → (answer ≡ Ok None) ↔ Whole sh stripe
test-finds-whole sh stripe answer accepted bytes p = test-whole_exactly sh stripe answer (test-accepted sh stripe accepted bytes.exact) p

-- "Filling parity makes every stripe whole and keeps the data columns."
pub parity_makes_whole : (sh : Shape) (stripe : List ℕ) (answer : Result (Unit {0}) Refusal) (later : List ℕ) → shape_refusal sh ≡ none → IsBytes (stripe_length sh) stripe
    → ParityMeets sh stripe answer later
    → (answer ≡ Ok tt) × Whole sh later × ((i : ℕ) → 1 ≤ i → i ≤ data_nodes sh → column sh later i ≡ column sh stripe i)
parity_makes_whole sh stripe answer later accepted bytes p =
    let e = taken→parity sh stripe accepted bytes.exact in
    (deeds.done answer (p.answered ∙ e), (p.filled e).whole, deeds.filled_data sh stripe later (p.filled e))

-- so the record is kept
pub parity_keeps_record : (sh : Shape) (stripe later : List ℕ) → ParityMeets sh stripe (Ok tt) later → read_back sh later ≡ read_back sh stripe
parity_keeps_record = deeds.parity-record

-- "Filling at most r lost columns gives back a whole stripe from its survivors": W is whole, and the stripe has its columns but for the lost ones, which
-- may hold anything
pub fill_gives_back : (sh : Shape) (lost : ℕ) (stripe W : List ℕ) (answer : Result (Unit {0}) Refusal) (later : List ℕ) → fill_refusal sh lost stripe ≡ none
    → IsBytes (stripe_length sh) W → Whole sh W → ((i : ℕ) → 1 ≤ i → i ≤ sh.n → is_lost lost i ≡ false → column sh W i ≡ column sh stripe i)
    → FillMeets sh lost stripe answer later → (answer ≡ Ok tt) × (later ≡ W)
fill_gives_back sh lost stripe W answer later taken bytes whole survivors p =
    deeds.filled-accepted sh lost stripe answer later p taken W (record { bytes = bytes; survivors = survivors; whole = whole })

-- "Rebuilding one column from fractions cut out of a whole stripe gives that column": each node but the failed one cuts its fraction out of its column of
-- W, and the fractions are laid end to end
module _ (sh : Shape) (failed : ℕ) (W before : List ℕ) (buffers fractions : ℕ → List ℕ) (answers : ℕ → Result (Unit {0}) Refusal) (answer : Result (Unit {0}) Refusal) (later : List ℕ)
    (accepted : shape_refusal sh ≡ none) (first : 1 ≤ failed) (last : failed ≤ sh.n)
    (bytes : IsBytes (stripe_length sh) W) (whole : Whole sh W)
    (room : length before ≡ rows sh) (rooms : (i : ℕ) → length (buffers i) ≡ fraction_length sh)
    (cut : (i : ℕ) → 1 ≤ i → i ≤ sh.n → (i ≡ failed → ⊥) → CutMeets sh i failed (column sh W i) (buffers i) (answers i) (fractions i)) where
  pub rebuild_gives_back : RebuildMeets sh failed (end_to_end sh failed fractions) before answer later → (answer ≡ Ok tt) × (later ≡ column sh W failed)
  rebuild_gives_back p =
      deeds.rebuilt-back sh failed W before answer later accepted first last bytes whole room
      (rw (deeds.cuts_are sh failed W buffers fractions answers accepted first last bytes rooms cut) at p)

-- DEMAND 3. "For every accepted shape, every buffer of its length and every lost set of at most r of its columns": that is what has none of the refusals 1 to 4
pub fill_asks : (sh : Shape) (lost : ℕ) (stripe : List ℕ) → (fill_refusal sh lost stripe ≡ none) ↔ FillTaken sh lost stripe
fill_asks sh lost stripe = (fill-taken sh lost stripe, taken→fill sh lost stripe)

module _ (sh : Shape) (lost : ℕ) (stripe : List ℕ) (answer : Result (Unit {0}) Refusal) (later : List ℕ) (taken : fill_refusal sh lost stripe ≡ none)
    (p : FillMeets sh lost stripe answer later) where
  -- "a fill is accepted exactly when the survivors belong to some whole stripe"
  pub fill-accepted_exactly : (answer ≡ Ok tt) ↔ ((W : List ℕ) × Filled sh (is_lost lost) stripe W)
  fill-accepted_exactly = (
    λ e. (later, deeds.accepted-filled sh lost stripe answer later p e),
    λ w. (deeds.filled-accepted sh lost stripe answer later p taken w.0 w.1).0,
  )

  -- "That stripe is then the only one, and it is what is written."
  pub fill_writes_the_only : answer ≡ Ok tt → Filled sh (is_lost lost) stripe later × ((W : List ℕ) → Filled sh (is_lost lost) stripe W → W ≡ later)
  fill_writes_the_only e = (
    deeds.accepted-filled sh lost stripe answer later p e,
    λ W f. sym (deeds.filled-accepted sh lost stripe answer later p taken W f).1,
  )

  -- so it is refused with 5 exactly when they belong to none
  pub fill_5_exactly : (refusal_of answer ≡ some 5) ↔ ((W : List ℕ) → Filled sh (is_lost lost) stripe W → ⊥)
  fill_5_exactly = (λ e. (p.unfillable taken 5 e).1, λ none-fills. go none-fills (refusal_of answer) refl)
    where
      go : ((W : List ℕ) → Filled sh (is_lost lost) stripe W → ⊥) → (x : Option ℕ) → refusal_of answer ≡ x → refusal_of answer ≡ some 5
      go none-fills none e = absurd (none-fills later (p.filled taken e))
      go none-fills (some q) e = e ∙ ap some (p.unfillable taken q e).0

  -- "With exactly r lost this is always so, with the survivors' bytes chosen freely."
  pub fill_with_r-lost : IsBytes (stripe_length sh) stripe → lost_count lost ≡ sh.r → answer ≡ Ok tt
  fill_with_r-lost bytes exact =
      let b = deeds.taken-bounds sh lost stripe taken in
      fill-accepted_exactly.1 (filled_exists sh b (is_lost lost) (deeds.taken_among sh lost stripe taken ∙ exact) stripe bytes)

  -- document 01: "Refusal 5 can't occur with r lost"
  pub fill_never_5 : IsBytes (stripe_length sh) stripe → lost_count lost ≡ sh.r → refusal_of answer ≡ some 5 → ⊥
  fill_never_5 bytes exact e = some-ne-none 5 (sym e ∙ deeds.not_refused answer (fill_with_r-lost bytes exact))

-- "For the same shape and lost set, adding two accepted stripes .. adds .. what is filled in": all bytes are added, those that the lost columns held too
pub fill_adds : (sh : Shape) (lost : ℕ) (x y x' y' : List ℕ) (answer : Result (Unit {0}) Refusal) (later : List ℕ)
    → IsBytes (stripe_length sh) x → IsBytes (stripe_length sh) y → FillMeets sh lost x (Ok tt) x' → FillMeets sh lost y (Ok tt) y'
    → FillMeets sh lost (plus_bytes x y) answer later → (answer ≡ Ok tt) × (later ≡ plus_bytes x' y')
fill_adds sh lost x y x' y' answer later bx by p q =
    deeds.sum-filled sh lost x y x' y' answer later bx by (deeds.accepted-taken sh lost x (Ok tt) x' p refl)
    (deeds.accepted-filled sh lost x (Ok tt) x' p refl) (deeds.accepted-filled sh lost y (Ok tt) y' q refl)

-- ".. or multiplying one by a field number .. multiplies what is filled in": by 0 too
pub fill_multiplies : (sh : Shape) (lost c : ℕ) (x x' : List ℕ) (answer : Result (Unit {0}) Refusal) (later : List ℕ)
    → IsBytes (stripe_length sh) x → FillMeets sh lost x (Ok tt) x' → FillMeets sh lost (times_bytes c x) answer later
    → (answer ≡ Ok tt) × (later ≡ times_bytes c x')
fill_multiplies sh lost c x x' answer later bx p =
    deeds.multiple_filled sh lost c x x' answer later bx (deeds.accepted-taken sh lost x (Ok tt) x' p refl) (deeds.accepted-filled sh lost x (Ok tt) x' p refl)

-- Document 01, "Filling lost columns": "Only lost columns are written"
pub fill_keeps_survivors : (sh : Shape) (lost : ℕ) (stripe : List ℕ) (answer : Result (Unit {0}) Refusal) (later : List ℕ) → FillMeets sh lost stripe answer later
    → (i : ℕ) → 1 ≤ i → i ≤ sh.n → is_lost lost i ≡ false → column sh later i ≡ column sh stripe i
fill_keeps_survivors sh lost stripe (Ok _) later p i h k out = (deeds.accepted-filled sh lost stripe (Ok tt) later p refl).survivors i h k out
fill_keeps_survivors sh lost stripe (Err q) later p i h k out = ap (λ z. column sh z i) (p.kept (number_of q) refl)

-- so a fill with no data column lost keeps the record
pub fill_keeps_record : (sh : Shape) (lost : ℕ) (stripe later : List ℕ) → ((i : ℕ) → 1 ≤ i → i ≤ data_nodes sh → is_lost lost i ≡ false)
    → FillMeets sh lost stripe (Ok tt) later → read_back sh later ≡ read_back sh stripe
fill_keeps_record = deeds.fill-record

-- "What they held before has no influence on the answer or on what is written": two stripes that differ in lost columns alone
pub fill-reads_no_lost-byte : (sh : Shape) (lost : ℕ) (x y x' y' : List ℕ) (a b : Result (Unit {0}) Refusal) → length x ≡ length y
    → ((i : ℕ) → 1 ≤ i → i ≤ sh.n → is_lost lost i ≡ false → column sh x i ≡ column sh y i)
    → FillMeets sh lost x a x' → FillMeets sh lost y b y' → (a ≡ b) × (a ≡ Ok tt → x' ≡ y')
fill-reads_no_lost-byte sh lost x y x' y' a b long same = deeds.unread sh lost x y long same a b x' y'

-- "An empty set is allowed: it is accepted exactly for a whole stripe and writes nothing."
pub fill_of_nothing : (sh : Shape) (stripe : List ℕ) (answer : Result (Unit {0}) Refusal) (later : List ℕ) → shape_refusal sh ≡ none → IsBytes (stripe_length sh) stripe
    → FillMeets sh 0 stripe answer later → ((answer ≡ Ok tt) ↔ Whole sh stripe) × (later ≡ stripe)
fill_of_nothing = deeds.empty_fill

-- Parity is a fill of the columns k + 1 to n: of every lost number whose nodes are these, and 2^n − 2^k is one
pub parity-is-a-fill : (sh : Shape) (lost : ℕ) (stripe : List ℕ) (a b : Result (Unit {0}) Refusal) (x y : List ℕ) → bit_above sh lost ≡ false
    → ((i : ℕ) → 1 ≤ i → i ≤ sh.n → is_lost lost i ≡ is_parity sh i)
    → ParityMeets sh stripe a x → FillMeets sh lost stripe b y → (a ≡ b) × (x ≡ y)
parity-is-a-fill sh lost stripe a b x y above same = deeds.parity_as_fill sh lost stripe above same a b x y

pub parity-lost-number : (sh : Shape) → shape_refusal sh ≡ none
    → (bit_above sh (2 ^ sh.n - 2 ^ data_nodes sh) ≡ false)
    × ((i : ℕ) → 1 ≤ i → i ≤ sh.n → is_lost (2 ^ sh.n - 2 ^ data_nodes sh) i ≡ is_parity sh i)
parity-lost-number sh accepted = ((parity-number-taken sh (bounds sh accepted)).0, parity-number sh (bounds sh accepted))

-- what the parity columns held has no influence, on the answer or on what is written
pub parity-reads_no_parity-byte : (sh : Shape) (x y x' y' : List ℕ) (a b : Result (Unit {0}) Refusal) → length x ≡ length y
    → ((i : ℕ) → 1 ≤ i → i ≤ data_nodes sh → column sh x i ≡ column sh y i)
    → ParityMeets sh x a x' → ParityMeets sh y b y' → (a ≡ b) × (a ≡ Ok tt → x' ≡ y')
parity-reads_no_parity-byte = deeds.parity-unread-all

-- Parity, test and fill agree: after a fill, and after parity, `test` finds the stripe whole
pub test-after-fill : (sh : Shape) (lost : ℕ) (stripe later : List ℕ) (tested : Result (prelude.Option Failure) Refusal) → FillMeets sh lost stripe (Ok tt) later → TestMeets sh later tested
    → tested ≡ Ok None
test-after-fill sh lost stripe later tested p q =
    let taken = fill-taken sh lost stripe (deeds.accepted-taken sh lost stripe (Ok tt) later p refl) in
    let f = deeds.accepted-filled sh lost stripe (Ok tt) later p refl in
    (test-finds-whole sh later tested taken.shape f.bytes q).1 f.whole

pub test-after-parity : (sh : Shape) (stripe later : List ℕ) (tested : Result (prelude.Option Failure) Refusal) → ParityMeets sh stripe (Ok tt) later → TestMeets sh later tested
    → tested ≡ Ok None
test-after-parity sh stripe later tested p q =
    let f = deeds.parity-filled sh stripe later p in
    (test-finds-whole sh later tested (deeds.parity-shape sh stripe later p) f.bytes q).1 f.whole

-- a fill of what parity filled changes nothing, whatever is called lost
pub fill-after-parity : (sh : Shape) (lost : ℕ) (stripe filled : List ℕ) (answer : Result (Unit {0}) Refusal) (later : List ℕ) → ParityMeets sh stripe (Ok tt) filled
    → fill_refusal sh lost filled ≡ none → FillMeets sh lost filled answer later → (answer ≡ Ok tt) × (later ≡ filled)
fill-after-parity sh lost stripe filled answer later p taken q =
    let f = deeds.parity-filled sh stripe filled p in
    fill_gives_back sh lost filled filled answer later taken f.bytes f.whole (λ i h k out. refl) q

-- The whole way: a record is laid, parity is filled, at most r columns are lost, they are filled; what is read back is the record, and zeros after it
pub record_survives : (sh : Shape) (lost : ℕ) (rec stripe laid coded damaged filled : List ℕ) (answer : Result (Unit {0}) Refusal)
    → LayMeets sh rec stripe (Ok tt) laid → ParityMeets sh laid (Ok tt) coded
    → fill_refusal sh lost damaged ≡ none → ((i : ℕ) → 1 ≤ i → i ≤ sh.n → is_lost lost i ≡ false → column sh coded i ≡ column sh damaged i)
    → FillMeets sh lost damaged answer filled
    → (answer ≡ Ok tt) × (read_back sh filled ≡ rec ++ replicate (data_length sh - length rec) 0)
record_survives sh lost rec stripe laid coded damaged filled answer p q taken survivors r =
    let f = deeds.parity-filled sh laid coded q in
    let (e, back) = fill_gives_back sh lost damaged coded answer filled taken f.bytes f.whole survivors r in
    (e, ap (read_back sh) back ∙ parity_keeps_record sh laid coded q ∙ deeds.laid-record sh rec stripe laid p (deeds.parity-exact sh laid coded q))

-- and by a pack: a record is laid, parity is filled, the columns are packed with at most r of them missing, the pack is read. What is answered is the shape
-- and the missing nodes; what is read back of the stripe is the record, and zeros after it
pub record_survives_packing : (sh : Shape) (lost : ℕ) (rec stripe laid coded before later : List ℕ) (answer : Result Contents Refusal)
    → LayMeets sh rec stripe (Ok tt) laid → ParityMeets sh laid (Ok tt) coded
    → bit_above sh lost ≡ false → lost_count lost ≤ sh.r → length before ≡ stripe_most
    → ReadMeets (packed sh (others sh lost) (columns_of sh (others sh lost) coded)) before answer later
    → (answer ≡ Ok (record { shape = sh; lost = lost }))
    × (read_back sh (take (stripe_length sh) later) ≡ rec ++ replicate (data_length sh - length rec) 0)
record_survives_packing sh lost rec stripe laid coded before later answer p q inside few room r =
    let f = deeds.parity-filled sh laid coded q in
    let (e, back) = read_gives_back sh lost coded before answer later (deeds.parity-shape sh laid coded q) inside few f.bytes f.whole room r in (
      e,
      ap (λ later. read_back sh (take (stripe_length sh) later)) back
          ∙ ap (read_back sh) (take_at coded (drop (stripe_length sh) before) (stripe_length sh) f.bytes.exact)
          ∙ parity_keeps_record sh laid coded q ∙ deeds.laid-record sh rec stripe laid p (deeds.parity-exact sh laid coded q),
    )

-- and what is printed of a pack of a whole stripe's columns with at most r of them missing: the shape, the missing nodes, and these columns of the stripe
pub pack-printed : (sh : Shape) (lost : ℕ) (stripe before later text written : List ℕ) (answer : Result Contents Refusal) (result : Result ℕ Refusal)
    → shape_refusal sh ≡ none → bit_above sh lost ≡ false → lost_count lost ≤ sh.r → IsBytes (stripe_length sh) stripe → Whole sh stripe
    → length before ≡ stripe_most → length text ≡ longest_text
    → ReadMeets (packed sh (others sh lost) (columns_of sh (others sh lost) stripe)) before answer later → PrintMeets (numbered answer) later text result written
    → (result ≡ Ok (length (read_text sh lost stripe)))
    × (written ≡ read_text sh lost stripe ++ drop (length (read_text sh lost stripe)) text)
pack-printed sh lost stripe before later text written answer result taken inside few bytes whole room long r p =
    let (e, back) = read_gives_back sh lost stripe before answer later taken inside few bytes whole room r in
    deeds.text-written (numbered answer) later text result written (read_text sh lost stripe)
    (print-taken later text (deeds.still_room sh stripe before later bytes.exact back taken room) long)
    (ap (λ a. printed (numbered a) later) e
    ∙ reader_printed _ before _ later (subst (λ a. ReadMeets (packed sh (others sh lost) (columns_of sh (others sh lost) stripe)) before a later) e r) later
    ∙ same_text sh lost later stripe (deeds.front-columns sh stripe before later bytes.exact back))
    p
