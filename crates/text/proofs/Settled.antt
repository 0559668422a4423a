-- What `print` promises settles its answer and every byte of the text: two results that one promise allows are equal. And wrong answers that the promise
-- rules out, at document 01's worked answer: n = 3, r = 2, node 2 lost, bench stripe C, and a text of full stops.
--   worked       == the worked answer
--   worked_stripe == bench stripe C at the front of the 4,096 bytes
--   lent         == full stops, as many as the longest text has bytes
--   Meets        == what `print` promises of these
use mathlib.Core.Path.{◌≡◌, refl, sym, ap, ap₂, ◌∙◌}
use mathlib.Core.List.{List, ◌∷◌, ◌++◌, flat_map}
use mathlib.Core.Option.{none-ne-some, some-ne-none, some-injective}
use Prim.Native.Nat.{ℕ}
use native.Mathlib.Omega.{arith}
use lib.Count.{ones, ones_in}
use Rattle.std.specs.Prelude.{Result, Ok, Err}
use lib.ListN.{length, get_or, take, drop, replicate, length-append, length-replicate}
use lib.Seq.{take_at}
use Rattle.rules.specs.declared.refusals.Refusal.{Refusal}
use Rattle.rules.specs.declared.refusals.Refusal.TheVariants.{BadLength}
use Rattle.rules.specs.Refusal.{number_of}
use Rattle.rules.proofs.Numbers.{number_of-injective}
use Rattle.rules.specs.Shape.{group_size, groups, rows, accepted}
use Rattle.rules.specs.Stripe.{column_start, column}
use Rattle.rules.specs.Rising.{rising}
use Rattle.rules.specs.Lost.{is_lost, lost_count, bit_above}
use Rattle.rules.specs.Bench.{shape, stripe_c}
use Rattle.entries.specs.Pack.{nodes_of}
use Rattle.pack.specs.declared.answers.Contents.{Contents}
use Rattle.pack.specs.Refusal.{stripe_most}
use Rattle.text.specs.Text.{letters, decimal, spaced, spaced_all, spaced_or_none, line, refused_line, shape_line, lost_line, column_line}
use Rattle.text.specs.Text.{read_text, contents_refusal, printed, longest_text}
use Rattle.text.specs.Promise.{PrintMeets}
use Rattle.text.proofs.Refusals.{print-taken}

pub print_settled : (answer : Result Contents ℕ) (stripe before : List ℕ) (a b : Result ℕ Refusal) (x y : List ℕ)
    → PrintMeets answer stripe before a x → PrintMeets answer stripe before b y → (a ≡ b) × (x ≡ y)
print_settled answer stripe before (Ok k) (Ok j) x y p q =
    (ap Ok (p.1 ∙ sym q.1), p.2 ∙ ap (λ i. printed answer stripe ++ drop i before) (p.1 ∙ sym q.1) ∙ sym q.2)
print_settled answer stripe before (Ok k) (Err n) x y p q = absurd (none-ne-some (number_of n) (sym p.0 ∙ q.0))
print_settled answer stripe before (Err m) (Ok j) x y p q = absurd (some-ne-none (number_of m) (sym p.0 ∙ q.0))
print_settled answer stripe before (Err m) (Err n) x y p q =
    (ap Err (number_of-injective m n (some-injective (number_of m) (number_of n) (sym p.0 ∙ q.0))), p.1 ∙ sym q.1)

-- a shape and a lost set, with n = 3 and r = 2
abbrev answer_of : ℕ → Result Contents ℕ
answer_of lost = Ok record { shape = shape 3 2; lost = lost }

abbrev worked : Result Contents ℕ
worked = answer_of 2

abbrev worked_stripe : List ℕ
worked_stripe = stripe_c ++ replicate 4084 0

abbrev lent : List ℕ
lent = replicate longest_text 46

-- the three lines of document 01
pub worked-text : printed worked worked_stripe ≡ letters "shape 3 2 4\nlost 2\ncolumn 2 6 15 12 30\n"
unfolding printed contents_refusal accepted rows groups group_size bit_above lost_count ones ones_in read_text shape_line lost_line column_line line spaced_or_none
    spaced_all spaced decimal nodes_of rising is_lost column column_start flat_map
worked-text = refl

-- nothing lost
pub none-text : printed (answer_of 0) worked_stripe ≡ letters "shape 3 2 4\nlost none\n"
unfolding printed contents_refusal accepted rows groups group_size bit_above lost_count ones ones_in read_text shape_line lost_line line spaced_or_none spaced
    decimal nodes_of rising is_lost flat_map
none-text = refl

stripe-long : length worked_stripe ≡ stripe_most
stripe-long = length-append stripe_c (replicate 4084 0) ∙ omega (arith, length-replicate {A = ℕ} 4084 0)

lent-long : length lent ≡ longest_text
lent-long = length-replicate {A = ℕ} longest_text 46

abbrev Meets : Result Contents ℕ → Result ℕ Refusal → List ℕ → Type 0
Meets answer printing later = PrintMeets answer worked_stripe lent printing later

module _ (answer : Result Contents ℕ) where
  -- refuses everything
  pub print_refuses : (q : Refusal) (later : List ℕ) → Meets answer (Err q) later → ⊥
  print_refuses q later p = none-ne-some (number_of q) (sym (print-taken worked_stripe lent stripe-long lent-long) ∙ p.0)

  -- what the text holds at index j
  text_at : (words : List ℕ) → printed answer worked_stripe ≡ words → (k : ℕ) (later : List ℕ) → Meets answer (Ok k) later
      → (j : ℕ) → get_or later j 0 ≡ get_or (words ++ drop (length words) lent) j 0
  text_at words e k later p j =
      ap (λ (l : List ℕ). get_or l j 0) (p.2 ∙ ap₂ (λ (l : List ℕ) (i : ℕ). l ++ drop i lent) e (p.1 ∙ ap length e))

worked-at : (k : ℕ) (later : List ℕ) → Meets worked (Ok k) later → (j : ℕ)
    → get_or later j 0 ≡ get_or (letters "shape 3 2 4\nlost 2\ncolumn 2 6 15 12 30\n" ++ drop 39 lent) j 0
worked-at k later p j = text_at worked (letters "shape 3 2 4\nlost 2\ncolumn 2 6 15 12 30\n") worked-text k later p j

pub print_writes_nothing : (k : ℕ) → Meets worked (Ok k) lent → ⊥
print_writes_nothing k p = let e : ◌≡◌ {A = ℕ} 46 115 = worked-at k lent p 0 in omega arith

-- one byte is wrong
pub print_wrong_byte : (k : ℕ) (rest : List ℕ) → Meets worked (Ok k) (letters "shape 3 2 4\nlost 2\ncolumn 2 6 15 12 31\n" ++ rest) → ⊥
print_wrong_byte k rest p = let e : ◌≡◌ {A = ℕ} 49 48 = worked-at k _ p 37 in omega arith

-- a number without its last digit
pub print_no_last-digit : (k : ℕ) (rest : List ℕ) → Meets worked (Ok k) (letters "shape 3 2 4\nlost 2\ncolumn 2 6 15 12 3\n" ++ rest) → ⊥
print_no_last-digit k rest p = let e : ◌≡◌ {A = ℕ} 10 48 = worked-at k _ p 37 in omega arith

-- a length one less
pub print_wrong_length : (later : List ℕ) → Meets worked (Ok 38) later → ⊥
print_wrong_length later p = let e : ◌≡◌ {A = ℕ} 38 39 = p.1 ∙ ap length worked-text in omega arith

-- a byte after the text isn't kept
pub print_spoils_rest : (k : ℕ) (rest : List ℕ) → Meets worked (Ok k) (letters "shape 3 2 4\nlost 2\ncolumn 2 6 15 12 30\n" ++ 47 ∷ rest) → ⊥
print_spoils_rest k rest p = let e : ◌≡◌ {A = ℕ} 47 46 = worked-at k _ p 39 in omega arith

-- refused, and a byte isn't kept
pub print-refused_writes : (stripe rest : List ℕ) → PrintMeets worked stripe lent (Err BadLength) (47 ∷ rest) → ⊥
print-refused_writes stripe rest p = let e : ◌≡◌ {A = ℕ} 47 46 = ap (λ (l : List ℕ). get_or l 0 0) p.1 in omega arith

refused-text : printed (Err 4) worked_stripe ≡ letters "refused 4\n"
unfolding printed refused_line line spaced decimal
refused-text = refl

-- a refusal, printed otherwise
pub print_of_refusal : (k : ℕ) (later : List ℕ) → Meets (Err 4) (Ok k) later → (take k later ≡ letters "refused 4\n" → ⊥) → ⊥
print_of_refusal k later p other =
    other
    (ap (take k) (p.2 ∙ ap (λ (l : List ℕ). l ++ drop k lent) refused-text)
    ∙ take_at (letters "refused 4\n") (drop k lent) k (sym (p.1 ∙ ap length refused-text)))

-- nothing lost, and `none` left out
pub print_no_none : (k : ℕ) (rest : List ℕ) → Meets (answer_of 0) (Ok k) (letters "shape 3 2 4\nlost\n" ++ rest) → ⊥
print_no_none k rest p =
    let e : ◌≡◌ {A = ℕ} 10 32 = text_at (answer_of 0) (letters "shape 3 2 4\nlost none\n") none-text k _ p 16 in omega arith
