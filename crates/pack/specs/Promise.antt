-- What the entry promises, for every input: its answer, and every later byte of the 4,096 that it is lent. `later` is what these hold when it returns.
--   Unpacks sh lost pack stripe == the stripe is whole, and the pack is the pack of its columns that are not lost
--   ReadIs    == what is accepted: a shape and a lost set, and the first n × l of the 4,096 bytes are that stripe; the rest keep their bytes
--   ReadMeets == `read_pack`: the refusals 2, 6, 1, 6, 7, 8 and 4; then the stripe is filled, or refusal 5 and no stripe unpacks; a refusal changes no byte
use Rattle.std.specs.Prelude.{◌≡◌, false, List, ℕ, take, drop, Result, Ok}
use Rattle.std.proofs.Math.Option.{none, some}
use Rattle.rules.specs.declared.refusals.Refusal.{Refusal}
use Rattle.rules.specs.declared.shapes.Shape.{Shape}
use Rattle.rules.specs.Stripe.{IsBytes, stripe_length}
use Rattle.rules.specs.Equation.{Whole}
use Rattle.rules.specs.Lost.{bit_above}
use Rattle.rules.specs.Refusal.{refusal_of, shape_refusal}
use Rattle.entries.specs.Pack.{others, columns_of, packed}
use Rattle.pack.specs.declared.answers.Contents.{Contents}
use Rattle.pack.specs.Refusal.{read_refusal}

pub record Unpacks (sh : Shape) (lost : ℕ) (pack stripe : List ℕ) : Type 0 where
  pub bytes : IsBytes (stripe_length sh) stripe
  pub whole : Whole sh stripe
  pub is : pack ≡ packed sh (others sh lost) (columns_of sh (others sh lost) stripe)

pub record ReadIs (pack before : List ℕ) (contents : Contents) (later : List ℕ) : Type 0 where
  -- an accepted shape, and a set of its nodes
  pub taken : shape_refusal contents.shape ≡ none
  pub inside : bit_above contents.shape contents.lost ≡ false
  -- the stripe in front, and the bytes after it
  pub filled : Unpacks contents.shape contents.lost pack (take (stripe_length contents.shape) later)
  pub kept : drop (stripe_length contents.shape) later ≡ drop (stripe_length contents.shape) before

pub record ReadMeets (pack before : List ℕ) (answer : Result Contents Refusal) (later : List ℕ) : Type 0 where
  -- 2, 6, 1, 6, 7, 8, 4
  pub refused : (q : ℕ) → read_refusal pack before ≡ some q → refusal_of answer ≡ some q
  -- none of these: accepted, and filled
  pub reads : read_refusal pack before ≡ none → (contents : Contents) → answer ≡ Ok contents → ReadIs pack before contents later
  -- or refused with 5, and the columns held belong to no whole stripe
  pub unfillable : read_refusal pack before ≡ none → (q : ℕ) → refusal_of answer ≡ some q
      → (q ≡ 5) × ((sh : Shape) (lost : ℕ) (stripe : List ℕ) → bit_above sh lost ≡ false → Unpacks sh lost pack stripe → ⊥)
  pub kept : (q : ℕ) → refusal_of answer ≡ some q → later ≡ before
