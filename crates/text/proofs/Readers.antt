-- The text of what the pack reader answers. In order: a reader's answer calls for no refusal, so that its shape, its lost nodes and their columns are printed;
-- of a stripe with more bytes after it the same lines are printed.
use mathlib.Core.Path.{◌≡◌, ap}
use mathlib.Core.List.{List, ◌++◌}
use mathlib.Core.Option.{none}
use Prim.Native.Nat.{ℕ, ◌≤◌}
use Rattle.std.specs.Prelude.{Ok}
use Rattle.rules.specs.declared.shapes.Shape.{Shape}
use Rattle.rules.specs.Stripe.{column}
use Rattle.rules.proofs.Pieces.{flat_same}
use Rattle.entries.specs.Pack.{nodes_of}
use Rattle.entries.proofs.Sets.{listed_held}
use Rattle.pack.specs.declared.answers.Contents.{Contents}
use Rattle.pack.specs.Promise.{ReadMeets}
use Rattle.pack.proofs.Passed.{accepted-passes, accepted-read}
use Rattle.pack.proofs.Unpacking.{content-few}
use Rattle.text.specs.Text.{spaced, spaced_all, line, shape_line, lost_line, column_line, read_text, contents_refusal, contents_text, printed}
use Rattle.text.proofs.Refusals.{taken→none}

module _ (pack before : List ℕ) (contents : Contents) (later : List ℕ) (p : ReadMeets pack before (Ok contents) later) where
  pub reader_calls_for_none : contents_refusal contents ≡ none
  reader_calls_for_none =
      let passes = accepted-passes pack before contents later p in
      let is = accepted-read pack before contents later p in
      taken→none contents (record { shape = is.taken; none_above = is.inside; few = content-few pack before contents later is passes })

  pub reader_printed : (stripe : List ℕ) → printed (Ok contents) stripe ≡ read_text contents.shape contents.lost stripe
  unfolding printed
  reader_printed stripe = ap (λ r. contents_text r contents stripe) reader_calls_for_none

-- what is printed of a stripe is its columns at the lost nodes
pub same_text : (sh : Shape) (lost : ℕ) (x y : List ℕ) → ((i : ℕ) → 1 ≤ i → i ≤ sh.n → column sh x i ≡ column sh y i)
    → read_text sh lost x ≡ read_text sh lost y
unfolding read_text column_line
same_text sh lost x y h =
    ap (λ columns. shape_line sh ++ lost_line sh lost ++ columns)
    (flat_same (column_line sh x) (column_line sh y) (nodes_of sh lost)
    (λ i m. let (p, q, e) = listed_held sh lost i m in ap (λ col. line "column" (spaced i ++ spaced_all col)) (h i p q)))
