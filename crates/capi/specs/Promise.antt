-- What is promised of a shape's number, and where numbers are written through pointers, for every input. `code` is the number returned; a name with `later`
-- is what the pointer leads to when the function returns.
--   ShapeIs n r shape == `przytulisz_shape`: the number of the shape
--   SizesMeet     == `przytulisz_sizes`: k, m, s and l of an accepted shape; else refusal 1, and nothing is written
--   TestTold      == the answer of a test as the numbers say it: 0 with 1 in `whole` and row and t kept, 0 with 0 there and where it fails first, or a
--                    refusal, which writes nothing
--   TestCodeMeets == `przytulisz_test`: the entry promises the answer that the numbers say
--   ReadTold      == the answer of the pack reader as the numbers say it: 0 with its shape and lost set, or a refusal, which writes nothing
--   ReadCodeMeets == `przytulisz_read_pack`: the entry promises the answer that the numbers say
use Rattle.std.specs.Prelude.{◌≡◌, List, ℕ, Option, Some, None, Result, Ok, Err}
use Rattle.std.proofs.Math.Option.{none, some}
use Rattle.rules.specs.declared.shapes.Shape.{Shape}
use Rattle.rules.specs.declared.refusals.Refusal.{Refusal}
use Rattle.rules.specs.Shape.{data_nodes, groups, group_size, rows}
use Rattle.rules.specs.Refusal.{shape_refusal, number_of}
use Rattle.sums.specs.declared.answers.Failure.{Failure}
use Rattle.sums.specs.Promise.{TestMeets}
use Rattle.pack.specs.declared.answers.Contents.{Contents}
use Rattle.pack.specs.Promise.{ReadMeets}
use Rattle.capi.specs.Word.{shape_of, refused_of, word_of}

pub record ShapeIs (n r shape : ℕ) : Type 0 where
  pub value : shape ≡ word_of n r

pub record SizesMeet (sh : Shape) (k m s l code k-later m-later s-later l-later : ℕ) : Type 0 where
  pub answered : refused_of code ≡ shape_refusal sh
  pub written : shape_refusal sh ≡ none
      → (k-later ≡ data_nodes sh) × (m-later ≡ groups sh) × (s-later ≡ group_size sh) × (l-later ≡ rows sh)
  pub kept : (q : ℕ) → shape_refusal sh ≡ some q → (k-later ≡ k) × (m-later ≡ m) × (s-later ≡ s) × (l-later ≡ l)

abbrev pub TestTold : Result (Option Failure) Refusal → ℕ → ℕ → ℕ → ℕ → ℕ → ℕ → ℕ → Type 0
TestTold (Ok None) whole row t code whole-later row-later t-later = (code ≡ 0) × (whole-later ≡ 1) × (row-later ≡ row) × (t-later ≡ t)
TestTold (Ok (Some f)) whole row t code whole-later row-later t-later = (code ≡ 0) × (whole-later ≡ 0) × (row-later ≡ f.row) × (t-later ≡ f.t)
TestTold (Err q) whole row t code whole-later row-later t-later = (code ≡ number_of q) × (whole-later ≡ whole) × (row-later ≡ row) × (t-later ≡ t)

pub record TestCodeMeets (sh : Shape) (stripe : List ℕ) (whole row t code whole-later row-later t-later : ℕ) : Type 0 where
  pub answer : Result (Option Failure) Refusal
  pub meets : TestMeets sh stripe answer
  pub told : TestTold answer whole row t code whole-later row-later t-later

abbrev pub ReadTold : Result Contents Refusal → ℕ → ℕ → ℕ → ℕ → ℕ → Type 0
ReadTold (Ok contents) shape lost code shape-later lost-later = (code ≡ 0) × (contents.shape ≡ shape_of shape-later) × (lost-later ≡ contents.lost)
ReadTold (Err q) shape lost code shape-later lost-later = (code ≡ number_of q) × (shape-later ≡ shape) × (lost-later ≡ lost)

pub record ReadCodeMeets (pack stripe : List ℕ) (shape lost code : ℕ) (stripe-later : List ℕ) (shape-later lost-later : ℕ) : Type 0 where
  pub answer : Result Contents Refusal
  pub meets : ReadMeets pack stripe answer stripe-later
  pub told : ReadTold answer shape lost code shape-later lost-later
