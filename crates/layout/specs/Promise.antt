-- What the entry promises of its answer, for every input.
--   LayoutIs pack found == the pack is the pack of the shape and the held set that are found, with the bytes from `start` on as the columns
--   LayoutMeets == `read_layout`: refused by number, or the layout is found
use Rattle.std.specs.Prelude.{◌≡◌, false, List, ℕ, length, drop, Result, Ok}
use Rattle.std.proofs.Math.Option.{none}
use Rattle.rules.specs.Lost.{bit_above}
use Rattle.rules.specs.declared.refusals.Refusal.{Refusal}
use Rattle.rules.specs.Refusal.{shape_refusal, refusal_of}
use Rattle.layout.specs.declared.answers.Found.{Found}
use Rattle.entries.specs.Pack.{nodes_of, columns_at, total_of, packed}
use Rattle.entries.specs.Refusal.{layout_refusal}

pub record LayoutIs (pack : List ℕ) (found : Found) : Type 0 where
  -- an accepted shape, and a set of its nodes
  pub taken : shape_refusal found.shape ≡ none
  pub inside : bit_above found.shape found.held ≡ false
  -- the columns begin after the entries, and the pack is as long as its total says
  pub starts : found.start ≡ columns_at (length (nodes_of found.shape found.held))
  pub long : length pack ≡ total_of found.shape (length (nodes_of found.shape found.held))
  -- it is the pack of these
  pub is : pack ≡ packed found.shape found.held (drop found.start pack)

pub record LayoutMeets (pack : List ℕ) (answer : Result Found Refusal) : Type 0 where
  pub answered : refusal_of answer ≡ layout_refusal pack
  pub finds : (found : Found) → answer ≡ Ok found → LayoutIs pack found
