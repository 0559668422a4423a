-- What the private functions do, each result said whole.
--   Placed found pack before later == `WellFormed::place`: the columns held are those of the pack; the others keep their bytes
--   FoundMeets found pack before answer later == `WellFormed::fill_in`, `fill_found`: the pack is read; or refused with 4 where more than r are lost, with 5
--                   where the columns held belong to no whole stripe
use Rattle.std.specs.Prelude.{◌≡◌, false, List, ℕ, ◌<◌, ◌≤◌, length, drop, Result, Ok, Err}
use Rattle.std.proofs.Math.Option.{some}
use Rattle.rules.specs.declared.refusals.Refusal.{Refusal}
use Rattle.rules.specs.declared.refusals.Refusal.TheVariants.{TooManyLost}
use Rattle.rules.specs.Refusal.{refusal_of}
use Rattle.rules.specs.Stripe.{column}
use Rattle.rules.specs.Lost.{lost_count}
use Rattle.layout.specs.declared.answers.Found.{Found}
use Rattle.entries.specs.Pack.{has, others, columns_of}
use Rattle.pack.specs.declared.answers.Contents.{Contents}
use Rattle.pack.specs.Promise.{Unpacks, ReadIs}

pub record Placed (found : Found) (pack before later : List ℕ) : Type 0 where
  pub same_length : length later ≡ length before
  pub placed : columns_of found.shape found.held later ≡ drop found.start pack
  pub kept : (i : ℕ) → 1 ≤ i → i ≤ found.shape.n → has found.held i ≡ false
      → column found.shape later i ≡ column found.shape before i

pub record FoundMeets (found : Found) (pack before : List ℕ) (answer : Result Contents Refusal) (later : List ℕ) : Type 0 where
  pub many : found.shape.r < lost_count (others found.shape found.held) → answer ≡ Err TooManyLost
  pub reads : (contents : Contents) → answer ≡ Ok contents → ReadIs pack before contents later
  pub unfillable : lost_count (others found.shape found.held) ≤ found.shape.r → (q : ℕ) → refusal_of answer ≡ some q
      → (q ≡ 5) × ((stripe : List ℕ) → Unpacks found.shape (others found.shape found.held) pack stripe → ⊥)
  pub kept : (q : ℕ) → refusal_of answer ≡ some q → later ≡ before
