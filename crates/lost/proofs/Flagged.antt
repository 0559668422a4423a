-- Laws of flags. In order: a node from 16 on has none; a node before parity has none.
-- Assumes nothing.
use mathlib.Core.Path.{◌≡◌, ap}
use mathlib.Core.List.{List}
use mathlib.Core.Bool.{Bool, false, ◌&&◌}
use Prim.Native.Nat.{ℕ, suc, ◌≤◌, ◌<◌}
use native.Mathlib.Omega.{arith}
use lib.Dec.{leb, ltb}
use lib.ListN.{get_or-eq_default}
use borrow.Author.Tests.{le-ltb}
use Rattle.corrections.specs.Correction.{chosen}
use Rattle.lost.specs.Promise.{FlagsAre}

pub flags-beyond : {L : ℕ → Bool} {flags : List Bool} → FlagsAre L flags → (i : ℕ) → 16 ≤ i → chosen flags i ≡ false
flags-beyond {flags = flags} are i h = get_or-eq_default flags false (omega (arith, are.all))

pub before-parity : (k n i : ℕ) → i < k → (ltb k (suc i) && leb (suc i) n) ≡ false
before-parity k n i h = ap (λ b. b && leb (suc i) n) (le-ltb k (suc i) h)
