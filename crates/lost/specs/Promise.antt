-- What each function promises, for every input. Nodes count from 0 here, as in `theory`; `chosen flags` is the set of the nodes whose flag is set.
--   FlagsAre L flags   == `flags_of`, `parity_flags`: node i has the flag L (i + 1), for the sixteen nodes that there can be
--   OthersAre flags others == `others_of`: each flag turned round
--   Copied flags n l from before later == the chosen columns of the n are those of `from`, the others stay
--   Copyable n l from before == what is given can be copied: at most 16 columns of at most 256 bytes, and n × l bytes in both buffers
--   CopiedAre == `copy_columns`: done exactly where it can be copied, and then every later byte is settled by what is copied; else a misfit, and nothing is
--                         written
use Rattle.std.specs.Prelude.{◌≡◌, Bool, not, cond, List, ℕ, suc, ◌+◌, ◌*◌, ◌<◌, ◌≤◌, length, get_or, Result, IsOk, IsErr}
use Rattle.rules.specs.declared.refusals.Misfit.{Misfit}
use Rattle.corrections.specs.Correction.{chosen}

pub record FlagsAre (L : ℕ → Bool) (flags : List Bool) : Type 0 where
  pub all : length flags ≡ 16
  pub each : (i : ℕ) → i < 16 → chosen flags i ≡ L (suc i)

pub record OthersAre (flags others : List Bool) : Type 0 where
  pub all : length others ≡ 16
  pub each : (i : ℕ) → i < 16 → chosen others i ≡ not (chosen flags i)

pub record Copied (flags : List Bool) (n l : ℕ) (from before later : List ℕ) : Type 0 where
  pub same_length : length later ≡ length before
  pub each : (i a : ℕ) → i < n → a < l
      → get_or later (i * l + a) 0 ≡ cond (chosen flags i) (get_or from (i * l + a) 0) (get_or before (i * l + a) 0)

pub record Copyable (n l : ℕ) (from before : List ℕ) : Type 0 where
  pub few : n ≤ 16
  pub short : l ≤ 256
  pub to_exact : length before ≡ n * l
  pub from_exact : length from ≡ n * l

pub record CopiedAre (flags : List Bool) (n l : ℕ) (from before : List ℕ) (answer : Result (Unit {0}) Misfit) (later : List ℕ) : Type 0 where
  pub can : IsOk answer → Copyable n l from before
  pub copied : IsOk answer → Copied flags n l from before later
  pub cannot : IsErr answer → Copyable n l from before → ⊥
  pub kept : IsErr answer → later ≡ before
