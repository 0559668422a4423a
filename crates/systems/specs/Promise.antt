-- What `solve` promises, for every input.
--   SolveIs count points given found == `solve`: where there are at most four points, and they differ, what is found solves the system; else it is four zeros
use Rattle.std.specs.Prelude.{◌≡◌, List, [], ◌∷◌, ℕ}
use Rattle.distinct.specs.Promise.{FewApart}
use Rattle.systems.specs.System.{Solves}

pub record SolveIs (count : ℕ) (points given found : List ℕ) : Type 0 where
  pub solves : FewApart count points → Solves count points given found
  pub cannot : (FewApart count points → ⊥) → found ≡ 0 ∷ 0 ∷ 0 ∷ 0 ∷ []
