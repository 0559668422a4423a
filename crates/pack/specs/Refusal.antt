-- The refusals of reading a pack, in its own order: document 01, "Refusals in order". Refusal 5 comes after these and is said in `Promise`.
--   stripe_most == 4,096, how long the largest stripe is, and how many bytes are lent for one
--   read_refusal pack stripe == of `read_pack`: 2, not lent exactly 4,096 bytes; those of the layout; 4, more than r of the n nodes not held
use Rattle.std.specs.Prelude.{not, List, [], ◌∷◌, ◌++◌, ℕ, ◌-◌, eqb, ltb, length}
use Rattle.std.proofs.Math.Option.{Option}
use Rattle.rules.specs.Refusal.{first_of, ◌given-when◌}
use Rattle.entries.specs.Parts.{shape_in, count_in}
use Rattle.entries.specs.Refusal.{layout_checks}

abbrev pub stripe_most : ℕ
stripe_most = 4096

unfoldable pub read_refusal : List ℕ → List ℕ → Option ℕ
read_refusal pack stripe =
    first_of
    (2 given-when not (eqb (length stripe) stripe_most)
    ∷ layout_checks pack
    ++ 4 given-when ltb (shape_in pack).r ((shape_in pack).n - count_in pack)
    ∷ [])
