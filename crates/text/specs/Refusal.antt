-- The refusals, in document 01's order.
--   print_refusal == of `print`: 2, not lent exactly 4,096 bytes of stripe; 2, not lent exactly as many bytes of text as the longest has
use Rattle.std.specs.Prelude.{not, List, [], ◌∷◌, ℕ, eqb, length}
use Rattle.std.proofs.Math.Option.{Option}
use Rattle.rules.specs.Refusal.{first_of, ◌given-when◌}
use Rattle.pack.specs.Refusal.{stripe_most}
use Rattle.text.specs.Text.{longest_text}

unfoldable pub print_refusal : List ℕ → List ℕ → Option ℕ
print_refusal stripe text =
    first_of
    (2 given-when not (eqb (length stripe) stripe_most)
    ∷ 2 given-when not (eqb (length text) longest_text)
    ∷ [])
