-- What the entry promises, for every input: its answer, and every later byte of the text that it is lent.
--   PrintMeets == `print`: the text stands at the front of the bytes lent for it, which keep the rest, and its length is answered; or refused with 2, and
--                 every byte is kept
use Rattle.std.specs.Prelude.{◌≡◌, List, ◌++◌, ℕ, Result, Ok, Err, length, drop}
use Rattle.std.proofs.Math.Option.{none, some}
use Rattle.rules.specs.declared.refusals.Refusal.{Refusal}
use Rattle.rules.specs.Refusal.{number_of}
use Rattle.pack.specs.declared.answers.Contents.{Contents}
use Rattle.text.specs.Text.{printed}
use Rattle.text.specs.Refusal.{print_refusal}

abbrev pub PrintMeets : Result Contents ℕ → List ℕ → List ℕ → Result ℕ Refusal → List ℕ → Type 0
PrintMeets answer stripe before (Ok k) later =
    (print_refusal stripe before ≡ none) × (k ≡ length (printed answer stripe)) × (later ≡ printed answer stripe ++ drop k before)
PrintMeets answer stripe before (Err q) later = (print_refusal stripe before ≡ some (number_of q)) × (later ≡ before)
