use mathlib.Core.List.{flat_map}
use lib.ListN.{take}
use Rattle.text.specs.Text.{spaced}
use Rattle.text.specs.Kernel.{WrittenOn}
use Rattle.text.proofs.pages.Page.push_bytes.Given as goal

abbrev pub invariant-loop-byte : goal.invariant-loop-byte
invariant-loop-byte l = WrittenOn l.initial.self (flat_map spaced (take l.byte-index l.list)) l.self
