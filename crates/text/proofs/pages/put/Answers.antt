-- The part of the text that is lent comes back as the words.
use mathlib.Core.Path.{refl, sym, ap, ◌∙◌}
use mathlib.Core.List.{List, ◌++◌, append_assoc}
use Prim.Native.Nat.{ℕ, ◌+◌, ◌-◌}
use lib.ListN.{length, take, drop}
use borrow.Rule.Slice.PartMut.{put_mid}
use Rattle.columns.specs.Promise.{CopiedOver}
use Rattle.columns.proofs.Parts.{part_length, put-parts}
use Rattle.yebarg.proofs.Lists.{copied-whole}
use Rattle.text.specs.Kernel.{Fits, Put}
use Rattle.text.proofs.pages.put.Goals as goal

put-part : (at : ℕ) (words text part : List ℕ) → Fits at words text → CopiedOver words (take (at + length words - at) (drop at text)) part
    → Put at words text (put_mid at (at + length words - at) text part) (at + length words)
put-part at words text part fits copied = record {
  stops = refl;
  is =
      put-parts at (length words) text fits part
      ∙ ap (λ (l : List ℕ). take at text ++ (l ++ drop (at + length words) text))
      (copied-whole (part_length at (length words) text fits) copied)
      ∙ sym (append_assoc (take at text) words (drop (at + length words) text));
}

pub returns : goal.returns
returns c = put-part c.args.at c.args.words.now c.args.text.now _ c.requires c.copy.ensures
