-- Lists that are written in part or whole. In order: what `clear` leaves; a list laid over the front of another, and zeros after it; a list laid over
-- another of its length; what `copy` leaves of a part of that length.
use mathlib.Core.Path.{◌≡◌, sym, ap, ap₂, ◌∙◌}
use mathlib.Core.List.{List, ◌++◌, append-nil, append_assoc}
use Prim.Native.Nat.{ℕ, ◌-◌, ◌≤◌}
use native.Mathlib.Nat.{add-sub_of_le}
use native.Mathlib.Omega.{arith}
use lib.ListN.{length, take, drop, replicate, length-replicate}
use lib.Seq.{ext_get_or, take-length, drop-length, take-append_seam, drop-append_seam, drop-drop}
use borrow.Rule.Slice.PartMut.{put_mid}
use Rattle.columns.specs.Promise.{Cleared, CopiedOver}
use Rattle.columns.proofs.Parts.{zeros-at, copied-over}

pub cleared_zeros : {before later : List ℕ} → Cleared before later → later ≡ replicate (length before) 0
cleared_zeros {before} {later} p =
    ext_get_or 0 later (replicate (length before) 0) (p.same_length ∙ sym (length-replicate (length before) 0))
    (λ j h. p.bytes j (omega (arith, h, p.same_length)) ∙ sym (zeros-at (length before) j))

-- after `rec` is laid over the front of the stripe, zeros are put after it up to index `end`
pub laid-over : (rec stripe : List ℕ) (end : ℕ) → length rec ≤ end
    → put_mid (length rec) (end - length rec) (rec ++ drop (length rec) stripe) (replicate (end - length rec) 0)
    ≡ rec ++ replicate (end - length rec) 0 ++ drop end stripe
laid-over rec stripe end h =
    ap₂ (λ (x y : List ℕ). x ++ (replicate (end - length rec) 0 ++ y))
    (take-append_seam rec (drop (length rec) stripe))
    (ap (drop (end - length rec)) (drop-append_seam rec (drop (length rec) stripe))
    ∙ drop-drop (end - length rec) (length rec) stripe
    ∙ ap (λ j. drop j stripe) (add-sub_of_le h))
    ∙ sym (append_assoc rec (replicate (end - length rec) 0) (drop end stripe))

laid-over-all : (from to : List ℕ) → length to ≡ length from → take (length from) from ++ drop (length from) to ≡ from
laid-over-all from to e =
    ap₂ (λ (x y : List ℕ). x ++ y) (take-length from) (ap (λ n. drop n to) (sym e) ∙ drop-length to) ∙ append-nil from

pub copied-whole : {from before later : List ℕ} → length before ≡ length from → CopiedOver from before later → later ≡ from
copied-whole {from} {before} same copied = copied-over (omega (arith, same)) copied ∙ laid-over-all from before same
