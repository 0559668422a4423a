-- Words put into a text one after another. In order: what fits, in parts; what putting keeps; words put after words; the same of a page: nothing written,
-- words after words, three parts, the words of a list in turn.
--   one_by_one == what makes room for one part after another
--   written_in_turn == what a loop over a list is proved by
use mathlib.Core.Path.{◌≡◌, refl, sym, ap, ap₂, ◌∙◌}
use mathlib.Core.List.{List, [], ◌++◌, flat_map, append-nil, append_assoc}
use Prim.Native.Nat.{ℕ, ◌+◌, ◌<◌}
use native.Mathlib.Omega.{arith}
use lib.ListN.{length, get_or, take, drop, length-append, length-drop, take-append-drop}
use lib.Seq.{length-take-le, take_at, drop-append-add, drop-drop}
use Rattle.std.proofs.lemmas.Grind.{common_steps}
use Rattle.text.specs.declared.pages.Page.{Page}
use Rattle.text.specs.Kernel.{Fits, Put, RoomFor, WrittenOn}
use Rattle.text.proofs.Turns.{turn_more, turn_room, in_turn}

-- the first of two words that fit together fits
pub fits-first : (at : ℕ) (x y text : List ℕ) → Fits at (x ++ y) text → Fits at x text
fits-first at x y text h = omega (arith, length-append x y)

module _ {at stop : ℕ} {x before later : List ℕ} (fits : Fits at x before) (put : Put at x before later stop) where
  front_length : length (take at before ++ x) ≡ stop
  front_length = length-append (take at before) x ∙ omega (arith, length-take-le at before (omega arith), put.stops)

  pub put-length : length later ≡ length before
  put-length =
      ap length put.is
      ∙ length-append (take at before ++ x) (drop stop before)
      ∙ omega (arith, front_length, length-drop stop before, put.stops)

  put_front : take stop later ≡ take at before ++ x
  put_front = ap (take stop) put.is ∙ take_at (take at before ++ x) (drop stop before) stop front_length

  put_rest : (k : ℕ) → drop (stop + k) later ≡ drop (stop + k) before
  put_rest k =
      ap (drop (stop + k)) put.is
      ∙ ap (λ n. drop (n + k) (take at before ++ x ++ drop stop before)) (sym front_length)
      ∙ drop-append-add (take at before ++ x) (drop stop before) k
      ∙ drop-drop k stop before

-- the second of two words that fit together fits after the first
pub fits-rest : {at stop : ℕ} (x y : List ℕ) {before mid : List ℕ} → Fits at (x ++ y) before → Put at x before mid stop → Fits stop y mid
fits-rest {at} x y {before} h put = omega (arith, length-append x y, put-length (fits-first at x y before h) put, put.stops)

pub put_then : {at between stop : ℕ} (x y : List ℕ) {before mid later : List ℕ}
    → Fits at (x ++ y) before → Put at x before mid between → Put between y mid later stop → Put at (x ++ y) before later stop
put_then {at} {between} {stop} x y {before} {mid} {later} h first second = record {
  stops = omega (arith, length-append x y, first.stops, second.stops);
  is =
      second.is
      ∙ ap₂ (λ (l k : List ℕ). l ++ y ++ k) (put_front fits first)
      (ap (λ n. drop n mid) second.stops ∙ put_rest fits first (length y) ∙ ap (λ n. drop n before) (sym second.stops))
      ∙ ap (λ (l : List ℕ). l ++ drop stop before) (append_assoc (take at before) x y);
}
  where
    fits : Fits at x before
    fits = fits-first at x y before h

written_nothing : (page : Page) → WrittenOn page [] page
written_nothing page = record {
  same = refl;
  put =
      record {
        stops = omega arith;
        is =
            sym (ap (λ (l : List ℕ). l ++ drop page.len page.text.now) (append-nil (take page.len page.text.now))
            ∙ take-append-drop page.len page.text.now);
      };
}

pub written_then : {page mid later : Page} (x y : List ℕ) → RoomFor page (x ++ y) → WrittenOn page x mid → WrittenOn mid y later → WrittenOn page (x ++ y) later
written_then x y room first second = record {
  same = second.same ∙ first.same;
  put = put_then x y room first.put second.put;
}

pub ruleset one_by_one = (common_steps, fits-first, fits-rest)

-- a line has three parts: the second has room after the first, and all are written
module _ {page one : Page} (x y z : List ℕ) (room : RoomFor page (x ++ y ++ z)) (first : WrittenOn page x one) where
  front-room : RoomFor page (x ++ y)
  front-room = fits-first page.len (x ++ y) z page.text.now room

  pub second_room : RoomFor one y
  second_room = fits-rest x y front-room first.put

  pub written_three : {two later : Page} → WrittenOn one y two → WrittenOn two z later → WrittenOn page (x ++ y ++ z) later
  written_three second third = written_then (x ++ y) z room (written_then x y front-room first second) third

-- a list is written in turn
module _ (f : ℕ → List ℕ) (list : List ℕ) {page : Page} where
  pub none_written : WrittenOn page (flat_map f (take 0 list)) page
  unfolding flat_map
  none_written = written_nothing page

  module _ (i : ℕ) {mid : Page} (inside : i < length list) (room : RoomFor page (flat_map f list)) (done : WrittenOn page (flat_map f (take i list)) mid) where
    next-room : RoomFor page (flat_map f (take i list) ++ f (get_or list i 0))
    next-room = omega (arith, turn_room f list i inside, length-append (flat_map f (take i list)) (f (get_or list i 0)))

    pub next_room : RoomFor mid (f (get_or list i 0))
    next_room = fits-rest (flat_map f (take i list)) (f (get_or list i 0)) next-room done.put

    pub next_written : {later : Page} → WrittenOn mid (f (get_or list i 0)) later → WrittenOn page (flat_map f (take (i + 1) list)) later
    next_written then = rw (turn_more f list i inside) (written_then (flat_map f (take i list)) (f (get_or list i 0)) next-room done then)

pub ruleset written_in_turn = (in_turn, none_written, next_room)
