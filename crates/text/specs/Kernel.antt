-- What the private functions do that write: `put` in a text, the others on a page.
--   Fits at words text == the words can be put into the text from `at` on
--   Put at words before later stop == they are put there, the other bytes are kept, and `stop` is where they end
--   RoomFor page words == they can be put after what is written on the page
--   WrittenOn page words later == they are put there, on the same page, and its other bytes are kept
use Rattle.std.specs.Prelude.{◌≡◌, List, ◌++◌, ℕ, ◌+◌, ◌≤◌, length, take, drop}
use Rattle.text.specs.declared.pages.Page.{Page}

abbrev pub Fits : ℕ → List ℕ → List ℕ → Type 0
Fits at words text = at + length words ≤ length text

pub record Put (at : ℕ) (words before later : List ℕ) (stop : ℕ) : Type 0 where
  pub stops : stop ≡ at + length words
  pub is : later ≡ take at before ++ words ++ drop stop before

abbrev pub RoomFor : Page → List ℕ → Type 0
RoomFor page words = Fits page.len words page.text.now

pub record WrittenOn (page : Page) (words : List ℕ) (later : Page) : Type 0 where
  pub same : later.text.ghost_name ≡ page.text.ghost_name
  pub put : Put page.len words page.text.now later.text.now later.len
