-- The text that the program prints: document 01, "The pack file". Every line ends in a newline.
--   letters s      == a word, letter by letter in ASCII
--   digit_of d     == a digit, 0 to 9, in ASCII
--   decimal x      == x, below 1,000, in decimal
--   spaced x       == a space, and x in decimal
--   spaced_all list == each number of a list so
--   line word rest == a line: a word, what follows it, the newline
--   refused_line q == `refused` and the number
--   shape_line sh  == `shape`, n, r, l
--   spaced_or_none nodes == what follows `lost`: the nodes, or `none` where there are none
--   lost_line sh lost == `lost` and the lost nodes rising, or `none`
--   column_line sh stripe i == `column`, the node's number, its l bytes
--   read_text sh lost stripe == these lines, with a column for each lost node
--   contents_refusal contents == the refusal that a shape and a lost set call for that no reader answers: 1, shape not accepted; 3, a lost bit above n;
--                     4, more than r lost
--   contents_text refused contents stripe == these lines, or that refusal
--   numbered answer == an answer of the pack reader, its refusal as the number that is printed
--   printed answer stripe == the text of an answer of the pack reader and of the stripe that it wrote. What is answered without a refusal and no reader
--                     answers is printed as the refusal that it calls for; a refusal's number is printed whatever it is
--   longest_text   == 4,168, how long the longest text is: `shape 16 4 256`, `lost 13 14 15 16`, and four columns of 256 bytes of three digits
use Rattle.std.specs.Prelude.{Result, Ok, Err, cond, not, ℕ, ◌+◌, ◌/◌, ◌%◌, ltb}
use mathlib.Core.List.{List, [], ◌∷◌, ◌++◌, flat_map}
use Rattle.std.proofs.Math.Option.{Option, none, some}
use Prim.Native.Char.{code}
use Prim.Native.String.{String, [] as end, ◌∷◌ as ◌then◌}
use Rattle.rules.specs.declared.shapes.Shape.{Shape}
use Rattle.rules.specs.Shape.{rows, accepted}
use Rattle.rules.specs.Stripe.{column}
use Rattle.rules.specs.Lost.{lost_count, bit_above}
use Rattle.rules.specs.declared.refusals.Refusal.{Refusal}
use Rattle.rules.specs.Refusal.{first_of, ◌given-when◌, number_of}
use Rattle.pack.specs.declared.answers.Contents.{Contents}
use Rattle.entries.specs.Pack.{nodes_of}

abbrev pub letters : String → List ℕ
letters end = []
letters (c then s) = code c ∷ letters s

abbrev pub digit_of : ℕ → ℕ
digit_of d = 48 + d

unfoldable pub decimal : ℕ → List ℕ
decimal x =
    cond (ltb x 10) (digit_of x ∷ [])
    (cond (ltb x 100) (digit_of (x / 10) ∷ digit_of (x % 10) ∷ [])
    (digit_of (x / 100) ∷ digit_of (x / 10 % 10) ∷ digit_of (x % 10) ∷ []))

unfoldable pub spaced : ℕ → List ℕ
spaced x = letters " " ++ decimal x

unfoldable pub spaced_all : List ℕ → List ℕ
spaced_all list = flat_map spaced list

unfoldable pub line : String → List ℕ → List ℕ
line word rest = letters word ++ rest ++ letters "\n"

unfoldable pub refused_line : ℕ → List ℕ
refused_line q = line "refused" (spaced q)

unfoldable pub shape_line : Shape → List ℕ
shape_line sh = line "shape" (spaced sh.n ++ spaced sh.r ++ spaced (rows sh))

unfoldable pub spaced_or_none : List ℕ → List ℕ
spaced_or_none [] = letters " none"
spaced_or_none (i ∷ nodes) = spaced_all (i ∷ nodes)

unfoldable pub lost_line : Shape → ℕ → List ℕ
lost_line sh lost = line "lost" (spaced_or_none (nodes_of sh lost))

unfoldable pub column_line : Shape → List ℕ → ℕ → List ℕ
column_line sh stripe i = line "column" (spaced i ++ spaced_all (column sh stripe i))

unfoldable pub read_text : Shape → ℕ → List ℕ → List ℕ
read_text sh lost stripe = shape_line sh ++ lost_line sh lost ++ flat_map (column_line sh stripe) (nodes_of sh lost)

unfoldable pub contents_refusal : Contents → Option ℕ
contents_refusal contents =
    first_of
    (1 given-when not (accepted contents.shape)
    ∷ 3 given-when bit_above contents.shape contents.lost
    ∷ 4 given-when ltb contents.shape.r (lost_count contents.lost)
    ∷ [])

abbrev pub contents_text : Option ℕ → Contents → List ℕ → List ℕ
contents_text none contents stripe = read_text contents.shape contents.lost stripe
contents_text (some q) contents stripe = refused_line q

abbrev pub numbered : Result Contents Refusal → Result Contents ℕ
numbered (Ok contents) = Ok contents
numbered (Err q) = Err (number_of q)

unfoldable pub printed : Result Contents ℕ → List ℕ → List ℕ
printed (Ok contents) stripe = contents_text (contents_refusal contents) contents stripe
printed (Err q) stripe = refused_line q

abbrev pub longest_text : ℕ
longest_text = 4168
