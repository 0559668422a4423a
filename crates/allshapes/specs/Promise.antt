-- What each function of the program that answers or writes something promises. `later` is what a buffer holds when the function returns.
--   record_byte i == the byte at index i of the record that is laid
--   old_byte i   == the byte at index i of a buffer that is to be written
--   byte_for given size i == the byte at index i of a stripe: of the record below `given`, 0 from there up to `size`, an old byte after that
--   Made given size before later == `make`: those bytes, over the whole buffer
--   Spoilt l lost before later == `spoil`: old bytes in the lost columns, of l bytes each; the others are kept
--   helper_at failed j == the node other than the failed one with j such nodes before it
--   digest_to xs i == 31 times the one before plus byte i − 1, modulo 65,521, from 0
--   digest xs     == the digest of all bytes of a buffer
--   one_when a b c == 1 where all three hold, and 0 otherwise
use Rattle.std.specs.Prelude.{◌≡◌, Bool, true, false, cond, ◌&&◌, List, ℕ, zero, suc, ◌+◌, ◌*◌, ◌/◌, ◌%◌, ◌<◌, ltb, length, get_or}
use Rattle.rules.specs.Lost.{is_lost}

unfoldable pub record_byte : ℕ → ℕ
record_byte i = (i % 256 * 37 + 11) % 256

unfoldable pub old_byte : ℕ → ℕ
old_byte i = (i % 256 * 91 + 165) % 256

unfoldable pub byte_for : ℕ → ℕ → ℕ → ℕ
byte_for given size i = cond (ltb i given) (record_byte i) (cond (ltb i size) 0 (old_byte i))

pub record Made (given size : ℕ) (before later : List ℕ) : Type 0 where
  pub same_length : length later ≡ length before
  pub bytes : (i : ℕ) → i < length before → get_or later i 0 ≡ byte_for given size i

pub record Spoilt (l lost : ℕ) (before later : List ℕ) : Type 0 where
  pub same_length : length later ≡ length before
  pub bytes : (i : ℕ) → i < length before → get_or later i 0 ≡ cond (is_lost lost (i / l + 1)) (old_byte i) (get_or before i 0)

unfoldable pub helper_at : ℕ → ℕ → ℕ
helper_at failed j = cond (ltb (j + 1) failed) (j + 1) (j + 2)

unfoldable pub digest_to : List ℕ → ℕ → ℕ
digest_to xs zero = 0
digest_to xs (suc i) = (digest_to xs i * 31 + get_or xs i 0) % 65521

unfoldable pub digest : List ℕ → ℕ
digest xs = digest_to xs (length xs)

unfoldable pub one_when : Bool → Bool → Bool → ℕ
one_when a b c = cond (a && b && c) 1 0
