-- The weight of a node at a row: document 01, "The equations"; source 000, (3) and (4), gathered by point.
--   mate_node s a i     == the node of i's group at the place that row a's digit names
--   mate_row s a i      == row a with the group's digit set to i's place
--   side s a i          == how node i's place compares with row a's digit of its group
--   weighed c o own other == the weight by its three cases, o being how the place compares with the digit
--   weight c C a i      == the weight of node i at row a in the stripe C
use Prim.Native.Nat.{ℕ, compare, Ordering}
use Rattle.theory.specs.Code.{Code, Stripe}
use Rattle.theory.specs.Digit.{digit, with_digit, group, place, node}

unfoldable pub mate_node : ℕ → ℕ → ℕ → ℕ
mate_node s a i = node s (group s i) (digit s a (group s i))

unfoldable pub mate_row : ℕ → ℕ → ℕ → ℕ
mate_row s a i = with_digit s a (group s i) (place s i)

unfoldable pub side : ℕ → ℕ → ℕ → Ordering
side s a i = compare (place s i) (digit s a (group s i))

-- place against digit: below the digit γ times the own symbol plus the mate's, at the digit the own symbol, above it the own plus the mate's
unfoldable pub weighed : (c : Code) → Ordering → c.field.K → c.field.K → c.field.K
weighed c Ordering.lt own other = c.field.add (c.field.mul c.γ own) other
weighed c Ordering.eq own other = own
weighed c Ordering.gt own other = c.field.add own other

unfoldable pub weight : (c : Code) → Stripe c → ℕ → ℕ → c.field.K
weight c C a i = weighed c (side c.s a i) (C i a) (C (mate_node c.s a i) (mate_row c.s a i))
