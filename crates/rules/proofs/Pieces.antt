-- Lists laid end to end, as `flat_map` does. In order: two lists cut at one place; the pieces of no list, of one in two parts, of one with one more at its
-- end; pieces that are the same; how long they are together, and the piece at a place.
use mathlib.Core.Path.{◌≡◌, refl, sym, ap, ap₂, ◌∙◌}
use mathlib.Core.List.{List, [], ◌∷◌, ◌++◌, flat_map, append-nil, append_assoc}
use mathlib.Core.Logic.{◌⊎◌, inl, inr}
use Prim.Native.Nat.{ℕ, zero, suc, ◌*◌, ◌<◌, ◌≤◌}
use native.Mathlib.Nat.{add_comm, le_of_suc-le-suc, not-suc-le-zero, suc-mul, zero-mul}
use native.Mathlib.Omega.{arith}
use lib.ListN.{length, get_or, take, drop, length-append}
use lib.Seq.{take_at, drop_at, drop-drop}
use Rattle.rules.specs.Rising.{Listed}

-- two lists of equal length, each with another after it
cut : (p q x y : List ℕ) → length p ≡ length x → p ++ q ≡ x ++ y → (p ≡ x) × (q ≡ y)
cut p q x y same e = (
  sym (take_at p q (length x) same) ∙ ap (λ (z : List ℕ). take (length x) z) e ∙ take_at x y (length x) refl,
  sym (drop_at p q (length x) same) ∙ ap (λ (z : List ℕ). drop (length x) z) e ∙ drop_at x y (length x) refl,
)

module _ (f : ℕ → List ℕ) where
  pub flat_none : flat_map f [] ≡ []
  unfolding flat_map
  flat_none = refl

  pub flat_append : (x y : List ℕ) → flat_map f (x ++ y) ≡ flat_map f x ++ flat_map f y
  unfolding flat_map
  flat_append [] y = refl
  flat_append (a ∷ x) y = ap (λ (z : List ℕ). f a ++ z) (flat_append x y) ∙ sym (append_assoc (f a) (flat_map f x) (flat_map f y))

  pub flat_more : (x : List ℕ) (a : ℕ) → flat_map f (x ++ (a ∷ [])) ≡ flat_map f x ++ f a
  unfolding flat_map
  flat_more x a = flat_append x (a ∷ []) ∙ ap (λ (z : List ℕ). flat_map f x ++ z) (append-nil (f a))

module _ (f g : ℕ → List ℕ) where
  pub flat_same : (x : List ℕ) → ((a : ℕ) → Listed a x → f a ≡ g a) → flat_map f x ≡ flat_map g x
  unfolding flat_map
  flat_same [] h = refl
  flat_same (a ∷ x) h = ap₂ (λ (p q : List ℕ). p ++ q) (h a (inl refl)) (flat_same x (λ b m. h b (inr m)))

  -- and the other way round, where they are equally long
  pub flat_each : (x : List ℕ) → ((a : ℕ) → Listed a x → length (f a) ≡ length (g a)) → flat_map f x ≡ flat_map g x → (a : ℕ) → Listed a x → f a ≡ g a
  unfolding flat_map
  flat_each [] h e a m = absurd m
  flat_each (b ∷ x) h e a m = go (cut (f b) (flat_map f x) (g b) (flat_map g x) (h b (inl refl)) e) m (flat_each x (λ c k. h c (inr k)))
    where
      go : (f b ≡ g b) × (flat_map f x ≡ flat_map g x) → (a ≡ b) ⊎ Listed a x → (flat_map f x ≡ flat_map g x → (a : ℕ) → Listed a x → f a ≡ g a) → f a ≡ g a
      go r (inl q) ih = rw q r.0
      go r (inr k) ih = ih r.1 a k

module _ (w : ℕ) (f : ℕ → List ℕ) where
  pub flat_most : (x : List ℕ) → ((a : ℕ) → Listed a x → length (f a) ≤ w) → length (flat_map f x) ≤ length x * w
  unfolding flat_map
  flat_most [] h = omega arith
  flat_most (a ∷ x) h =
      omega (arith, length-append (f a) (flat_map f x), suc-mul (length x) w, h a (inl refl), flat_most x (λ b m. h b (inr m)))

  pub flat_length : (x : List ℕ) → ((a : ℕ) → Listed a x → length (f a) ≡ w) → length (flat_map f x) ≡ length x * w
  unfolding flat_map
  flat_length [] h = omega arith
  flat_length (a ∷ x) h = length-append (f a) (flat_map f x) ∙ omega (arith, h a (inl refl), flat_length x (λ b m. h b (inr m)))

  pub flat_piece : (x : List ℕ) → ((a : ℕ) → Listed a x → length (f a) ≡ w) → (j : ℕ) → j < length x
      → take w (drop (j * w) (flat_map f x)) ≡ f (get_or x j 0)
  unfolding flat_map
  flat_piece [] h j l = absurd (not-suc-le-zero l)
  flat_piece (a ∷ x) h zero l = rw zero-mul (take_at (f a) (flat_map f x) w (h a (inl refl)))
  flat_piece (a ∷ x) h (suc j) l =
      ap (λ k. take w (drop k (f a ++ flat_map f x))) (suc-mul j w ∙ add_comm (j * w) w)
      ∙ ap (take w) (sym (drop-drop (j * w) w (f a ++ flat_map f x)) ∙ ap (drop (j * w)) (drop_at (f a) (flat_map f x) w (h a (inl refl))))
      ∙ flat_piece x (λ b m. h b (inr m)) j (le_of_suc-le-suc l)
