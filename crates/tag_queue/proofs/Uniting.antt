-- Hands that are put together again from the parts into which they were taken apart.
use Rattle.std.specs.Prelude.{◌++◌, ◌∷◌, ◌≡◌}
use Rattle.tag_queue.proofs.Uses.{[], ap, get_elem?, length, List, map, refl, some, subst, sym, ℕ, ◌∙◌}
use Rattle.std.proofs.Common.{append_assoc, reverse}
use Rattle.std.proofs.lemmas.List.{reverse-append}
use mathlib.Core.List.{map-append}

turned : {A : Type 0} (made more : List A) (a : A) → more ≡ made ++ a ∷ [] → reverse more ≡ a ∷ reverse made
turned {A} made more a pushed = ap (λ (l : List A). reverse l) pushed ∙ reverse-append made (a ∷ [])

-- the last entry of the list of parts becomes the first of the parts of the hands made
pub came_off : {A B : Type 0} (f : A → B) (left before : List B) (made more : List A) (a : A) (x : B) (all : List B)
    → before ++ map f (reverse made) ≡ all → before ≡ left ++ x ∷ [] → more ≡ made ++ a ∷ [] → f a ≡ x
    → left ++ map f (reverse more) ≡ all
came_off {A} {B} f left before made more a x all parts off pushed is =
    ap (λ (l : List A). left ++ map f l) (turned made more a pushed)
    ∙ ap (λ (y : B). left ++ y ∷ map f (reverse made)) is
    ∙ sym (append_assoc left (x ∷ []) (map f (reverse made)))
    ∙ ap (λ (l : List B). l ++ map f (reverse made)) (sym off) ∙ parts

at_end : {A : Type 0} (left : List A) (x : A) (rest : List A)
    → get_elem? ((left ++ x ∷ []) ++ rest) (length left) ≡ some x
at_end [] x rest = refl
at_end (y ∷ left) x rest = at_end left x rest

-- the entry taken off stands in the list at the number of those left
pub was_at : {A : Type 0} (left before : List A) (x : A) (rest all : List A) (n : ℕ) → before ++ rest ≡ all
    → before ≡ left ++ x ∷ [] → length left ≡ n → get_elem? all n ≡ some x
was_at {A} left before x rest all n parts off count = subst (λ (z : List A × ℕ). get_elem? z.0 z.1 ≡ some x)
    (λ j. ((ap (λ (l : List A). l ++ rest) (sym off) ∙ parts) j, count j)) (at_end left x rest)

module _ {A B : Type 0} (f : A → B) where
  at_middle : (made : List A) (x : B) (left : List B) → get_elem? (map f made ++ x ∷ left) (length made) ≡ some x
  at_middle [] x left = refl
  at_middle (a ∷ made) x left = at_middle made x left

  -- the next part is the one whose place is the number of hands made so far
  pub at_next : (made : List A) (x : B) (left before all : List B) (n : ℕ) → map f made ++ before ≡ all
      → before ≡ x ∷ left → length made ≡ n → get_elem? all n ≡ some x
  at_next made x left before all n parts next count =
      subst (λ (l : List B). get_elem? l n ≡ some x) (ap (λ (l : List B). map f made ++ l) (sym next) ∙ parts)
      (subst (λ (k : ℕ). get_elem? (map f made ++ x ∷ left) k ≡ some x) count (at_middle made x left))

  -- one more is made
  pub goes_on : (made more : List A) (a : A) (x : B) (left before all : List B)
      → map f made ++ before ≡ all → before ≡ x ∷ left → more ≡ made ++ a ∷ [] → f a ≡ x → map f more ++ left ≡ all
  goes_on made more a x left before all parts next pushed is =
      ap (λ (l : List A). map f l ++ left) pushed ∙ ap (λ (l : List B). l ++ left) (map-append f made (a ∷ []))
      ∙ append_assoc (map f made) (f a ∷ []) left
      ∙ ap (λ (y : B). map f made ++ y ∷ left) is ∙ ap (λ (l : List B). map f made ++ l) (sym next) ∙ parts
