-- A loop that changes the members of a list in order: those before the index have changed, and the others have not.
use Rattle.std.specs.Prelude.{◌+◌, ◌<◌, ◌∷◌, ◌≡◌}
use Rattle.std.proofs.Common.{[], All, ap, arith, drop, get_or, length, List, map, refl, set, subst, sym, take, ℕ, ◌∙◌}
use Rattle.std.specs.List.{AllZip}
use Rattle.std.proofs.lemmas.List.{drop-drop, drop-set-lt, get_or-drop, take_more_set}
use Rattle.std.proofs.lemmas.List.Elements.{All-cons, All-head, All-nil, All-tail, all_zip_more}

module _ {A : Type 0} where
  first_left : (xs : List A) (i : ℕ) (d : A) → get_or (drop i xs) 0 d ≡ get_or xs i d
  first_left xs i d = get_or-drop i xs 0 d ∙ ap (λ (k : ℕ). get_or xs k d) (let z : i + 0 ≡ i = omega arith in z)

  -- the member at the index is the one passed in
  pub next_is : (olds now : List A) (i : ℕ) (d : A) → drop i now ≡ drop i olds → get_or now i d ≡ get_or olds i d
  next_is olds now i d left = sym (first_left now i d) ∙ ap (λ (xs : List A). get_or xs 0 d) left ∙ first_left olds i d

  -- those after it are still as they were
  pub left_more : (olds now : List A) (i : ℕ) (y : A) → drop i now ≡ drop i olds
      → drop (i + 1) (set now i y) ≡ drop (i + 1) olds
  left_more olds now i y left = drop-set-lt (i + 1) now i y (omega arith) ∙ sym (drop-drop 1 i now)
      ∙ ap (λ (xs : List A). drop 1 xs) left ∙ drop-drop 1 i olds

  module _ (P : A → A → Type 0) where
    -- one more has changed
    pub changed_more : (olds now : List A) (i : ℕ) (x y : A) → i < length olds → i < length now
        → drop i now ≡ drop i olds → x ≡ get_or now i x → AllZip P (take i olds) (take i now) → P x y
        → AllZip P (take (i + 1) olds) (take (i + 1) (set now i y))
    changed_more olds now i x y low within left is changed p =
        subst (AllZip P (take (i + 1) olds)) (sym (take_more_set now i y within))
        (all_zip_more P olds (take i now) i x y low (is ∙ next_is olds now i x left) changed p)

    -- what each change leaves as it was, all of them leave
    pub same_images : {B : Type 0} (f : A → B) → ((x y : A) → P x y → f y ≡ f x) → (olds news : List A)
        → AllZip P olds news → map f news ≡ map f olds
    same_images f is [] [] h = refl
    same_images f is [] (y ∷ ys) h = absurd h
    same_images f is (x ∷ xs) [] h = absurd h
    same_images f is (x ∷ xs) (y ∷ ys) h = (λ j. is x y h.0 j ∷ same_images f is xs ys h.1 j)

    -- what each change establishes holds of all members
    pub all_changed : (Q S : A → Type 0) → ((x y : A) → P x y → Q x → S y) → (olds news : List A)
        → AllZip P olds news → All Q olds → All S news
    all_changed Q S f [] [] h q = All-nil S
    all_changed Q S f [] (y ∷ ys) h q = absurd h
    all_changed Q S f (x ∷ xs) [] h q = absurd h
    all_changed Q S f (x ∷ xs) (y ∷ ys) h q = All-cons S y ys (f x y h.0 (All-head Q x xs q))
        (all_changed Q S f xs ys h.1 (All-tail Q x xs q))

    -- a change of the members is a change of their parts
    pub parts_changed : {B : Type 0} (S : B → B → Type 0) (f : A → B) → ((x y : A) → P x y → S (f x) (f y))
        → (olds news : List A) → AllZip P olds news → AllZip S (map f olds) (map f news)
    parts_changed S f g [] [] h = h
    parts_changed S f g [] (y ∷ ys) h = absurd h
    parts_changed S f g (x ∷ xs) [] h = absurd h
    parts_changed S f g (x ∷ xs) (y ∷ ys) h = (g x y h.0, parts_changed S f g xs ys h.1)
