-- What a line of a log says, by the words that were cut off it.
use Rattle.loop_device.proofs.Uses.{[], ap, Bool, cond, Entry, entry_of, Err, first_part, index_of, length, length-map, List, map, nat_lt, None, not, Ok, parts_of, position, position_or_len, prefix_len, range_action, range_words, refl, Result, Some, sym, TellsCause, ℕ, ◌∙◌}
use Rattle.std.proofs.Common.{◌≡◌, ◌+◌, ◌∷◌}
use Rattle.std.specs.Prelude.{IfErr}
use Rattle.loop_device.specs.declared.fault.LogCause.{LogCause}

-- the cause of an answer is that of what the line says
pub is_told : (said result : Result Entry LogCause) → result ≡ said → IfErr result (TellsCause said)
is_told said (Ok entry) e = tt
is_told said (Err cause) e = λ other. sym e

-- what stands behind a name and an action is a range
pub range_said : (names : List (List ℕ)) (number : ℕ) (a b rest : List ℕ)
    → entry_of names number (a ∷ b ∷ parts_of rest) ≡ range_words number (range_action b) (parts_of rest)
    (index_of names a)
range_said names number a b rest = rw (first_part rest)

passed-map : {A B : Type 0} (f : A → B) (p : B → Bool) (xs : List A)
    → prefix_len p (map f xs) ≡ prefix_len (λ x. p (f x)) xs
passed-map f p [] = refl
passed-map f p (x ∷ xs) = ap (λ n. cond (p (f x)) (1 + n) 0) (passed-map f p xs)

-- the first index at which the values pass
pub position-map : {A B : Type 0} (f : A → B) (p : B → Bool) (xs : List A)
    → position p (map f xs) ≡ position (λ x. p (f x)) xs
position-map f p xs =
    ap (λ n. cond (nat_lt n (length (map f xs))) (Some n) None) (passed-map f (λ y. not (p y)) xs)
    ∙ ap (λ n. cond (nat_lt (position_or_len (λ x. p (f x)) xs) n) (Some (position_or_len (λ x. p (f x)) xs)) None)
    (length-map xs f)
