-- Digits and the numbers that they spell.
use Rattle.std.proofs.Common.{◌≡◌, ℕ, ◌+◌, ◌*◌, ◌^◌, ◌<◌, ◌≤◌, Bool, true, false, ◌&&◌, cond, nat_lt, List, [], ◌∷◌, length, get_or, drop, Some, None, refl, ap, sym, ◌∙◌, arith, rules}
use Rattle.std.specs.Char.{digit_value}
use Rattle.std.specs.Str.{all_ascii_digits}
use Rattle.std.specs.Str.Parse.{digits_value, digits_value_after}
use Rattle.std.proofs.lemmas.List.{at_drop_more, at_drop_all}
use Rattle.tag_lines.specs.Lines.{number_below}

-- more digits make no number less
pub digits_grow : (n : ℕ) (ds : List ℕ) → n ≤ digits_value_after 10 n ds
digits_grow n [] = omega arith
digits_grow n (c ∷ cs) = omega (arith, digits_grow (n * 10 + digit_value c) cs)

and_false : (a b : Bool) → b ≡ false → (a && b) ≡ false
and_false true b h = h
and_false false b h = refl

chosen : (limit value : ℕ) (numeral below : Bool) → (numeral && below) ≡ false
    → cond (numeral && below) (Some value) None ≡ None
chosen limit value numeral below h = ap (λ test. cond test (Some value) None) h

-- a number at the limit or above is none
pub too_large : (limit : ℕ) (word : List ℕ) → limit ≤ digits_value 10 word → number_below limit word ≡ None
too_large limit word h =
    let above : nat_lt (digits_value 10 word) limit ≡ false = search (rules, h) in
    chosen limit (digits_value 10 word) (all_ascii_digits word) (nat_lt (digits_value 10 word) limit) (and_false
    (all_ascii_digits word) _ above)

-- digits alone spell their number
pub small_enough : (limit : ℕ) (word : List ℕ) → all_ascii_digits word ≡ true → digits_value 10 word < limit
    → number_below limit word ≡ Some (digits_value 10 word)
small_enough limit word digits below =
    let fits : nat_lt (digits_value 10 word) limit ≡ true = search (rules, below) in
    ap (λ test. cond (test && nat_lt (digits_value 10 word) limit) (Some (digits_value 10 word)) None) digits
    ∙ ap (λ test. cond test (Some (digits_value 10 word)) None) fits

-- a digit that doesn't fit makes the number too large
pub overflows : (word : List ℕ) (i value : ℕ) → i < length word
    → digits_value_after 10 value (drop i word) ≡ digits_value 10 word
    → 2 ^ 64 ≤ value * 10 + digit_value (get_or word i 0) → number_below (2 ^ 64) word ≡ None
overflows word i value within so_far large =
    let step : digits_value_after 10 value (drop i word) ≡ digits_value_after 10 value
    (get_or word i 0 ∷ drop (i + 1) word) =
    at_drop_more (digits_value_after 10 value) word i 0 within in
    let grow : value * 10 + digit_value (get_or word i 0) ≤ digits_value_after 10 (value * 10 + digit_value
    (get_or word i 0)) (drop (i + 1) word) =
    digits_grow (value * 10 + digit_value (get_or word i 0)) (drop (i + 1) word) in
    too_large (2 ^ 64) word (omega (arith, step, so_far, grow, large))

-- when no digit is left the number is read
pub is_read : (word : List ℕ) (i value : ℕ) → length word ≤ i → value < 2 ^ 64
    → digits_value_after 10 value (drop i word) ≡ digits_value 10 word
    → all_ascii_digits (drop i word) ≡ all_ascii_digits word
    → number_below (2 ^ 64) word ≡ Some value
is_read word i value done fits so_far digits =
    let number : value ≡ digits_value 10 word = sym (at_drop_all (digits_value_after 10 value) word i done) ∙ so_far in
    let all : all_ascii_digits word ≡ true = sym digits ∙ at_drop_all all_ascii_digits word i done in
    small_enough (2 ^ 64) word all (omega (arith, number, fits)) ∙ ap Some (sym number)
