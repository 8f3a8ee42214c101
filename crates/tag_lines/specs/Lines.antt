-- The lines of a text, the words of a line, and the numbers that words denote.
use Rattle.std.specs.Prelude.{◌≡◌, ℕ, Bool, false, List, [], ◌∷◌, ◌==◌, ◌&&◌, nat_lt, if◌then◌else◌, length}
use Rattle.std.specs.Prelude.{◌+◌, Option, Some, None, Result, Ok, Err}
use Rattle.std.specs.List.{All, list_any, slice_split, onto_first}
use Rattle.std.specs.Str.{all_ascii_digits}
use Rattle.std.specs.Str.Parse.{digits_value}

-- the byte does not occur in the text
abbrev pub LacksByte : ℕ → List ℕ → Type 0
LacksByte byte text = All (λ b. (b == byte) ≡ false) text

-- the lines of a text: each ends with a line feed, which the last may lack
abbrev pub lines_of : List ℕ → List (List ℕ)
lines_of [] = []
lines_of (b ∷ bytes) = if b == 10 then [] ∷ lines_of bytes else onto_first b (lines_of bytes)

-- the parts of a line, which is split at every blank
abbrev pub parts_of : List ℕ → List (List ℕ)
parts_of line = slice_split (λ b. b == 32) line

-- some part is empty: the line is empty, starts or ends with a blank, or has two blanks in a row
abbrev pub has_gap : List (List ℕ) → Bool
has_gap parts = list_any (λ part. length part == 0) parts

-- the words of a line are its parts; a line with an empty part, such as an empty line, has no words
abbrev pub line_words : List ℕ → List (List ℕ)
line_words line = if has_gap (parts_of line) then [] else parts_of line

-- the value of a word of decimal digits, if it is below the limit; the words of a line are never empty
abbrev pub number_below : ℕ → List ℕ → Option ℕ
number_below limit word =
    if all_ascii_digits word && nat_lt (digits_value 10 word) limit then Some (digits_value 10 word) else None

-- the list with the value of this word in front, or the first word that has none
abbrev pub onto_numbers : ℕ → Option ℕ → Result (List ℕ) ℕ → Result (List ℕ) ℕ
onto_numbers word None numbers = Err word
onto_numbers word (Some number) (Err other) = Err other
onto_numbers word (Some number) (Ok numbers) = Ok (number ∷ numbers)

-- the values of the words, of which the first has this number; or the first word that is no number below the limit
abbrev pub numbers_below : ℕ → ℕ → List (List ℕ) → Result (List ℕ) ℕ
numbers_below limit first [] = Ok []
numbers_below limit first (word ∷ words) =
    onto_numbers first (number_below limit word) (numbers_below limit (first + 1) words)
