-- The numbers so far, with those of the rest, are those of all words.
use Rattle.std.proofs.Common.{◌≡◌, ℕ, ◌+◌, ◌^◌, List, ◌++◌, Result, Ok, Err, length, vec_len}
use Rattle.tag_lines.specs.declared.tag_list.TheConstants.{FIRST}
use Rattle.tag_lines.specs.Lines.{parts_of, numbers_below}
use Rattle.tag_lines.proofs.tag_list.read_tags.Given as goal

-- the numbers of a text's words, of which the first has this number
abbrev pub numbers_in : ℕ → List ℕ → Result (List ℕ) ℕ
numbers_in first text = numbers_below (2 ^ 32) first (parts_of text)

-- the numbers behind a list
abbrev pub behind : List ℕ → Result (List ℕ) ℕ → Result (List ℕ) ℕ
behind numbers (Err word) = Err word
behind numbers (Ok more) = Ok (numbers ++ more)

-- the numbers so far, with those of the rest, are those of all words
abbrev pub invariant-loop-tag : goal.invariant-loop-tag
invariant-loop-tag l =
    behind l.tags.items (numbers_in (FIRST + vec_len l.tags) l.rest) ≡ numbers_in FIRST l.fn.words

abbrev pub decreases-loop-tag : goal.decreases-loop-tag
decreases-loop-tag l = length l.rest
