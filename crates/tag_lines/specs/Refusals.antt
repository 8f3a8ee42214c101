-- Where an input is wrong, and what is said of it.
use Rattle.std.specs.Prelude.{◌≡◌, ℕ, List, ◌++◌, codes, Option, Some, None}
use Rattle.std.specs.Fmt.{decimal}
use Rattle.tag_lines.specs.declared.refusal.Place.{Place}
use Rattle.tag_lines.specs.declared.refusal.Place.TheVariants.{Whole, Line, Word}
use Rattle.tag_lines.specs.declared.refusal.Refusal.{Refusal}

-- the word of the line, or the line if there is no such word
abbrev pub place_at : ℕ → Option ℕ → Place
place_at line None = Line line
place_at line (Some word) = Word line word

-- a place, and what is said of it
abbrev pub placed : Place → List ℕ → List ℕ
placed Whole what = what
placed (Line line) what = codes "line " ++ decimal line ++ codes ": " ++ what
placed (Word line word) what = codes "line " ++ decimal line ++ codes ", word " ++ decimal word ++ codes ": " ++ what

-- what is printed of a refusal
abbrev pub refusal_text : Refusal → List ℕ
refusal_text refusal = placed refusal.place refusal.what.now
