-- What the lines of a text say, and the first malformed line.
use Rattle.std.specs.Prelude.{◌≡◌, ℕ, ◌+◌, List, ◌∷◌, ◌++◌, map, length, Result, Ok, Err}
use Rattle.tag_lines.specs.declared.fault.LineFault.{LineFault}
use Rattle.tag_lines.specs.declared.fault.FaultyLine.{FaultyLine}
use Rattle.tag_lines.specs.declared.fault.ListFault.{ListFault}
use Rattle.tag_lines.specs.declared.fault.ListFault.TheVariants.{Memory, Faulty}
use Rattle.tag_lines.specs.Lines.{lines_of, line_words}

-- what each line says, in order
abbrev pub readings : {A : Type 0} → (List (List ℕ) → Result A LineFault) → List ℕ → List (Result A LineFault)
readings says text = map (λ line. says (line_words line)) (lines_of text)

-- no line is malformed, and these are what the lines say, in order
abbrev pub AreReadings : {A : Type 0} → (List (List ℕ) → Result A LineFault) → List ℕ → List A → Type 0
AreReadings says text items = readings says text ≡ map Ok items

-- the fault is that of the first malformed line: its number, and what is wrong with it
pub record IsFirstFaulty {A : Type 0} (says : List (List ℕ) → Result A LineFault) (text : List ℕ)
    (fault : FaultyLine) : Type 0 where
  pub before : List A
  pub rest : List (Result A LineFault)
  pub parts : readings says text ≡ map Ok before ++ Err fault.cause ∷ rest
  pub number : fault.number ≡ length before + 1

-- why a list was not read: memory ran out, or this is the first malformed line
abbrev pub IsListFault : {A : Type 0} → (List (List ℕ) → Result A LineFault) → List ℕ → ListFault → Type 0
IsListFault says text Memory = Unit {0}
IsListFault says text (Faulty fault) = IsFirstFaulty says text fault
