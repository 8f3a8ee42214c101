-- What holds of all that a line may say holds of all that the lines of a text say.
use Rattle.std.proofs.Common.{ℕ, List, [], ◌∷◌, map, Ok, Result, subst}
use Rattle.std.specs.Prelude.{IfOk}
use Rattle.std.specs.List.{All, AllByRecursion}
use Rattle.std.proofs.lemmas.List.Elements.{All-from_recursion}
use Rattle.tag_lines.specs.declared.fault.LineFault.{LineFault}
use Rattle.tag_lines.specs.Lines.{lines_of, line_words}
use Rattle.tag_lines.specs.Readings.{AreReadings}

module _ {A : Type 0} (P : A → Type 0) (says : List (List ℕ) → Result A LineFault)
    (each : (words : List (List ℕ)) → IfOk (says words) P) where
  each_line : (lines : List (List ℕ))
      → AllByRecursion (λ (said : Result A LineFault). IfOk said P) (map (λ line. says (line_words line)) lines)
  each_line [] = tt
  each_line (line ∷ lines) = (each (line_words line), each_line lines)

  each_item : (items : List A) → AllByRecursion (λ (said : Result A LineFault). IfOk said P) (map Ok items)
      → AllByRecursion P items
  each_item [] h = tt
  each_item (item ∷ items) (first, others) = (first, each_item items others)

  -- what holds of all that a line may say holds of all that lines say
  pub all_said : (text : List ℕ) (items : List A) → AreReadings says text items → All P items
  all_said text items said =
      All-from_recursion P items
      (each_item items (subst (AllByRecursion (λ (s : Result A LineFault). IfOk s P)) said (each_line (lines_of text))))
