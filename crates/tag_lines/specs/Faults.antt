-- The number that stands for a line's fault in the output, and the word that it is about.
use Rattle.std.specs.Prelude.{ℕ, Option, Some, None}
use Rattle.tag_lines.specs.declared.fault.FaultyLine.{FaultyLine}
use Rattle.tag_lines.specs.declared.fault.LineFault.{LineFault}
use Rattle.tag_lines.specs.declared.fault.LineFault.TheVariants.{BadLine, BadNumber, NoSuchCaller}
use Rattle.tag_lines.specs.declared.fault.Misfit.{Misfit}
use Rattle.tag_lines.specs.declared.fault.Misfit.TheVariants.{EmptyWord, WordCount, UnknownCommand}
use Rattle.tag_lines.specs.declared.refusal.Place.{Place}
use Rattle.tag_lines.specs.Refusals.{place_at}

-- the number of a line's fault
abbrev pub number_of_line_fault : LineFault → ℕ
number_of_line_fault (BadLine misfit) = 1
number_of_line_fault (BadNumber word) = 2
number_of_line_fault NoSuchCaller = 3

-- the word that is unknown
abbrev pub word_of_misfit : Misfit → Option ℕ
word_of_misfit EmptyWord = None
word_of_misfit WordCount = None
word_of_misfit (UnknownCommand word) = Some word

-- the word that is wrong; the caller is the first one
abbrev pub word_of_line_fault : LineFault → Option ℕ
word_of_line_fault (BadLine misfit) = word_of_misfit misfit
word_of_line_fault (BadNumber word) = Some word
word_of_line_fault NoSuchCaller = Some 1

-- where a faulty line is wrong
abbrev pub place_of : FaultyLine → Place
place_of fault = place_at fault.number (word_of_line_fault fault.cause)
