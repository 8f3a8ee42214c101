-- The number that stands for the cause of a log's faulty line in the output, and the word that it is about.
use Rattle.std.specs.Prelude.{ℕ, ◌+◌, Bool, true, false, Option, Some, None}
use Rattle.tag_lines.specs.declared.fault.Misfit.TheVariants.{EmptyWord, WordCount, UnknownCommand}
use Rattle.tag_lines.specs.declared.refusal.Place.{Place}
use Rattle.tag_lines.specs.Refusals.{place_at}
use Rattle.loop_device.specs.declared.fault.LogCause.{LogCause}
use Rattle.loop_device.specs.declared.fault.LogCause.TheVariants.{NoHeader, OtherVersion, BadLine, BadNumber, UnknownName, TooManyNames, Memory, EarlierTime}
use Rattle.loop_device.specs.declared.fault.LogFault.{LogFault}
use Rattle.loop_device.specs.declared.fault.LogNumber.TheVariants.{Time, Offset, Length}

-- the number of a cause
abbrev pub number_of_cause : LogCause → ℕ
number_of_cause NoHeader = 1
number_of_cause OtherVersion = 1
number_of_cause (BadLine misfit) = 2
number_of_cause (BadNumber number) = 3
number_of_cause UnknownName = 4
number_of_cause TooManyNames = 5
number_of_cause Memory = 6
number_of_cause EarlierTime = 7

-- the word that is wrong in a line without a time
abbrev pub plain_word : LogCause → Option ℕ
plain_word NoHeader = None
plain_word OtherVersion = None
plain_word (BadLine EmptyWord) = None
plain_word (BadLine WordCount) = None
plain_word (BadLine (UnknownCommand word)) = Some 2
plain_word (BadNumber Time) = None
plain_word (BadNumber Offset) = Some 3
plain_word (BadNumber Length) = Some 4
plain_word UnknownName = Some 1
plain_word TooManyNames = Some 1
plain_word Memory = None
plain_word EarlierTime = None

-- the word is one further on behind a time
abbrev pub behind_time : Bool → Option ℕ → Option ℕ
behind_time has_time None = None
behind_time true (Some word) = Some (word + 1)
behind_time false (Some word) = Some word

-- the word that is wrong, in a line with or without a time
abbrev pub word_of_cause : Bool → LogCause → Option ℕ
word_of_cause has_time NoHeader = None
word_of_cause has_time OtherVersion = None
word_of_cause has_time (BadLine misfit) = behind_time has_time (plain_word (BadLine misfit))
word_of_cause has_time (BadNumber Time) = Some 1
word_of_cause has_time (BadNumber Offset) = behind_time has_time (Some 3)
word_of_cause has_time (BadNumber Length) = behind_time has_time (Some 4)
word_of_cause has_time UnknownName = behind_time has_time (Some 1)
word_of_cause has_time TooManyNames = behind_time has_time (Some 1)
word_of_cause has_time Memory = None
word_of_cause has_time EarlierTime = Some 1

-- where a log is wrong
abbrev pub place_of_fault : Bool → LogFault → Place
place_of_fault has_time fault = place_at fault.line (word_of_cause has_time fault.cause)
