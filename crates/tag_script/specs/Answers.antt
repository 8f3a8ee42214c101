-- The line of each answer.
use Rattle.tag_script.specs.Uses.{[], codes, dump_text, field, flat_map, List, None, Option, ResizeCause, shown_text, Some, Wakes, ℕ}
use Rattle.std.specs.Prelude.{◌==◌, if◌then◌else◌, ◌++◌}
use Rattle.tag_pool.specs.declared.resizes.ResizeCause.TheVariants.{Missing, DepthTooLarge, InUse, Waiting, Memory}
use Rattle.tag_script.specs.declared.answer.Answer.{Answer}
use Rattle.tag_script.specs.declared.answer.Answer.TheVariants as answers
use Rattle.tag_script.specs.Faults.{number_of_tag_fault, number_of_wait_fault, number_of_resize_cause}
use Rattle.wake_book.specs.declared.waiting.Left.{Left}
use Rattle.wake_book.specs.declared.waiting.Left.TheVariants.{Woken, Unwoken}

-- a tag, or `none`
abbrev pub tag_line : Option ℕ → List ℕ
tag_line None = codes "none\n"
tag_line (Some tag) = field (codes "") tag ++ codes "\n"

-- a mask in decimal digits and the tag of its lowest bit, or `none`
abbrev pub batch_line : Option (ℕ × ℕ) → List ℕ
batch_line None = codes "none\n"
batch_line (Some won) = field (codes "mask ") won.1 ++ field (codes " at ") won.0 ++ codes "\n"

-- `ok`, with the number of waiters woken if it is not 0
abbrev pub done_line : ℕ → List ℕ
done_line woken = if woken == 0 then codes "ok\n" else field (codes "ok woken ") woken ++ codes "\n"

-- whether the caller used a wakeup
abbrev pub left_line : Left → List ℕ
left_line Woken = codes "woken\n"
left_line Unwoken = codes "unwoken\n"

-- completions counted, wakeups charged, the wake index and the number of active waiters
abbrev pub wakes_line : Wakes → List ℕ
wakes_line w =
    field (codes "counted=") w.counted ++ field (codes " charged=") w.charged ++ field (codes " index=") w.index
    ++ field (codes " active=") w.active ++ codes "\n"

-- each tag after a blank
abbrev pub busy_line : List ℕ → List ℕ
busy_line tags = codes "busy" ++ flat_map (field (codes " ")) tags ++ codes "\n"

-- the numbers of a refused resize: tags in use, or waiting callers
abbrev pub hindrance_text : ResizeCause → List ℕ
hindrance_text (Missing number) = []
hindrance_text Memory = []
hindrance_text (InUse held posted) = field (codes " held=") held ++ field (codes " posted=") posted
hindrance_text DepthTooLarge = []
hindrance_text (Waiting count) = field (codes " waiting=") count

-- the line of a refused resize
abbrev pub not_resized_line : ResizeCause → List ℕ
not_resized_line cause = field (codes "resize refused ") (number_of_resize_cause cause) ++ hindrance_text cause ++ codes "\n"

-- the lines of each answer: a show has five, a dump one for every sixteen bytes, rounded up, and any other answer one
abbrev pub line_of : Answer → List ℕ
line_of (answers.Tag tag) = tag_line tag
line_of (answers.Batch won) = batch_line won
line_of (answers.Done woken) = done_line woken
line_of (answers.Group group) = field (codes "group ") group ++ codes "\n"
line_of (answers.Left left) = left_line left
line_of (answers.Wakes wakes) = wakes_line wakes
line_of (answers.Busy tags) = busy_line tags
line_of (answers.Shown shown) = shown_text shown
line_of (answers.Dump bytes) = dump_text bytes
line_of (answers.Refused fault) = field (codes "refused ") (number_of_tag_fault fault) ++ codes "\n"
line_of (answers.NotWaited fault) = field (codes "refused ") (number_of_wait_fault fault) ++ codes "\n"
line_of (answers.NotResized cause) = not_resized_line cause

-- the lines of the answers in order
abbrev pub text_of : List Answer → List ℕ
text_of = flat_map line_of
