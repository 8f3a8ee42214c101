-- What a get answers, and how many tags it left free.
use Rattle.tag_c.specs.Uses.{Bool, Err, Found, None, Ok, Option, Result, Some, TagFault, ℕ}

-- the answer without the number of tags left free
abbrev pub answer_of : {A : Type 0} → Result (Found A) TagFault → Result (Option A) TagFault
answer_of (Ok found) = Ok found.answer
answer_of (Err fault) = Err fault

-- how many tags the get left free, or 0 if it was refused
abbrev pub left_of : {A : Type 0} → Result (Found A) TagFault → ℕ
left_of (Ok found) = found.left
left_of (Err fault) = 0

-- the same of a get of several tags
abbrev pub left_of_many : Result (Bool × ℕ) TagFault → ℕ
left_of_many (Ok found) = found.1
left_of_many (Err fault) = 0

-- the mask of the tags that a batch won, or what it was before if there are none
abbrev pub won_of : Result (Option (ℕ × ℕ)) TagFault → ℕ → ℕ
won_of (Ok (Some run)) before = run.1
won_of (Ok None) before = before
won_of (Err fault) before = before
