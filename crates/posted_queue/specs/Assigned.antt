-- The rule of the assignments, which say by which token each tag goes.
use Rattle.std.specs.Prelude.{◌<◌, ◌==◌, ◌∷◌, ◌≡◌, [], cond, length, List, slice_index, ⊤, ℕ}
use Rattle.std.specs.List.{sum_by}
use Rattle.atomic_table.specs.Table.{State}
use Rattle.atomic_table.specs.declared.shared.Seat.{Seat}
use Rattle.posted_queue.specs.declared.assigned.Assigning.{Assigning}
use Rattle.posted_queue.specs.declared.assigned.Assignments.{Assignments}
use Rattle.posted_queue.specs.Line.{times_in}

-- what the rule knows of a hand: what it found and what it assigned, newest first, each token with its tag
abbrev pub assigning : List (ℕ × ℕ) → List (ℕ × ℕ) → Assigning
assigning found assigned = record { found = found; assigned = assigned }

-- the hand found besides that the tag goes by this token
abbrev pub LooksUp : ℕ → ℕ → Assigning → Assigning → Type 0
LooksUp tag token old new = new ≡ assigning ((tag, token) ∷ old.found) old.assigned

-- the hand assigned the token to the tag besides
abbrev pub Assigns : ℕ → ℕ → Assigning → Assigning → Type 0
Assigns tag token old new = new ≡ assigning old.found ((tag, token) ∷ old.assigned)

-- what the tag goes by after these assignments, newest first: what was assigned to it last, and at first its own number
abbrev pub goes_by : List (ℕ × ℕ) → ℕ → ℕ
goes_by [] tag = tag
goes_by (entry ∷ entries) tag = cond (entry.0 == tag) entry.1 (goes_by entries tag)

-- how often hands have assigned the token to the tag
abbrev pub times_assigned : List Assigning → ℕ → ℕ → ℕ
times_assigned hands tag token = sum_by (λ v. times_in v.assigned tag token) hands

-- each tag goes by what was assigned to it last, in some order of all assignments, which are those of the hands
pub record AreAssigned (s : State ⊤ Assigning) : Type 0 where
  pub all : List (ℕ × ℕ)
  pub words : (tag : ℕ) → tag < length s.words → slice_index s.words tag ≡ goes_by all tag
  pub by_hands : (tag token : ℕ) → times_assigned s.views tag token ≡ times_in all tag token

-- what the rule knows of the hand that has this seat
abbrev pub assigning_in : Seat ⊤ Assigning → Assigning
assigning_in seat = seat.me.0

-- to how many tags a token can be assigned
abbrev pub tags_in : Assignments → ℕ
tags_in made = made.table.shared.table_id.words

-- the seat is one of these assignments
abbrev pub IsSeatOf : Assignments → Seat ⊤ Assigning → Type 0
IsSeatOf made seat = seat.table_id ≡ made.table.shared.table_id
