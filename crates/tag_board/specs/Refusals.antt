-- Which commands are refused: what each checks, in order, with the fault that it answers if the check fails.
use Rattle.tag_board.specs.Uses.{[], All, AllPairs, BadCount, Checks, false, Kind, List, NoReserved, NoSuchTag, NotHeld, NotWaiting, Ordinary, Reserved, Spent, TagFault, TooShallow, true, WaitFault, Waiting, ℕ}
use Rattle.std.specs.Prelude.{◌≡◌, ◌≢◌, ◌+◌, ◌<◌, ◌≤◌, ◌∷◌}
use Rattle.tag_pool.specs.Runs.{CountsTags}
use Rattle.tag_board.specs.States.{State}

-- the caller may win n more tags of a set
abbrev pub MayWin : State → ℕ → Kind → ℕ → Type 0
MayWin s caller kind n = (s.part caller).won kind + n ≤ s.terms.life kind

-- a get from a set
abbrev pub get_checks : State → ℕ → Kind → Checks TagFault
get_checks s caller Ordinary = (MayWin s caller Ordinary 1, Spent) ∷ []
get_checks s caller Reserved = (1 ≤ s.terms.reserved, NoReserved) ∷ (MayWin s caller Reserved 1, Spent) ∷ []

-- a shallow get of this depth
abbrev pub shallow_checks : State → ℕ → ℕ → Checks TagFault
shallow_checks s caller depth = (s.terms.least ≤ depth, TooShallow) ∷ (MayWin s caller Ordinary 1, Spent) ∷ []

-- a batch get of n tags, 1 to the bits of a word, which under round robin wins none
abbrev pub batch_checks : State → ℕ → ℕ → Checks TagFault
batch_checks s caller n = ((1 ≤ n) × (n ≤ s.terms.bits Ordinary), BadCount)
    ∷ ((s.part caller).round_robin ≡ false → MayWin s caller Ordinary n, Spent) ∷ []

-- a clear or a post of this tag
abbrev pub tag_checks : State → ℕ → ℕ → Checks TagFault
tag_checks s caller tag = (tag < s.total, NoSuchTag) ∷ ((s.part caller).held tag ≡ true, NotHeld) ∷ []

-- each tag of the list is an ordinary one
abbrev pub AreOrdinary : State → List ℕ → Type 0
AreOrdinary s tags = All (λ tag. (s.terms.reserved ≤ tag) × (tag < s.total)) tags

-- the caller holds each tag of the list, and the tags are distinct
abbrev pub AreHeldOnce : State → ℕ → List ℕ → Type 0
AreHeldOnce s caller tags = All (λ tag. (s.part caller).held tag ≡ true) tags × AllPairs (λ a b. a ≢ b) tags

-- a clear of a list of tags
abbrev pub list_checks : State → ℕ → List ℕ → Checks TagFault
list_checks s caller tags =
    (CountsTags tags, BadCount) ∷ (AreOrdinary s tags, NoSuchTag) ∷ (AreHeldOnce s caller tags, NotHeld) ∷ []

-- a wait
abbrev pub wait_checks : State → ℕ → Checks WaitFault
wait_checks s caller = ((s.part caller).stands ≡ false, Waiting) ∷ []

-- the end of a wait
abbrev pub leave_checks : State → ℕ → Checks WaitFault
leave_checks s caller = ((s.part caller).stands ≡ true, NotWaiting) ∷ []
