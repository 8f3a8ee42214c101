-- The rule of the line, in which the numbers of submitted tags stand in the order in which they came.
use Rattle.std.specs.Prelude.{◌&&◌, ◌++◌, ◌==◌, ◌∷◌, ◌≡◌, List, ⊤, ℕ}
use Rattle.std.specs.List.{Contains, count_by, enumerate_from, sum_by}
use Rattle.tag_pool.specs.declared.hand.Hand.{Hand}
use Rattle.posted_queue.specs.declared.line.Joined.{Joined}
use Rattle.posted_queue.specs.declared.line.Track.{Track}

-- what the rule knows of a hand: what it pushed and popped, newest first, each number with its place in the line
abbrev pub track : List (ℕ × ℕ) → List (ℕ × ℕ) → Track
track pushed popped = record { pushed = pushed; popped = popped }

-- the hand pushed the number besides, at some place
abbrev pub Joins : ℕ → Track → Track → Type 0
Joins number old new = (place : ℕ) × (new ≡ track ((place, number) ∷ old.pushed) old.popped)

-- the hand of the pool as it was when the number joined the line
abbrev pub hand_at : {R : Type 0} → Joined R → Hand R
hand_at joined = joined.hand.value

-- the hand of the tokens as it was then
abbrev pub tokens_at : {R : Type 0} → Joined R → Hand ⊤
tokens_at joined = joined.tokens.value

-- the hand popped the number besides, from some place
abbrev pub Leaves : ℕ → Track → Track → Type 0
Leaves number old new = (place : ℕ) × (new ≡ track old.pushed ((place, number) ∷ old.popped))

-- how often the number stands in the list with this place
abbrev pub times_in : List (ℕ × ℕ) → ℕ → ℕ → ℕ
times_in entries place number = count_by (λ entry. (entry.0 == place) && (entry.1 == number)) entries

-- how often hands have pushed the number at this place
abbrev pub times_pushed : List Track → ℕ → ℕ → ℕ
times_pushed tracks place number = sum_by (λ v. times_in v.pushed place number) tracks

-- how often hands have popped the number from this place
abbrev pub times_popped : List Track → ℕ → ℕ → ℕ
times_popped tracks place number = sum_by (λ v. times_in v.popped place number) tracks

-- how often the number stands at this place of the line, counted from 0: once or never
abbrev pub times_at : List ℕ → ℕ → ℕ → ℕ
times_at line place number = times_in (enumerate_from 0 line) place number

-- the line begins with the numbers served, which the waiting ones follow; what hands pushed is the whole line, each number
-- at its place once, and what they popped is what is served
pub record AreInTurn (waiting : List ℕ) (tracks : List Track) : Type 0 where
  pub served : List ℕ
  pub pushed : (place number : ℕ) → times_pushed tracks place number ≡ times_at (served ++ waiting) place number
  pub popped : (place number : ℕ) → times_popped tracks place number ≡ times_at served place number

-- these were waiting, handed on by hands of which this was one
pub record IsSeenBy (v : Track) (waiting : List ℕ) : Type 0 where
  pub tracks : List Track
  pub lawful : AreInTurn waiting tracks
  pub among : Contains tracks v
