-- Histories: the steps of all members in one list, newest first.
use Rattle.std.specs.Prelude.{◌≡◌, ℕ, ◌+◌, ◌<◌, List, [], ◌∷◌, cond, nat_eq}
use mathlib.Core.Option.{some}
use lib.ListN.{get_elem?}
use Rattle.step_ledger.specs.declared.record.Record.{Record}

module _ {T : Type 0} where
  -- the steps of one member
  abbrev pub own_steps : ℕ → List (ℕ × T) → List T
  own_steps c [] = []
  own_steps c (x ∷ h) = cond (nat_eq x.0 c) (x.1 ∷ own_steps c h) (own_steps c h)

  -- the sum of f over a list of steps
  abbrev pub total : (T → ℕ) → List T → ℕ
  total f [] = 0
  total f (x ∷ xs) = f x + total f xs

  -- the sum of f over all steps of a history
  abbrev pub total_all : (T → ℕ) → List (ℕ × T) → ℕ
  total_all f [] = 0
  total_all f (x ∷ h) = f x.1 + total_all f h

  -- the list in each record consists of its member's steps in the history
  abbrev pub AreListsOf : List (ℕ × T) → List (Record T) → Type 0
  AreListsOf h rs = (i : ℕ) (r : Record T) → get_elem? rs i ≡ some r → r.steps ≡ own_steps r.number h

  module _ (start : List ℕ) (after : T → List ℕ → List ℕ) where
    -- the words after a history, starting from the opening ones
    abbrev pub words_left : List (ℕ × T) → List ℕ
    words_left [] = start
    words_left (x ∷ h) = after x.1 (words_left h)

  module _ (n : ℕ) (MayStep : ℕ → T → List (ℕ × T) → Type 0) where
    -- each step is made by one of n members, and may happen after the steps before it
    abbrev pub Lawful : List (ℕ × T) → Type 0
    Lawful [] = Unit {0}
    Lawful (x ∷ h) = (x.0 < n) × MayStep x.0 x.1 h × Lawful h
