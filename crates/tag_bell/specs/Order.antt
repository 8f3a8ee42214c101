-- Who is told first: whoever tells by turns tells nobody before one that came earlier, and turns are in the order in
-- which they were taken.
use Rattle.std.specs.Prelude.{◌<◌, ◌∷◌, ◌≡◌, ◌≤◌, ◌⊎◌}
use Rattle.tag_bell.specs.Uses.{[], Bell, Berth, bit_at, Bool, cells_of, Enlist, HasTaken, History, IsLawful, IsListedAs, IsTrue, List, Listed, LookAll, LookAt, Shape, Step, steps_by, TakeTurn, Tell, Told, told_as, Up, Waiter, ℕ}
use Rattle.tag_core.specs.declared.berth.TheConstants.{TURNS}
use Rattle.tag_bell.specs.Safety.{berth_after}

-- nobody is listed there with a lower turn
abbrev pub IsNotBefore : (Waiter → Bool) → ℕ → Berth → Type 0
IsNotBefore kinds turn Up = Unit {0}
IsNotBefore kinds turn (Listed w t) = IsTrue (kinds w) → turn ≤ t
IsNotBefore kinds turn (Told w t) = Unit {0}

-- since its last look at all who wait, the caller found e listed so
abbrev pub FoundAs : {R : Type 0} → List (Step R) → ℕ → Waiter → ℕ → Type 0
FoundAs [] e w t = ⊥
FoundAs (Bell (LookAll found) ∷ older) e w t = ⊥
FoundAs (Bell (LookAt whom found) ∷ older) e w t = ((whom ≡ e) × IsListedAs w t found) ⊎ FoundAs older e w t
FoundAs (step ∷ older) e w t = FoundAs older e w t

-- as the caller's own steps show, it may tell one with this turn before e: its last look at all who wait did not find
-- e; or since then it found, or by a tell saw to it, that e is not listed with a lower turn, or tried to tell e as it
-- found it
abbrev pub MayPass : {R : Type 0} → (Waiter → Bool) → List (Step R) → ℕ → ℕ → Type 0
MayPass kinds [] turn e = ⊥
MayPass kinds (Bell (LookAll found) ∷ older) turn e = bit_at found e ≡ 0
MayPass kinds (Bell (LookAt whom found) ∷ older) turn e =
    ((whom ≡ e) × IsNotBefore kinds turn found) ⊎ MayPass kinds older turn e
MayPass kinds (Bell (Tell whom w t found) ∷ older) turn e =
    ((whom ≡ e) × (IsNotBefore kinds turn (told_as w t found) ⊎ FoundAs older e w t)) ⊎ MayPass kinds older turn e
MayPass kinds (step ∷ older) turn e = MayPass kinds older turn e

-- the step is a look at all who wait
abbrev pub IsLookAll : {R : Type 0} → Step R → Type 0
IsLookAll (Bell (LookAll found)) = Unit {0}
IsLookAll step = ⊥

-- by the step its caller lists itself
abbrev pub IsEnlist : {R : Type 0} → Step R → Type 0
IsEnlist (Bell (Enlist caller waiter turn found)) = Unit {0}
IsEnlist step = ⊥

-- p has looked at all who wait, and since its last such look e has not listed itself
abbrev pub CameBefore : {R : Type 0} → ℕ → ℕ → History R → Type 0
CameBefore p e [] = ⊥
CameBefore p e (x ∷ older) =
    ((x.0 ≡ p) × IsLookAll x.1) ⊎ ((x.0 ≡ e → ¬ IsEnlist x.1) × CameBefore p e older)

-- if p tells d, and may tell it before e as its own steps show, and e came before p looked, and is still listed, then e
-- has no lower turn
abbrev pub FirstComeFirstTold : Type 0 → Type 0
FirstComeFirstTold R = (k : Shape) (h : History R) (p d turn : ℕ) (waiter : Waiter) (found : Berth)
    → IsLawful k ((p, Bell (Tell d waiter turn found)) ∷ h) → IsListedAs waiter turn found
    → (kinds : Waiter → Bool) (e t : ℕ) (w : Waiter) → IsTrue (kinds w) → MayPass kinds (steps_by p h) turn e
    → IsListedAs w t (berth_after h e) → CameBefore p e h → turn ≤ t

-- until the clock has told each turn once, whoever takes a turn gets a higher one than anybody has taken before
abbrev pub TurnsAreInOrder : Type 0 → Type 0
TurnsAreInOrder R = (k : Shape) (h : History R) (c found : ℕ) → IsLawful k ((c, Bell (TakeTurn found)) ∷ h)
    → (cells_of h).waits.clock < TURNS → (e t : ℕ) → HasTaken t (steps_by e h) → t < found
