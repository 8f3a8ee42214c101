-- What the own steps of a caller, newest first, say of it: where it has looked for a free tag since it listed itself, and
-- what it still has to see to, and for whose sake. `kinds` are the waiters meant: sleepers, listeners or both.
use Rattle.std.specs.Prelude.{◌<◌, ◌∷◌, ◌≡◌, ◌≢◌, ◌⊎◌}
use Rattle.tag_bell.specs.Uses.{[], Bell, Berth, bit_at, Bool, Enlist, GetUp, IsListed, IsListedAs, IsTold, Layout, List, LookAll, LookAt, place_of, Step, Tell, told_as, Waiter, without, Word, word_of, ℕ}
use Rattle.tag_core.specs.declared.word_step.WordStep.{WordStep}
use Rattle.tag_core.specs.declared.word_step.WordStep.TheVariants.{Look, LookAside, Claimed, Give, Put, Swap, Keep, Spill}
use Rattle.tag_bell.specs.declared.spot.Spot.{Spot}
use Rattle.tag_bell.specs.declared.spot.Spot.TheVariants.{InWord, InAside}

-- the spot is in this word, at a bit of which this holds
abbrev pub IsInWord : ℕ → (ℕ → Type 0) → Spot → Type 0
IsInWord i P (InWord word bit) = (word ≡ i) × P bit
IsInWord i P (InAside word bit) = ⊥

-- the spot is in this word's cleared set, at a bit of which this holds
abbrev pub IsInAside : ℕ → (ℕ → Type 0) → Spot → Type 0
IsInAside i P (InWord word bit) = ⊥
IsInAside i P (InAside word bit) = (word ≡ i) × P bit

-- after this step no tag is free at the spot, as what it found shows
abbrev pub Shuts : WordStep → Spot → Type 0
Shuts (Look i found) = IsInWord i (λ bit. bit_at found bit ≡ 1)
Shuts (LookAside i found) = IsInAside i (λ bit. bit_at found bit ≡ 0)
Shuts (Claimed i mask found) = IsInWord i (λ bit. (bit_at found bit ≡ 1) ⊎ (bit_at mask bit ≡ 1))
Shuts (Give i mask found) = λ spot. ⊥
Shuts (Put i mask found) = λ spot. ⊥
Shuts (Swap i found) = IsInAside i (λ bit. Unit {0})
Shuts (Keep i mask) = λ spot. ⊥
Shuts (Spill i mask found) = λ spot. ⊥

-- a word less the mask has a 0 where the word has a 1
abbrev pub IsCleared : ℕ → ℕ → ℕ → Type 0
IsCleared word mask bit = (bit_at word bit ≡ 1) × (bit_at (without word mask) bit ≡ 0)

-- this step makes a tag free at the spot
abbrev pub Opens : WordStep → Spot → Type 0
Opens (Look i found) = λ spot. ⊥
Opens (LookAside i found) = λ spot. ⊥
Opens (Claimed i mask found) = λ spot. ⊥
Opens (Give i mask found) = IsInWord i (IsCleared found mask)
Opens (Put i mask found) = IsInAside i (λ bit. bit_at mask bit ≡ 1)
Opens (Swap i found) = λ spot. ⊥
Opens (Keep i mask) = λ spot. ⊥
Opens (Spill i mask found) = IsInWord i (IsCleared found mask)

-- since it listed itself last, it found or made the spot shut
abbrev pub Tried : {R : Type 0} → List (Step R) → Spot → Type 0
Tried [] spot = ⊥
Tried (Word step ∷ older) spot = Shuts step spot ⊎ Tried older spot
Tried (Bell (Enlist caller waiter turn found) ∷ older) spot = ⊥
Tried (step ∷ older) spot = Tried older spot

-- since it began to have to see to the spot, it found this one listed so
abbrev pub Saw : {R : Type 0} → (Waiter → Bool) → List (Step R) → Spot → ℕ → Waiter → ℕ → Type 0
Saw kinds [] spot e w t = ⊥
Saw kinds (Word step ∷ older) spot e w t = (¬ Opens step spot) × Saw kinds older spot e w t
Saw kinds (Bell (Enlist caller waiter turn found) ∷ older) spot e w t = (¬ IsTold kinds found) × Saw kinds older spot e w t
Saw kinds (Bell (LookAt whom found) ∷ older) spot e w t =
    ((whom ≡ e) × IsListedAs w t found) ⊎ Saw kinds older spot e w t
Saw kinds (Bell (GetUp caller found) ∷ older) spot e w t = (¬ IsTold kinds found) × Saw kinds older spot e w t
Saw kinds (step ∷ older) spot e w t = Saw kinds older spot e w t

-- who finds somebody's berth so may still have to see to a spot for the sake of e: that one was not told, for then it
-- is on the way to every tag itself; and if it is e, it is listed
abbrev pub Leaves : (Waiter → Bool) → ℕ → Berth → ℕ → Type 0
Leaves kinds whom berth e = (¬ IsTold kinds berth) × (whom ≡ e → IsListed kinds berth)

-- it has to see to the spot for the sake of e: it opened the spot, or was told; and since then it has not found or made
-- the spot shut, told anybody, found anybody told, or found that e does not wait; nor did it fail to tell e as it had
-- found it since, for then e has listed itself later
abbrev pub Owes : {R : Type 0} → (Waiter → Bool) → List (Step R) → Spot → ℕ → Type 0
Owes kinds [] spot e = ⊥
Owes kinds (Word step ∷ older) spot e = (Opens step spot ⊎ Owes kinds older spot e) × ¬ Shuts step spot
Owes kinds (Bell (LookAll found) ∷ older) spot e = (bit_at found e ≢ 0) × Owes kinds older spot e
Owes kinds (Bell (Enlist caller waiter turn found) ∷ older) spot e = IsTold kinds found ⊎ Owes kinds older spot e
Owes kinds (Bell (LookAt whom found) ∷ older) spot e = Leaves kinds whom found e × Owes kinds older spot e
Owes kinds (Bell (Tell whom waiter turn found) ∷ older) spot e = Leaves kinds whom (told_as waiter turn found) e
    × (whom ≡ e → ¬ Saw kinds older spot e waiter turn) × Owes kinds older spot e
Owes kinds (Bell (GetUp caller found) ∷ older) spot e = IsTold kinds found ⊎ Owes kinds older spot e
Owes kinds (step ∷ older) spot e = Owes kinds older spot e

-- the two spots of a tag
abbrev pub in_word : Layout → ℕ → Spot
in_word l tag = InWord (word_of l tag) (place_of l tag)

abbrev pub in_aside : Layout → ℕ → Spot
in_aside l tag = InAside (word_of l tag) (place_of l tag)

-- it has to see to the tag for the sake of e
abbrev pub OwesTag : {R : Type 0} → Layout → (Waiter → Bool) → List (Step R) → ℕ → ℕ → Type 0
OwesTag l kinds own tag e = Owes kinds own (in_word l tag) e ⊎ Owes kinds own (in_aside l tag) e

-- it has to see to no tag for anybody's sake
abbrev pub OwesNothing : {R : Type 0} → Layout → (Waiter → Bool) → List (Step R) → Type 0
OwesNothing l kinds own = (tag : ℕ) → tag < l.depth → (e : ℕ) → ¬ OwesTag l kinds own tag e

-- since it listed itself last, it found or made both spots of the tag shut, maybe not at one moment
abbrev pub TriedTag : {R : Type 0} → Layout → List (Step R) → ℕ → Type 0
TriedTag l own tag = Tried own (in_word l tag) × Tried own (in_aside l tag)

-- the same of every tag
abbrev pub TriedAll : {R : Type 0} → Layout → List (Step R) → Type 0
TriedAll l own = (tag : ℕ) → tag < l.depth → TriedTag l own tag
