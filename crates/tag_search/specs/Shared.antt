-- What steps through a port on a shared map change of the caller that makes them.
use Rattle.std.specs.Prelude.{◌+◌, ◌<◌, ◌^◌, ◌∷◌, ◌≡◌, ◌≤◌}
use Rattle.tag_search.specs.Uses.{[], AllByRecursion, bit_at, Caller, Claimed, Holds, Keep, List, place_of, Record, record_after, record_of, SameMap, slot_of, Spill, total, Word, word_of, WordStep, ℕ}
use Rattle.tag_search.specs.declared.shared.Shared.{Shared}
use Rattle.tag_search.specs.Added.{AddsSteps}
use Rattle.tag_search.specs.Freed.{spilled, latest_after}

-- the caller may win n more tags
abbrev pub HasRoom : {R : Type 0} → Caller R → ℕ → Type 0
HasRoom c n = (record_of c).won + n ≤ (record_of c).shape.life

-- the record after these steps on words, oldest first
abbrev pub record_after_all : {R : Type 0} → List WordStep → Record R → Record R
record_after_all [] r = r
record_after_all (step ∷ steps) r = record_after_all steps (record_after (Word step) r)

-- a claim found a word of 64 bits, and what a sweep freed is one
abbrev pub FindsWord : WordStep → Type 0
FindsWord (Claimed i mask found) = found < 2 ^ 64
FindsWord (Spill i mask found) = mask < 2 ^ 64
FindsWord _ = Unit {0}

-- a claim found the bit set of each tag of its word that the caller holds, and no sweep kept such a tag
abbrev pub FindsHeldBy : {R : Type 0} → Caller R → WordStep → Type 0
FindsHeldBy c (Claimed i mask found) =
    (tag : ℕ) → Holds c tag → word_of c.shape.value.layout tag ≡ i
    → bit_at found (place_of c.shape.value.layout tag) ≡ 1
FindsHeldBy c (Keep i mask) =
    (tag : ℕ) → Holds c tag → word_of c.shape.value.layout tag ≡ i
    → bit_at mask (place_of c.shape.value.layout tag) ≡ 0
FindsHeldBy c _ = Unit {0}

-- the steps are added to the caller's list, and its record is the one after them; the caller keeps each tag that it
-- held, with the value of its slot, no claim found the bit of such a tag clear, and no sweep kept such a tag
pub record AddsAll {R : Type 0} (steps : List WordStep) (old new : Caller R) : Type 0 where
  pub known : record_of new ≡ record_after_all steps (record_of old)
  pub kept : (tag : ℕ) → Holds old tag → Holds new tag × (slot_of new tag ≡ slot_of old tag)
  pub finds : AllByRecursion FindsWord steps
  pub finds_held : AllByRecursion (FindsHeldBy old) steps
  pub same_map : SameMap old new

-- the word and the mask of the latest sweep after these steps, oldest first
abbrev pub latest_after_all : List WordStep → ℕ × ℕ → ℕ × ℕ
latest_after_all [] latest = latest
latest_after_all (step ∷ steps) latest = latest_after_all steps (latest_after step latest)

-- the word and the mask of the port's latest sweep
abbrev pub latest_of : {R : Type 0} → Shared R → ℕ × ℕ
latest_of port = (port.word, port.mask)

-- the port's caller made the steps, the port still is that caller's, on that map, and it counted the tags freed and
-- knows those of the latest sweep
pub record AddsThrough {R : Type 0} (old : Shared R) (steps : List WordStep) (new : Shared R) : Type 0 where
  pub added : AddsAll steps old.caller.now new.caller.now
  pub map : new.map.now ≡ old.map.now
  pub lent : new.caller.ghost_name ≡ old.caller.ghost_name
  pub freed : old.freed + total spilled steps < 2 ^ 64 → new.freed ≡ old.freed + total spilled steps
  pub latest : latest_of new ≡ latest_after_all steps (latest_of old)

-- the caller made some steps, and the fact holds of them
abbrev pub Makes : {R : Type 0} → Caller R → Caller R → (List WordStep → Type 0) → Type 0
Makes old new fact = AddsSteps (λ before steps after. AddsAll steps before after) old new fact
