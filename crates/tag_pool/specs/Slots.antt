-- The effect of reads and writes of slots, posts and takes on the hand that makes them.
use Rattle.std.specs.Prelude.{◌↔◌, ◌≡◌, ◌≢◌, ◌≤◌, ◌⊎◌}
use Rattle.tag_pool.specs.Uses.{Err, IfErr, IfOk, OnOk, Option, RefusesBy, Result, some, ℕ, ⊤}
use Rattle.tag_pool.specs.declared.fault.TagFault.{TagFault}
use Rattle.tag_pool.specs.declared.fault.TagFault.TheVariants.{NoSuchTag, NotPosted}
use Rattle.tag_pool.specs.declared.hand.Hand.{Hand}
use Rattle.tag_pool.specs.declared.pool.Pool.{Pool}
use Rattle.tag_pool.specs.Sides as side
use Rattle.tag_pool.specs.Hands.{total_of, Holds, slot_of, ChangesAt}
use Rattle.tag_pool.specs.Holding.{HoldsLess, HoldsMore, HoldsSame}
use Rattle.tag_pool.specs.Refusals.{number_checks, tag_checks}

-- the hand holds the same tags with the same values; in the tag's set, the value found was written back
pub record Reads {R : Type 0} (tag : ℕ) (value : R) (old new : Hand R) : Type 0 where
  pub same : HoldsSame old new
  pub set : ChangesAt tag (λ kind number. side.Writes number value) old new

-- the tag's slot has the value; the hand holds the same tags, and their other slots are unchanged
pub record Writes {R : Type 0} (tag : ℕ) (value : R) (old new : Hand R) : Type 0 where
  pub put : slot_of new tag ≡ some value
  pub others : (other : ℕ) → Holds old other → other ≢ tag → slot_of new other ≡ slot_of old other
  pub kept : (other : ℕ) → Holds old other → Holds new other
  pub none_else : (other : ℕ) → Holds new other → Holds old other
  pub set : ChangesAt tag (λ kind number. side.Writes number value) old new

-- the tag is posted with this note and the value of its slot, and the hand no longer holds it
pub record Posts {R : Type 0} (tag note : ℕ) (old new : Hand R) : Type 0 where
  pub value : R
  pub slot : slot_of old tag ≡ some value
  pub less : HoldsLess (λ other. other ≡ tag) old new
  pub set : ChangesAt tag (λ kind number. side.Posts number note) old new

-- the tag was found posted, and the hand now holds it, with the value with which it was posted
pub record Takes {R : Type 0} (tag : ℕ) (old new : Hand R) : Type 0 where
  pub value : R
  pub slot : slot_of new tag ≡ some value
  pub more : HoldsMore (λ other. other ≡ tag) old new
  pub set : ChangesAt tag (λ kind number. side.Takes number) old new

-- the tag was found not posted, by a step in its set that changes nothing in the map
pub record Misses {R : Type 0} (tag : ℕ) (old new : Hand R) : Type 0 where
  pub same : HoldsSame old new
  pub set : ChangesAt tag (λ kind number. side.Misses number) old new

-- the tag was found so, by a load in its set that changes nothing in the map: not posted, or posted with this note
pub record ReadsNote {R : Type 0} (tag : ℕ) (answer : Option ℕ) (old new : Hand R) : Type 0 where
  pub same : HoldsSame old new
  pub set : ChangesAt tag (λ kind number. side.ReadsNote number answer) old new

-- the effect of a take that is refused
abbrev pub RefusesTake : {R : Type 0} → ℕ → TagFault → Hand R → Hand R → Type 0
RefusesTake tag fault old new = ((fault ≡ NoSuchTag) × (new ≡ old)) ⊎ ((fault ≡ NotPosted) × Misses tag old new)

-- reads the slot of a tag
pub record DoesRead {R : Type 0} (tag : ℕ) (pool : Pool R) (result : Result R TagFault) (old new : Hand R) : Type 0 where
  pub refusals : RefusesBy (tag_checks pool old tag) (new ≡ old) result
  pub value : IfOk result (λ value. slot_of old tag ≡ some value)
  pub reads : IfOk result (λ value. Reads tag value old new)

-- writes the slot of a tag, and returns its former value
pub record DoesWrite {R : Type 0} (tag : ℕ) (value : R) (pool : Pool R) (result : Result R TagFault) (old new : Hand R)
    : Type 0 where
  pub refusals : RefusesBy (tag_checks pool old tag) (new ≡ old) result
  pub former : IfOk result (λ former. slot_of old tag ≡ some former)
  pub writes : OnOk result (Writes tag value old new)

-- posts a tag with a note
pub record DoesPost {R : Type 0} (tag note : ℕ) (pool : Pool R) (result : Result ⊤ TagFault) (old new : Hand R)
    : Type 0 where
  pub refusals : RefusesBy (tag_checks pool old tag) (new ≡ old) result
  pub posts : OnOk result (Posts tag note old new)

-- reads the note of a tag
pub record DoesReadNote {R : Type 0} (tag : ℕ) (pool : Pool R) (result : Result (Option ℕ) TagFault) (old new : Hand R)
    : Type 0 where
  pub refusals : RefusesBy (number_checks pool tag) (new ≡ old) result
  pub reads : IfOk result (λ answer. ReadsNote tag answer old new)

-- takes a posted tag; whether it is posted only the step can tell
pub record DoesTake {R : Type 0} (tag : ℕ) (pool : Pool R) (result : Result ⊤ TagFault) (old new : Hand R) : Type 0 where
  pub no_such_tag : (result ≡ Err NoSuchTag) ↔ (total_of pool ≤ tag)
  pub takes : OnOk result (Takes tag old new)
  pub refuses : IfErr result (λ fault. RefusesTake tag fault old new)
