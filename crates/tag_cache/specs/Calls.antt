-- What a call does to the cache that makes it, and when it is refused: one record for each call.
use Rattle.std.specs.Prelude.{◌+◌, ◌↔◌, ◌≡◌, ◌≤◌}
use Rattle.tag_cache.specs.Uses.{back_of, Contains, count_ones, CountsBatch, Err, false, Found, hint_of, IfErr, IfOk, IsAnswer, IsInRun, IsOkAnd, IsTagIn, IsTrue, left_free, length, List, None, NoSuchTag, OnErr, OnOk, Option, Ordinary, Pool, RefusesBy, Reserved, Result, some}
use Rattle.tag_cache.specs.Uses.{TagFault, tags_in, total_of, ℕ, ⊤}
use Rattle.tag_pool.specs.Gets as hands
use Rattle.tag_pool.specs.Refusals.{reserved_checks, shallow_checks, batch_checks}
use Rattle.tag_pool.specs.Slots as hand_slots
use Rattle.tag_cache.specs.declared.cache.Cache.{Cache}
use Rattle.tag_cache.specs.Batches.{ListGoes, answered_run}
use Rattle.tag_cache.specs.Caches.{KeepsNone, IsLast, LeavesWindow, count_of, hand_of, slot_of, reused_of}
use Rattle.tag_cache.specs.Changes.{IsUnchanged, KeepsSame, SameTerms, SameWindow, KnowsLess, KnowsNoneOf}
use Rattle.tag_cache.specs.Clears.{Goes, GivesKept}
use Rattle.tag_cache.specs.Gets.{Gets, LearnsAnswer}
use Rattle.tag_cache.specs.Holding.{HoldsLess, HoldsMore, HoldsSame, Writes}
use Rattle.tag_cache.specs.Refusals.{get_checks, tag_checks, list_checks, mask_checks}
use Rattle.tag_cache.specs.Slots.{PostsLast}
use Rattle.tag_cache.specs.Tallies.{Tallies, answered}

-- the hand gave back that many ordinary tags
abbrev pub GivesBack : {R : Type 0} → ℕ → Cache R → Cache R → Type 0
GivesBack freed old new = back_of (hand_of new) Ordinary ≡ back_of (hand_of old) Ordinary + freed

-- gets an ordinary tag, and tells how many its sweeps left free
pub record DoesGet {R : Type 0} (pool : Pool R) (result : Result (Found ℕ) TagFault) (old new : Cache R) : Type 0 where
  pub refusals : RefusesBy (get_checks old) (IsUnchanged old new) result
  pub gets : IfOk result (λ found. Gets pool found.answer old new)
  pub left : IfOk result (λ found. found.left ≡ left_free Ordinary (hand_of old) (hand_of new))
  pub knows : IfOk result (λ found. LearnsAnswer found.answer old new)
  pub tally : IfOk result (λ found. Tallies (answered found.answer) 0 old new)

-- gets a reserved tag, and tells how many its sweeps left free
pub record DoesGetReserved {R : Type 0} (pool : Pool R) (result : Result (Found ℕ) TagFault) (old new : Cache R)
    : Type 0 where
  pub refusals : RefusesBy (reserved_checks pool (hand_of old)) (IsUnchanged old new) result
  pub gets : IfOk result (λ found. hands.Gets pool Reserved found.answer (hand_of old) (hand_of new))
  pub left : IfOk result (λ found. found.left ≡ left_free Reserved (hand_of old) (hand_of new))
  pub more : IfOk result (λ found. HoldsMore (IsAnswer found.answer) old new)
  pub reserved : IfOk result (λ found. (tag : ℕ) → IsAnswer found.answer tag → IsTagIn pool Reserved tag)
  pub kept : KeepsSame old new
  pub window : SameWindow old new
  pub tally : IfOk result (λ found. Tallies (answered found.answer) 0 old new)

-- gets an ordinary tag within the shares of a shallow depth, and tells how many its sweeps left free
pub record DoesGetShallow {R : Type 0} (depth : ℕ) (pool : Pool R) (result : Result (Found ℕ) TagFault)
    (old new : Cache R) : Type 0 where
  pub refusals : RefusesBy (shallow_checks pool (hand_of old) depth) (IsUnchanged old new) result
  pub gets : IfOk result (λ found. hands.GetsShallow pool depth found.answer (hand_of old) (hand_of new))
  pub left : IfOk result (λ found. found.left ≡ left_free Ordinary (hand_of old) (hand_of new))
  pub more : IfOk result (λ found. HoldsMore (IsAnswer found.answer) old new)
  pub kept : KeepsSame old new
  pub window : SameWindow old new
  pub tally : IfOk result (λ found. Tallies (answered found.answer) 0 old new)

-- gets up to n ordinary tags, unless under round robin, and tells how many its sweeps left free
pub record DoesGetBatch {R : Type 0} (n : ℕ) (pool : Pool R) (result : Result (Found (ℕ × ℕ)) TagFault)
    (old new : Cache R) : Type 0 where
  pub refusals : RefusesBy (batch_checks pool (hand_of old) n) (IsUnchanged old new) result
  pub round_robin : CountsBatch pool n → IsTrue (hint_of (hand_of old) Ordinary).round_robin
      → IsOkAnd result (λ found. found.answer ≡ None) × IsUnchanged old new
  pub gets : (hint_of (hand_of old) Ordinary).round_robin ≡ false
      → IfOk result (λ found. hands.GetsBatch pool n found.answer (hand_of old) (hand_of new))
  pub left : IfOk result (λ found. found.left ≡ left_free Ordinary (hand_of old) (hand_of new))
  pub more : IfOk result (λ found. HoldsMore (IsInRun found.answer) old new)
  pub kept : KeepsSame old new
  pub window : SameWindow old new
  pub tally : IfOk result (λ found. Tallies (answered_run found.answer) 0 old new)

-- clears a tag, and tells how many ordinary tags went back
pub record DoesClear {R : Type 0} (tag : ℕ) (pool : Pool R) (result : Result ℕ TagFault) (old new : Cache R) : Type 0
  where
    pub refusals : RefusesBy (tag_checks pool old tag) (IsUnchanged old new) result
    pub less : OnOk result (HoldsLess (λ other. other ≡ tag) old new)
    pub way : OnOk result (Goes pool tag old new)
    pub freed : IfOk result (λ freed. GivesBack freed old new)
    pub knows : LeavesWindow tag old → OnOk result (KnowsLess tag old new)
    pub tally : OnOk result (Tallies 0 1 old new)

-- clears the tags of a list, and tells how many ordinary tags went back
pub record DoesClearBatch {R : Type 0} (list : List ℕ) (pool : Pool R) (result : Result ℕ TagFault) (old new : Cache R)
    : Type 0 where
  pub refusals : RefusesBy (list_checks pool old list) (IsUnchanged old new) result
  pub less : OnOk result (HoldsLess (Contains list) old new)
  pub way : OnOk result (ListGoes pool list old new)
  pub freed : IfOk result (λ freed. GivesBack freed old new)
  pub knows : OnOk result (KnowsNoneOf list old new)
  pub tally : OnOk result (Tallies 0 (length list) old new)

-- clears the tags of a mask, and tells how many ordinary tags went back
pub record DoesClearMask {R : Type 0} (first mask : ℕ) (pool : Pool R) (result : Result ℕ TagFault) (old new : Cache R)
    : Type 0 where
  pub refusals : RefusesBy (mask_checks pool old first mask) (IsUnchanged old new) result
  pub less : OnOk result (HoldsLess (Contains (tags_in first mask)) old new)
  pub way : OnOk result (ListGoes pool (tags_in first mask) old new)
  pub freed : IfOk result (λ freed. GivesBack freed old new)
  pub knows : OnOk result (KnowsNoneOf (tags_in first mask) old new)
  pub tally : OnOk result (Tallies 0 (count_ones mask) old new)

-- reads the slot of a tag
pub record DoesRead {R : Type 0} (tag : ℕ) (pool : Pool R) (result : Result R TagFault) (old new : Cache R) : Type 0 where
  pub refusals : RefusesBy (tag_checks pool old tag) (IsUnchanged old new) result
  pub value : IfOk result (λ value. slot_of old tag ≡ some value)
  pub reads : IfOk result (λ value. hand_slots.Reads tag value (hand_of old) (hand_of new))
  pub same : OnOk result (HoldsSame old new)
  pub kept : KeepsSame old new
  pub window : SameWindow old new

-- writes the slot of a tag, and returns its former value
pub record DoesWrite {R : Type 0} (tag : ℕ) (value : R) (pool : Pool R) (result : Result R TagFault) (old new : Cache R)
    : Type 0 where
  pub refusals : RefusesBy (tag_checks pool old tag) (IsUnchanged old new) result
  pub former : IfOk result (λ former. slot_of old tag ≡ some former)
  pub writes : OnOk result (Writes tag value old new)
  pub hand : OnOk result (hand_slots.Writes tag value (hand_of old) (hand_of new))
  pub kept : KeepsSame old new
  pub window : SameWindow old new

-- posts a tag with a note, and tells how many kept tags went back before
pub record DoesPost {R : Type 0} (tag note : ℕ) (pool : Pool R) (result : Result ℕ TagFault) (old new : Cache R)
    : Type 0 where
  pub refusals : RefusesBy (tag_checks pool old tag) (IsUnchanged old new) result
  pub less : OnOk result (HoldsLess (λ other. other ≡ tag) old new)
  pub kept : ¬ (IsLast tag old) → KeepsSame old new
  pub posts : ¬ (IsLast tag old) → OnOk result (hand_slots.Posts tag note (hand_of old) (hand_of new))
  pub last : IsLast tag old → OnOk result (KeepsNone new)
  pub flushes : IsLast tag old → OnOk result (PostsLast pool tag note old new)
  pub freed : IfOk result (λ freed. GivesBack freed old new)
  pub terms : SameTerms old new
  pub knows : OnOk result (KnowsLess tag old new)
  pub tally : Tallies 0 0 old new

-- reads the note of a tag
pub record DoesReadNote {R : Type 0} (tag : ℕ) (pool : Pool R) (result : Result (Option ℕ) TagFault) (old new : Cache R)
    : Type 0 where
  pub hand : hand_slots.DoesReadNote tag pool result (hand_of old) (hand_of new)
  pub same : HoldsSame old new
  pub kept : KeepsSame old new
  pub window : SameWindow old new

-- takes a posted tag; whether it is posted only the step can tell
pub record DoesTake {R : Type 0} (tag : ℕ) (pool : Pool R) (result : Result ⊤ TagFault) (old new : Cache R) : Type 0 where
  pub no_such_tag : (result ≡ Err NoSuchTag) ↔ (total_of pool ≤ tag)
  pub more : OnOk result (HoldsMore (λ other. other ≡ tag) old new)
  pub takes : OnOk result (hand_slots.Takes tag (hand_of old) (hand_of new))
  pub kept : KeepsSame old new
  pub window : SameWindow old new
  pub refuses : IfErr result (λ fault. hand_slots.RefusesTake tag fault (hand_of old) (hand_of new))
  pub same : OnErr result (HoldsSame old new)

-- gives all kept tags back, and tells how many they were
pub record DoesFlush {R : Type 0} (pool : Pool R) (freed : ℕ) (old new : Cache R) : Type 0 where
  pub same : HoldsSame old new
  pub none : KeepsNone new
  pub gives : GivesKept pool old (hand_of old) (hand_of new)
  pub all : freed ≡ count_of old
  pub tally : Tallies 0 0 old new
  pub terms : SameTerms old new
  pub reused : reused_of new ≡ reused_of old
  pub window : SameWindow old new
