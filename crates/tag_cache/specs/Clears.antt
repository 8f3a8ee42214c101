-- The effect of clears on the cache that makes them.
use Rattle.std.specs.Prelude.{◌+◌, ◌<◌, ◌≡◌, ◌≤◌, ◌⊎◌}
use Rattle.tag_cache.specs.Uses.{back_of, Hand, kind_of, length, List, Ordinary, Pool, reserved_of, ℕ}
use Rattle.tag_pool.specs.Batches as hand_batches
use Rattle.tag_pool.specs.Clears as hand_clears
use Rattle.tag_cache.specs.declared.cache.Cache.{Cache}
use Rattle.tag_cache.specs.declared.way.Way.{Way}
use Rattle.tag_cache.specs.declared.way.Way.TheVariants.{Keep, KeepInstead, GiveBack, GiveBackAll}
use Rattle.tag_cache.specs.Caches.{KeepsNone, IsLast, HasNoPlace, CanBeKept, kept_tags, reused_of}
use Rattle.tag_cache.specs.Changes.{SameTerms, KeepsSame, KeepsAlso, KeepsOnly}

-- the hand gave this tag back as by a clear
pub record GivesOne {R : Type 0} (pool : Pool R) (tag : ℕ) (old new : Hand R) : Type 0 where
  pub clears : hand_clears.Clears pool tag old new
  pub back : let kind = kind_of (reserved_of pool) tag in back_of new kind ≡ back_of old kind + 1

-- the hand gave the ordinary tags of the list back by one batch clear
pub record GivesList {R : Type 0} (pool : Pool R) (list : List ℕ) (old new : Hand R) : Type 0 where
  pub gives : hand_batches.GivesBack pool list old new
  pub back : back_of new Ordinary ≡ back_of old Ordinary + length list

-- the hand gave the tags that the cache keeps back together; if none is kept it made no step
pub record GivesKept {R : Type 0} (pool : Pool R) (cache : Cache R) (old new : Hand R) : Type 0 where
  pub none : KeepsNone cache → new ≡ old
  pub some : ¬ (KeepsNone cache) → GivesList pool (kept_tags cache) old new

-- the hand gave the kept tags back together and then this one
pub record GivesWith {R : Type 0} (pool : Pool R) (tag : ℕ) (cache : Cache R) (old new : Hand R) : Type 0 where
  pub between : Hand R
  pub kept : GivesKept pool cache old between
  pub gives : GivesOne pool tag between new

-- the tag is kept besides the others, and the hand is as it was
pub record KeepsBeside {R : Type 0} (tag : ℕ) (old new : Cache R) : Type 0 where
  pub hand : new.hand ≡ old.hand
  pub also : KeepsAlso tag old new

-- all kept tags went back, and this one is kept instead of them
pub record KeepsInstead {R : Type 0} (pool : Pool R) (tag : ℕ) (old new : Cache R) : Type 0 where
  pub gives : GivesKept pool old old.hand new.hand
  pub only : KeepsOnly tag old new

-- the tag went back, and the same tags are kept
pub record GivesAlone {R : Type 0} (pool : Pool R) (tag : ℕ) (old new : Cache R) : Type 0 where
  pub gives : GivesOne pool tag old.hand new.hand
  pub kept : KeepsSame old new

-- all kept tags went back and then this one, so that nothing is kept any more
pub record GivesAll {R : Type 0} (pool : Pool R) (tag : ℕ) (old new : Cache R) : Type 0 where
  pub gives : GivesWith pool tag old old.hand new.hand
  pub none : KeepsNone new
  pub terms : SameTerms old new
  pub reused : reused_of new ≡ reused_of old

-- what calls for each way that an ordinary tag can go
abbrev pub CallsFor : {R : Type 0} → Way → ℕ → Cache R → Type 0
CallsFor Keep tag cache = ¬ (IsLast tag cache) × CanBeKept tag cache × ¬ (HasNoPlace tag cache)
CallsFor KeepInstead tag cache = ¬ (IsLast tag cache) × CanBeKept tag cache × HasNoPlace tag cache
CallsFor GiveBack tag cache = ¬ (IsLast tag cache) × ¬ (CanBeKept tag cache)
CallsFor GiveBackAll tag cache = IsLast tag cache

-- what becomes of the tag on each way
abbrev pub GoesBy : {R : Type 0} → Way → Pool R → ℕ → Cache R → Cache R → Type 0
GoesBy Keep pool tag old new = KeepsBeside tag old new
GoesBy KeepInstead pool tag old new = KeepsInstead pool tag old new
GoesBy GiveBack pool tag old new = GivesAlone pool tag old new
GoesBy GiveBackAll pool tag old new = GivesAll pool tag old new

-- what becomes of an ordinary tag that is cleared: it goes the way that the cache calls for
pub record GoesOrdinary {R : Type 0} (pool : Pool R) (tag : ℕ) (old new : Cache R) : Type 0 where
  pub way : Way
  pub why : CallsFor way tag old
  pub goes : GoesBy way pool tag old new

-- what becomes of a tag that is cleared: a reserved one always goes back alone
abbrev pub Goes : {R : Type 0} → Pool R → ℕ → Cache R → Cache R → Type 0
Goes pool tag old new = ((reserved_of pool ≤ tag) × GoesOrdinary pool tag old new)
    ⊎ ((tag < reserved_of pool) × GivesAlone pool tag old new)
