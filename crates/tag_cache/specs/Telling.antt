-- What calls do that give tags back, and then see to what they made free and to what is kept.
use Rattle.std.specs.Prelude.{◌+◌, ◌≡◌}
use Rattle.tag_cache.specs.Uses.{Hand, Kind, kind_of, length, List, Ok, Ordinary, Pool, Reserved, reserved_of, Woken, ℕ}
use Rattle.tag_cache.specs.declared.cache.Cache.{Cache}
use Rattle.tag_cache.specs.Batches.{ListGoes}
use Rattle.tag_cache.specs.Caches.{KeepsNone, count_of, hand_of, reused_of}
use Rattle.tag_cache.specs.Calls.{DoesFlush, DoesPost}
use Rattle.tag_cache.specs.Changes.{SameTerms, SameWindow}
use Rattle.tag_cache.specs.Clears.{Goes}
use Rattle.tag_cache.specs.Holding.{HoldsSame}
use Rattle.tag_cache.specs.Sleeping.{SeesToAndWakes, WakesFor}
use Rattle.tag_cache.specs.Tallies.{Tallies}

-- how many tags of its kind a clear may make free: an ordinary one with those that are kept
abbrev pub freed_with : Kind → ℕ → ℕ
freed_with Ordinary kept = kept + 1
freed_with Reserved kept = 1

-- the tag was cleared, then the hand saw to what it had to see to, as many tags as it kept and this one, and woke those
-- whom this told
pub record ClearsAndWakes {R : Type 0} (pool : Pool R) (tag : ℕ) (woken : Woken) (old new : Cache R) : Type 0 where
  pub between : Cache R
  pub goes : Goes pool tag old between
  pub wakes : let kind = kind_of (reserved_of pool) tag in
      WakesFor kind (freed_with kind (count_of old)) pool woken between new

-- the tags of the list were cleared, then the hand saw to what it had to see to, as many tags as it kept and these, and
-- woke those whom this told
pub record ClearsListAndWakes {R : Type 0} (pool : Pool R) (list : List ℕ) (woken : Woken) (old new : Cache R) : Type 0
  where
    pub between : Cache R
    pub goes : ListGoes pool list old between
    pub wakes : SeesToAndWakes Ordinary (count_of old + length list) pool woken between new

-- the tag was posted with the note, then the hand saw to the kept tags that went back before, and woke those whom this told
pub record PostsAndWakes {R : Type 0} (pool : Pool R) (tag note : ℕ) (woken : Woken) (old new : Cache R) : Type 0 where
  pub between : Cache R
  pub freed : ℕ
  pub posts : DoesPost tag note pool (Ok freed) old between
  pub wakes : WakesFor Ordinary freed pool woken between new

-- all kept tags went back, then the hand saw to them, and woke those whom this told; the user holds the same tags
pub record FlushesAndWakes {R : Type 0} (pool : Pool R) (woken : Woken) (old new : Cache R) : Type 0 where
  pub between : Cache R
  pub flushes : DoesFlush pool (count_of old) old between
  pub wakes : WakesFor Ordinary (count_of old) pool woken between new
  pub same : HoldsSame old new
  pub none : KeepsNone new
  pub tally : Tallies 0 0 old new
  pub terms : SameTerms old new
  pub reused : reused_of new ≡ reused_of old
  pub window : SameWindow old new

-- the same of a cache that ends with it: this hand is left
pub record EndsAndWakes {R : Type 0} (pool : Pool R) (woken : Woken) (old : Cache R) (left : Hand R) : Type 0 where
  pub last : Cache R
  pub flushes : FlushesAndWakes pool woken old last
  pub left_is : left ≡ hand_of last
