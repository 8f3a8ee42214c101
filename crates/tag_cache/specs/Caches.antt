-- The terms in which contracts speak about a cache.
use Rattle.std.specs.Prelude.{◌+◌, ◌<◌, ◌≡◌, ◌≤◌, ◌⊎◌}
use Rattle.tag_cache.specs.Uses.{count_ones, Hand, List, Pool, tags_in, ℕ}
use mathlib.Core.Option as maybe
use Rattle.tag_pool.specs.Hands as hands
use Rattle.tag_cache.specs.declared.cache.Cache.{Cache}
use Rattle.tag_cache.specs.declared.cache.TheConstants.{MOST_REUSED}
use Rattle.tag_cache.specs.declared.keeping.Keeping.{Keeping}
use Rattle.tag_cache.specs.declared.keeping.Keeping.TheVariants.{WhileHolding}
use Rattle.tag_cache.specs.Windows.{IsIn}

-- the cache's hand, which holds the user's tags and the kept ones
abbrev pub hand_of : {R : Type 0} → Cache R → Hand R
hand_of cache = cache.hand

-- how many tags are kept
abbrev pub count_of : {R : Type 0} → Cache R → ℕ
count_of cache = count_ones cache.kept

-- the most tags that may be kept
abbrev pub most_of : {R : Type 0} → Cache R → ℕ
most_of cache = cache.most

-- when tags are kept
abbrev pub keeping_of : {R : Type 0} → Cache R → Keeping
keeping_of cache = cache.keeping

-- how many kept tags were handed out again
abbrev pub reused_of : {R : Type 0} → Cache R → ℕ
reused_of cache = cache.reused

-- the tag is kept
abbrev pub IsKept : {R : Type 0} → Cache R → ℕ → Type 0
IsKept cache tag = IsIn cache.first cache.kept tag

-- no tag is kept
abbrev pub KeepsNone : {R : Type 0} → Cache R → Type 0
KeepsNone cache = (tag : ℕ) → ¬ (IsKept cache tag)

-- the kept tags, in order
abbrev pub kept_tags : {R : Type 0} → Cache R → List ℕ
kept_tags cache = tags_in cache.first cache.kept

-- the user holds the tag: the hand does, and it is not kept
abbrev pub Holds : {R : Type 0} → Cache R → ℕ → Type 0
Holds cache tag = hands.Holds cache.hand tag × ¬ (IsKept cache tag)

-- the user is known to hold the tag, an ordinary one of the window
abbrev pub IsKnown : {R : Type 0} → Cache R → ℕ → Type 0
IsKnown cache tag = IsIn cache.first cache.known tag

-- the value in the slot of a tag, if the hand holds it
abbrev pub slot_of : {R : Type 0} → Cache R → ℕ → maybe.Option R
slot_of cache tag = hands.slot_of cache.hand tag

-- the cache belongs to the tags
abbrev pub IsCacheOf : {R : Type 0} → Pool R → Cache R → Type 0
IsCacheOf pool cache = hands.IsHandOf pool cache.hand

-- the number of reserved tags, as the cache's hand knows it
abbrev pub split_of : {R : Type 0} → Cache R → ℕ
split_of cache = hands.split_of cache.hand

-- the tag's number is in the window
abbrev pub IsWithin : {R : Type 0} → Cache R → ℕ → Type 0
IsWithin cache tag = (cache.first ≤ tag) × (tag < cache.first + 64)

-- a clear does not move the window: tags are kept in it, or only while the user is known to hold one in it
abbrev pub IsFixed : {R : Type 0} → Cache R → Type 0
IsFixed cache = ¬ (KeepsNone cache) ⊎ (keeping_of cache ≡ WhileHolding)

-- tags are kept only while the user is known to hold one, which is this one and no other
abbrev pub IsLast : {R : Type 0} → ℕ → Cache R → Type 0
IsLast tag cache = (keeping_of cache ≡ WhileHolding) × ((other : ℕ) → IsKnown cache other → other ≡ tag)

-- if tags are kept only while the user holds one, and any is kept, the user holds one
abbrev pub KeepsWithCare : {R : Type 0} → Cache R → Type 0
KeepsWithCare cache = keeping_of cache ≡ WhileHolding → (kept : ℕ) → IsKept cache kept
    → (tag : ℕ) × Holds cache tag

-- there is no place to keep the tag besides those that are kept: they are the most, or the tag is outside their window
abbrev pub HasNoPlace : {R : Type 0} → ℕ → Cache R → Type 0
HasNoPlace tag cache = (most_of cache ≤ count_of cache) ⊎ (¬ (IsWithin cache tag) × ¬ (KeepsNone cache))

-- the tag may be kept where no other is: the cache may keep one, kept tags were not handed out as often as they may be,
-- and the tag is in the window if that does not move
pub record CanBeKept {R : Type 0} (tag : ℕ) (cache : Cache R) : Type 0 where
  pub some : 1 ≤ most_of cache
  pub alive : reused_of cache < MOST_REUSED
  pub within : keeping_of cache ≡ WhileHolding → IsWithin cache tag

-- a clear keeps the tag if nobody waits: the user is known to hold it, and it may be kept besides those that are
pub record HasPlace {R : Type 0} (tag : ℕ) (cache : Cache R) : Type 0 where
  pub known : IsKnown cache tag
  pub place : ¬ (HasNoPlace tag cache)
  pub can : CanBeKept tag cache
  pub other : ¬ (IsLast tag cache)

-- a clear of the tag leaves the window where it is: the tag is in it, or tags are kept only while the user is known to
-- hold one
abbrev pub LeavesWindow : {R : Type 0} → ℕ → Cache R → Type 0
LeavesWindow tag cache = IsWithin cache tag ⊎ (keeping_of cache ≡ WhileHolding)
