-- What the calls of a cache check, in order, and what they answer if a check fails, where that is not what the calls of its
-- hand check.
use Rattle.std.specs.Prelude.{◌<◌, ◌∷◌, ◌≤◌}
use Rattle.tag_cache.specs.Uses.{[], All, BadCount, Checks, HasRoom, kind_of, List, NoSuchTag, NotHeld, Ordinary, Pool, reserved_of, Spent, TagFault, tags_in, total_of, ℕ}
use Rattle.tag_pool.specs.Hands.{layout_of}
use Rattle.tag_pool.specs.Lists.{AreOrdinary}
use Rattle.tag_pool.specs.Runs.{CountsTags}
use Rattle.tag_cache.specs.declared.cache.Cache.{Cache}
use Rattle.tag_cache.specs.Batches.{AreHeldOnce}
use Rattle.tag_cache.specs.Caches.{IsKept, KeepsNone, Holds, hand_of}

-- a get of an ordinary tag, which a kept one always is there for
abbrev pub get_checks : {R : Type 0} → Cache R → Checks TagFault
get_checks cache = (KeepsNone cache → HasRoom (hand_of cache) Ordinary 1, Spent) ∷ []

-- a get of this tag, which is there if it is kept
abbrev pub exact_checks : {R : Type 0} → Pool R → ℕ → Cache R → Checks TagFault
exact_checks pool tag cache = (tag < total_of pool, NoSuchTag)
    ∷ (¬ (IsKept cache tag) → HasRoom (hand_of cache) (kind_of (reserved_of pool) tag) 1, Spent) ∷ []

-- a get that waits if no tag is kept
abbrev pub blocking_checks : {R : Type 0} → Pool R → Cache R → Checks TagFault
blocking_checks pool cache = (KeepsNone cache → 1 ≤ (layout_of pool Ordinary).depth, NoSuchTag)
    ∷ (KeepsNone cache → HasRoom (hand_of cache) Ordinary 1, Spent) ∷ []

-- a call on a tag that the user has to hold
abbrev pub tag_checks : {R : Type 0} → Pool R → Cache R → ℕ → Checks TagFault
tag_checks pool cache tag = (tag < total_of pool, NoSuchTag) ∷ (Holds cache tag, NotHeld) ∷ []

-- a clear of a list
abbrev pub list_checks : {R : Type 0} → Pool R → Cache R → List ℕ → Checks TagFault
list_checks pool cache list = (CountsTags list, BadCount) ∷ (AreOrdinary pool list, NoSuchTag)
    ∷ (AreHeldOnce cache list, NotHeld) ∷ []

-- a clear of a mask
abbrev pub mask_checks : {R : Type 0} → Pool R → Cache R → ℕ → ℕ → Checks TagFault
mask_checks pool cache first mask = (1 ≤ mask, BadCount) ∷ (AreOrdinary pool (tags_in first mask), NoSuchTag)
    ∷ (All (Holds cache) (tags_in first mask), NotHeld) ∷ []
