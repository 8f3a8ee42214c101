-- A thread's cache may go to another thread, and threads may share the pool; the user holds the tag that a get answers.
use Rattle.tag_bench.proofs.Uses.{Cache, IfSome, IsSync, None, Option, pool_field_sync, recorded_sync, refl, sendable, Some, struct_sync, ℕ}
use denote.Struct.Field.{u64-field}
use denote.Struct.Declared.{shape as fields_of}
use Rattle.tag_pool.specs.Gets.{IsAnswer}
use Rattle.tag_cache.specs.Caches.{Holds}
use Rattle.tag_cache.specs.Holding.{HoldsMore}
use Rattle.tag_bench.specs.contracts.shared_cache.Cached as cached

pub cached_sync : IsSync cached.the_row
cached_sync = recorded_sync _ _ _ cached.the_type.to_one (struct_sync (fields_of cached.the_type)
    (pool_field_sync u64-field.row (search sendable) (search sendable), tt))

pub holds_answer : {R : Type 0} (answer : Option ℕ) (old new : Cache R) → HoldsMore (IsAnswer answer) old new
    → IfSome answer (Holds new)
holds_answer None old new m = tt
holds_answer (Some tag) old new m = m.joined tag refl
