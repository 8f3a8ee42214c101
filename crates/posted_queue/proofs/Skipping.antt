-- A number is skipped only where its take is refused.
use Rattle.std.proofs.Common.{ap, Err, inl, inr, Result, ⊎_elim, ◌≡◌, ◌≤◌, ℕ}
use Rattle.std.specs.Prelude.{◌↔◌}
use Rattle.std.specs.Bool.{⊤}
use Rattle.tag_pool.specs.Hands.{total_of}
use Rattle.tag_pool.specs.Slots.{RefusesTake}
use Rattle.tag_pool.specs.declared.fault.TagFault.{TagFault}
use Rattle.tag_pool.specs.declared.fault.TagFault.TheVariants.{NoSuchTag}
use Rattle.tag_pool.specs.declared.hand.Hand.{Hand}
use Rattle.tag_pool.specs.declared.pool.Pool.{Pool}
use Rattle.posted_queue.specs.Serving.{Comes}
use Rattle.posted_queue.specs.declared.nexts.Popped.TheVariants.{Skipped}

pub skipped : {R : Type 0} (pool : Pool R) (tag : ℕ) (fault : TagFault) (old new : Hand R)
    → ◌≡◌ {A = Result ⊤ TagFault} (Err fault) (Err NoSuchTag) ↔ (total_of pool ≤ tag) → RefusesTake tag fault old new
    → Comes pool (Skipped tag) old new
skipped pool tag fault old new no_such_tag refuses =
    ⊎_elim (λ none. inr (no_such_tag.0 (ap Err none.0), none.1)) (λ missed. inl missed.1) refuses
