-- A tag that is taken, read and cleared leaves the hand's tags as they were.
use Rattle.loop_device.proofs.Uses.{ap, arith, Completes, EndsRequest, EndsWithout, Err, IfOk, in_pool, inl, inr, Io, IsRequestFault, List, Ok, PlayFault, pool_of, Queue, QueueHand, refl, Result, SameCounts, Spurious, subst, sym, total_of, ℕ, ⊎_elim, ◌∙◌}
use Rattle.std.proofs.Common.{◌≡◌, ◌≤◌, ◌↔◌, IfErr}
use Rattle.tag_pool.specs.declared.fault.TagFault.{TagFault}
use Rattle.tag_pool.specs.declared.fault.TagFault.TheVariants.{NoSuchTag, NotPosted}
use Rattle.tag_pool.specs.Holding.{HoldsSame}
use Rattle.tag_pool.specs.Slots.{Takes, Misses, RefusesTake}

module _ (tags : Queue ℕ) (tag : ℕ) (old taken new : QueueHand ℕ)
    (takes : Takes tag (in_pool old) (in_pool taken)) where
  same_tags : (line : ℕ) → EndsRequest tags tag line taken new → HoldsSame (in_pool old) (in_pool new)
  same_tags line ends = record {
    kept = λ other held.
        let was = takes.more.kept other held in
        let read = ends.reads.same.kept other was.0 in
        let apart : other ≡ tag → ⊥ = λ is. takes.more.fresh other is held in
        let left = ends.clears.less.kept other apart read.0 in
        (left.0, left.1 ∙ read.1 ∙ was.1);
    none_else = λ other held.
        let read = ends.clears.less.none_else other held in
        ⊎_elim (λ was. was) (λ is. absurd (ends.clears.less.gone other is held))
        (takes.more.none_else other (ends.reads.same.none_else other read));
  }

  -- whatever became of the line
  pub held : (ios : List Io) (r : Result ℕ PlayFault) → IfOk r (λ line. EndsRequest tags tag line taken new)
      → IfErr r (λ fault. EndsWithout tags ios tag fault taken new) → HoldsSame (in_pool old) (in_pool new)
  held ios (Ok line) ends without = same_tags line ends
  held ios (Err fault) ends without = same_tags without.line without.ends

  pub completed : SameCounts old taken → (r : Result ℕ PlayFault)
      → IfOk r (λ line. EndsRequest tags tag line taken new) → IfOk r (λ line. Completes tags tag line old new)
  completed same (Ok line) ends = record { taken = taken; takes = takes; same = same; ends = ends }
  completed same (Err fault) ends = tt

  pub told : SameCounts old taken → (ios : List Io) (r : Result ℕ PlayFault)
      → IfErr r (λ fault. EndsWithout tags ios tag fault taken new)
      → IfErr r (λ fault. IsRequestFault tags ios tag fault old new)
  told same ios (Ok line) without = tt
  told same ios (Err fault) without = inr record {
    line = without.line;
    tells = without.tells;
    completes = record { taken = taken; takes = takes; same = same; ends = without.ends };
  }

module _ (tags : Queue ℕ) (tag : ℕ) (old new : QueueHand ℕ) where
  pub held_back : (fault : TagFault) → RefusesTake tag fault (in_pool old) (in_pool new)
      → HoldsSame (in_pool old) (in_pool new)
  held_back fault refuses = ⊎_elim
      (λ (no : (fault ≡ NoSuchTag) × (in_pool new ≡ in_pool old)). subst (HoldsSame (in_pool old)) (sym no.1) record {
        kept = λ other held. (held, refl);
        none_else = λ other held. held;
      })
      (λ missed. missed.1.same) refuses

  -- a refused take tells which of the two it was
  pub told_back : {A : Type 0} (ios : List Io) (r : Result A TagFault) (fault : TagFault) → r ≡ Err fault
      → (r ≡ Err NoSuchTag) ↔ (total_of (pool_of tags) ≤ tag) → RefusesTake tag fault (in_pool old) (in_pool new)
      → ((fault ≡ NoSuchTag) → new ≡ old) → SameCounts old new → IsRequestFault tags ios tag Spurious old new
  told_back ios r fault is known refuses unchanged counts = inl (
    refl,
    record {
      cause = ⊎_elim
          (λ (no : (fault ≡ NoSuchTag) × (in_pool new ≡ in_pool old)). inl (known.0 (is ∙ ap Err no.0), unchanged no.0))
          (λ (missed : (fault ≡ NotPosted) × Misses tag (in_pool old) (in_pool new)).
          let among : total_of (pool_of tags) ≤ tag → ⊥ = λ beyond. let same = known.1 beyond in
          let posted = missed.0 in cc in
          inr (omega (arith, among), missed.1)) refuses;
      same = counts;
    },
  )
