-- Where one look finds nobody that is all, and otherwise the hand sees to it.
use Rattle.tag_c.proofs.Uses.{arc_value, Caching, pos, refl}
use Rattle.tag_pool.specs.declared.kind.Kind.TheVariants.{Ordinary}
use Rattle.tag_c.specs.Telling.{nobody, Tells}
use Rattle.tag_c.proofs.Endings.{ends_alone, found, looked, sees_at_once, sees_nobody_over}
use Rattle.tag_c.proofs.cached.CachedMember.look_and_tell.Goals as goal

pub returns-then-not-finds_waiters : goal.returns-then-not-finds_waiters
returns-then-not-finds_waiters c = let tags = (arc_value c.args.self.now.shared).tags in
    let freed = c.args.freed in let old = c.args.self.now.cache in let new = c.finds_waiters.new.self in
    let look = c.finds_waiters.ensures in (
      refl,
      ends_alone (Tells Ordinary freed) (pos 0) (sees_at_once Ordinary freed nobody tags (Caching old) (Caching new)
          (sees_nobody_over tags freed old new look.same
          (looked Ordinary old.hand new.hand c.if-not-finds_waiters.true look.looks))),
    )

pub returns : goal.returns
returns c = let old = c.args.self.now.cache in let new = c.finds_waiters.new.self in
    let look = c.finds_waiters.ensures in (
      c.tell.ensures.0,
      found Ordinary c.args.freed {looked = Caching new} c.tell.type_inv
          (looked Ordinary old.hand new.hand c.if-not-finds_waiters.false look.looks, look.same) c.tell.ensures.1,
    )
