-- Where one look finds nobody that is all, and otherwise the hand sees to it.
use Rattle.tag_c.proofs.Uses.{arc_value, Bare, pos, refl}
use Rattle.tag_c.specs.Telling.{nobody, Tells}
use Rattle.tag_c.proofs.Endings.{ends_alone, found, looked, sees_at_once, sees_nobody}
use Rattle.tag_c.proofs.member.Member.look_and_tell.Goals as goal

pub returns-then-not-finds_waiters : goal.returns-then-not-finds_waiters
returns-then-not-finds_waiters c = let tags = (arc_value c.args.self.now.shared).tags in
    let kind = c.args.kind in let freed = c.args.freed in let old = c.args.self.now.hand in
    let new = c.finds_waiters.new.hand in let look = c.finds_waiters.ensures in (
      refl,
      ends_alone (Tells kind freed) (pos 0) (sees_at_once kind freed nobody tags (Bare old) (Bare new)
          (sees_nobody tags freed kind old new look.same (looked kind old new c.if-not-finds_waiters.true look.looks))),
    )

pub returns : goal.returns
returns c = let kind = c.args.kind in let new = c.finds_waiters.new.hand in let look = c.finds_waiters.ensures in (
  c.tell.ensures.0,
  found kind c.args.freed {looked = Bare new} c.tell.type_inv
      (looked kind c.args.self.now.hand new c.if-not-finds_waiters.false look.looks, look.same) c.tell.ensures.1,
)
