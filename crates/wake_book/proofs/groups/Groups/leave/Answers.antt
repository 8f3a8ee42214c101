-- Each turn that doesn't end the call is one idle more, and the last turn leaves, after the idles before it.
use Rattle.wake_book.proofs.Uses.{GroupStep, Idles, IsLeave, Left, List, None, Option, refl, Some, subst, suc, sym, Unwoken, Woken, zero, ℕ, ◌∙◌}
use Rattle.std.specs.Prelude.{IsSome, ◌≡◌}
use Rattle.wake_book.specs.Groups.{steps_of}
use Rattle.wake_book.proofs.groups.Groups.leave.Goals as goal

group_of : (standing : Option ℕ) → IsSome standing → (group : ℕ) × (standing ≡ Some group)
group_of (Some group) some = (group, refl)
group_of None some = cc

module _ (g : ℕ) (steps before : List GroupStep) (idled : (idles : ℕ) × Idles idles g steps before) where
  -- idles after idles are idles
  idles_on : (more : ℕ) (after : List GroupStep) → Idles more g before after → (idles : ℕ) × Idles idles g steps after
  idles_on zero after same = (idled.0, subst (Idles idled.0 g steps) (sym same) idled.1)
  idles_on (suc more) after on = let i = idles_on more on.3 on.4 in
      (suc i.0, (on.0, on.1, on.2, on.3, i.1, on.5, on.6, on.7))

  -- a way to leave after idles is one
  leaves_on : (outcome : Left) (after : List GroupStep) → IsLeave g before after outcome → IsLeave g steps after outcome
  leaves_on Woken after way = let i = idles_on way.3.0 way.3.1 way.3.2 in
      (way.0, way.1, way.2, (i.0, way.3.1, i.1, way.3.3), way.4, way.5)
  leaves_on Unwoken after way = let i = idles_on way.3.0 way.3.1 way.3.2 in
      (way.0, way.1, way.2, (i.0, way.3.1, i.1, way.3.3), way.4, way.5)

pub loop-init : goal.loop-init
loop-init g c = let stands = group_of c.args.waiter.now.standing c.requires.stands in record {
  turns = (tt, tt);
  groups = (c.requires.groups, (refl, refl, refl, refl));
  moved = refl;
  idle = (stands.0, stands.1, 0, refl);
}

pub loop-preserved : goal.loop-preserved
loop-preserved g c = let inv = c.loop.invariant in let turn = c.try_leave.ensures in
    let stays = c.in_default.ensures.stays in let once = c.in_default.ensures.idle in
    let same : once.0 ≡ inv.idle.0 = cc (once.1, inv.groups.1.1, inv.idle.1) in record {
      turns = (tt, tt);
      groups = (
        turn.groups.0,
        (turn.groups.1 ∙ inv.groups.1.0, stays ∙ inv.groups.1.1, turn.index ∙ inv.groups.1.2, turn.silent ∙ inv.groups.1.3),
      );
      moved = turn.moved ∙ inv.moved;
      idle = let more = idles_on inv.idle.0 (steps_of c.args.waiter.now) (steps_of c.loop.waiter) (inv.idle.2, inv.idle.3) 1
          (steps_of c.try_leave.new.waiter)
          (subst (λ (k : ℕ). Idles 1 k (steps_of c.loop.waiter) (steps_of c.try_leave.new.waiter)) same once.2) in
          (inv.idle.0, inv.idle.1, more.0, more.1);
    }

pub returns-in-Some-try_leave-clause-left : goal.returns-in-Some-try_leave-clause-left
returns-in-Some-try_leave-clause-left g c = let inv = c.loop.invariant in let way = c.in-Some-try_leave.ensures.left in
    let same : way.0 ≡ inv.idle.0 = cc (way.1, inv.groups.1.1, inv.idle.1) in (
      inv.idle.0,
      inv.idle.1,
      leaves_on inv.idle.0 (steps_of c.args.waiter.now) (steps_of c.loop.waiter) (inv.idle.2, inv.idle.3)
          c.in-Some-try_leave.left (steps_of c.try_leave.new.waiter)
          (subst (λ (k : ℕ). IsLeave k (steps_of c.loop.waiter) (steps_of c.try_leave.new.waiter)
          c.in-Some-try_leave.left) same way.2),
    )
