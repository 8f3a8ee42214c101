-- In each set both sides are unchanged and hold no tag in common; so are the hands, and so do they.
use Rattle.std.proofs.Common.{sym, ◌∙◌}
use Rattle.tag_pool.proofs.Meetings.{unchanged, share_both, hold_apart}
use Rattle.tag_pool.proofs.pool.Pool.meet.Goals as goal

pub returns-clause-unchanged : goal.returns-clause-unchanged
returns-clause-unchanged g c = (
  unchanged c.args.first.now c.meet.new.self c.meet-2.new.self c.meet.ensures.unchanged.0
      c.meet-2.ensures.unchanged.0,
  unchanged c.args.second.now c.meet.new.other c.meet-2.new.other c.meet.ensures.unchanged.1
      c.meet-2.ensures.unchanged.1,
)

pub returns-clause-apart : goal.returns-clause-apart
returns-clause-apart g c =
    hold_apart (record c.args.first.now { reserved = c.meet.new.self; ordinary = c.meet-2.new.self })
    (record c.args.second.now { reserved = c.meet.new.other; ordinary = c.meet-2.new.other })
    (c.requires.hands.0.2 ∙ sym c.requires.hands.1.2) c.meet.ensures.apart c.meet-2.ensures.apart

pub returns-clause-histories : goal.returns-clause-histories
returns-clause-histories g c =
    share_both c.args.self.now (record c.args.first.now { reserved = c.meet.new.self; ordinary = c.meet-2.new.self })
    (record c.args.second.now { reserved = c.meet.new.other; ordinary = c.meet-2.new.other })
    c.meet.ensures.history c.meet-2.ensures.history
