-- A load may always happen, and if the waiter is in this group and the group has no grant, somebody waits there.
use Rattle.std.specs.Prelude.{◌∷◌}
use Rattle.wake_book.proofs.Uses.{ap, arith, Look, looked_group, record_of, stand_code, steps_of, sym, ℕ, ◌∙◌}
use Rattle.wake_book.proofs.GroupKeeps as keeps
use Rattle.wake_book.proofs.Waiters.{made_steps, few}
use Rattle.wake_book.proofs.groups.Groups.look_group.Goals as goal

pub load-requires : goal.load-requires
load-requires c = let g = c.args.self.now in let w = c.args.waiter.now in let wide = g.wide.0 in
    let ids = g.table.shared.table_id in let in_range = c.requires.within in let at = c.group_spot.ensures in (
      c.requires.groups,
      omega arith,
      keeps.placed g.table.shared.key (few g) ids.slots w.seat.id w.seat.me _ (ap (λ z. z.0) w.knows) c.group_spot.result
          c.args.group at (λ n. n) 0 0 looked_group
          (keeps.group g.table.shared.key (few g) ids.slots w.seat.id w.seat.me _ (ap (λ z. z.0) w.knows) c.args.group
          in_range),
    )

pub returns-clause-step : goal.returns-clause-step
returns-clause-step c = let w = c.args.waiter.now in
    made_steps (record_of w) w.seat.me c.load.new.seat.me w.knows (Look c.group_spot.result c.load.result)
    c.load.ensures.2.0
    ∙ ap (λ (z : ℕ). Look z c.load.result ∷ steps_of w.seat.me.0) c.group_spot.ensures

pub returns-clause-waits : goal.returns-clause-waits
returns-clause-waits c stands no_grant = let w = c.args.waiter.now in
    c.load.ensures.2.1 c.args.group c.group_spot.ensures (sym w.stands.0 ∙ ap stand_code stands) no_grant
