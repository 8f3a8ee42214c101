-- The look tells what the exchange may do. If the exchange wins, the waiter is in no group and may lower the count; a lost
-- one is an idle, with the look before it.
use Rattle.std.specs.Prelude.{◌<◌, ◌∷◌, ◌≡◌}
use Rattle.wake_book.proofs.Uses.{ap, arith, either, eqb, GroupStep, leaving, List, refl, stand_code, steps_of, suc, sym, with_step, ℕ, ◌∙◌}
use Rattle.wake_book.proofs.Leaving.{tried, tried_steps, lost, gone, up, left, leaves}
use Rattle.wake_book.proofs.GroupKeeps as keeps
use Rattle.wake_book.proofs.Waiters.{few}
use Rattle.wake_book.proofs.groups.Groups.try_leave.Goals as goal

pub compare_exchange-seen-requires : goal.compare_exchange-seen-requires
compare_exchange-seen-requires c = let g = c.args.self.now in let w = c.look_group-found.new.waiter in
    let wide = g.wide.0 in let looked = c.look_group-found.ensures in let found : ℕ = c.look_group-found.result in
    let st : stand_code w.standing ≡ suc c.in-Some.group = ap stand_code (looked.groups.1.1 ∙ c.in-Some.is) in
    let code = w.stands.2 in let in_range : c.in-Some.group < 8 = omega arith in let at = c.group_spot.ensures in (
      looked.groups.0,
      omega arith,
      keeps.placed g.table.shared.key (few g) g.table.shared.table_id.slots w.seat.id w.seat.me _
          (ap (λ z. z.0) w.knows) c.group_spot.result c.in-Some.group at
          (λ v. either (eqb v found) c.way_out-left.result.1 v) found c.way_out-left.result.1 leaving
          (keeps.exit g.table.shared.key (few g) g.table.shared.table_id.slots w.seat.id w.seat.me
          (record { number = w.number; steps = steps_of w.seat.me.0 }) (ap (λ z. z.0) w.knows) c.in-Some.group found
          c.way_out-left.result.1 c.way_out-left.result.0 c.way_out-left.ensures in_range (sym w.stands.0 ∙ st)),
    )

pub invariant_of-waiter : goal.invariant_of-waiter
invariant_of-waiter c = let w = c.look_group-found.new.waiter in let try = c.compare_exchange-seen in
    lost w c.in-Some.group c.look_group-found.result try.result try.new.seat.me
    (try.ensures.2 c.in-Some.group c.group_spot.ensures) c.if-seen-found.true

pub returns-then-seen-found-clause-idle : goal.returns-then-seen-found-clause-idle
returns-then-seen-found-clause-idle c = let try = c.compare_exchange-seen in
    let did = try.ensures.2 c.in-Some.group c.group_spot.ensures in (
      c.in-Some.group,
      c.in-Some.is,
      (
        c.look_group-found.result,
        try.result,
        did.0,
        steps_of c.args.waiter.now.seat.me.0,
        refl,
        did.1,
        c.if-seen-found.true,
        tried_steps c.look_group-found.new.waiter c.in-Some.group c.look_group-found.result try.result try.new.seat.me did
            ∙ ap (λ (s : List GroupStep). did.0 ∷ s) c.look_group-found.ensures.step,
      ),
    )

pub fetch_sub-requires : goal.fetch_sub-requires
fetch_sub-requires c = let w = c.look_group-found.new.waiter in let try = c.compare_exchange-seen in
    let did = try.ensures.2 c.in-Some.group c.group_spot.ensures in let won = c.if-seen-found.false in
    let found : ℕ = c.look_group-found.result in let seen : ℕ = try.result in let looked = c.look_group-found.ensures in
    let g = c.args.self.now in let wide = g.wide.0 in (
      try.ensures.0 ∙ looked.groups.0,
      omega arith,
      keeps.lower g.table.shared.key (few g) g.table.shared.table_id.slots try.new.seat.id try.new.seat.me
          (with_step did.0 (record { number = w.number; steps = steps_of w.seat.me.0 }))
          (ap (λ z. z.0) (tried w c.in-Some.group found seen try.new.seat.me did))
          (up w c.in-Some.group found seen try.new.seat.me did won (looked.groups.1.1 ∙ c.in-Some.is))
          (gone w c.in-Some.group found seen try.new.seat.me did won),
    )

pub invariant_of-waiter-2 : goal.invariant_of-waiter-2
invariant_of-waiter-2 c = let w = c.look_group-found.new.waiter in let try = c.compare_exchange-seen in
    left w c.in-Some.group c.look_group-found.result try.result try.new.seat.me
    (try.ensures.2 c.in-Some.group c.group_spot.ensures) c.if-seen-found.false c.fetch_sub.result c.fetch_sub.new.seat.me
    c.fetch_sub.ensures.2

pub returns-clause-left : goal.returns-clause-left
returns-clause-left c = let try = c.compare_exchange-seen in (
  c.in-Some.group,
  c.in-Some.is,
  leaves c.look_group-found.new.waiter c.in-Some.group c.look_group-found.result try.result try.new.seat.me
      (try.ensures.2 c.in-Some.group c.group_spot.ensures) c.if-seen-found.false c.fetch_sub.result c.fetch_sub.new.seat.me
      c.fetch_sub.ensures.2 (steps_of c.args.waiter.now.seat.me.0) c.way_out-left.result.0 c.way_out-left.result.1
      c.look_group-found.ensures.step c.way_out-left.ensures,
)
