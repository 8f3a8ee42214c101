-- The waiter is in no group, so it may raise the active count, and then it may enter the group of its wait index.
use Rattle.std.specs.Prelude.{◌%◌, ◌+◌, ◌^◌, ◌∷◌, ◌≡◌}
use Rattle.wake_book.proofs.Uses.{[], ap, arith, Enter, entering, GroupStep, length, Me, one_waiting, own_view, Raise, record_of, Records, refl, Some, stand_code, Stepped, steps_of, sym, Waiter, with_step, ℕ, ◌∙◌}
use Rattle.wake_book.proofs.GroupKeeps as keeps
use Rattle.wake_book.proofs.Waiters.{Promises, made, made_steps, after, few}
use Rattle.wake_book.proofs.groups.Groups.enter.Goals as goal

module _ (w : Waiter) (active : ℕ) (me : Me (Unit {0}) (Records GroupStep))
    (did : Stepped (Raise active) w.seat.me me) where
  raised_is : me ≡ (own_view (with_step (Raise active) (record_of w)), [])
  raised_is = made (record_of w) w.seat.me me w.knows (Raise active) did

  module _ (found : ℕ) (me' : Me (Unit {0}) (Records GroupStep)) (next : Stepped (Enter w.next found) me me') where
    entered_steps : steps_of me'.0 ≡ Enter w.next found ∷ Raise active ∷ steps_of w.seat.me.0
    entered_steps = made_steps (with_step (Raise active) (record_of w)) me me' raised_is (Enter w.next found) next

    entered : Promises w.number (Some w.next) ((w.next + 1) % 8) w.moved me'
    entered = let within = w.within in let moves = w.moves.0 in
        after (with_step (Raise active) (record_of w)) me me' raised_is (Enter w.next found) next (Some w.next)
        ((w.next + 1) % 8) w.moved (refl, omega arith, omega arith) (omega arith) (omega arith) w.moves.1

pub fetch_add-requires : goal.fetch_add-requires
fetch_add-requires c = let g = c.args.self.now in let w = c.args.waiter.now in let wide = g.wide.0 in
    let out : stand_code w.standing ≡ 0 = ap stand_code c.requires.out in let up = w.stands.1 in (
      c.requires.groups,
      omega arith,
      keeps.raise g.table.shared.key (few g) g.table.shared.table_id.slots w.seat.id w.seat.me (record_of w)
          (ap (λ z. z.0) w.knows) (omega arith),
    )

pub fetch_add-requires-2 : goal.fetch_add-requires-2
fetch_add-requires-2 c = let g = c.args.self.now in let w = c.args.waiter.now in let wide = g.wide.0 in
    let slots = g.table.shared.table_id.slots in let seat = c.fetch_add.new.seat in
    let knows = raised_is w c.fetch_add.result seat.me c.fetch_add.ensures.2 in
    let in_range = w.within in let at = c.group_spot.ensures in (
      c.fetch_add.ensures.0 ∙ c.requires.groups,
      omega arith,
      keeps.placed g.table.shared.key (few g) slots seat.id seat.me _ (ap (λ z. z.0) knows) c.group_spot.result w.next at
          (λ v. (v + one_waiting) % 2 ^ 64) one_waiting 0 entering
          (keeps.enter g.table.shared.key (few g) slots seat.id seat.me
          (with_step (Raise c.fetch_add.result) (record_of w)) (ap (λ z. z.0) knows) w.next w.within refl
          (sym w.stands.0 ∙ ap stand_code c.requires.out)),
    )

pub invariant_of-waiter : goal.invariant_of-waiter
invariant_of-waiter c = let w = c.args.waiter.now in
    entered w c.fetch_add.result c.fetch_add.new.seat.me c.fetch_add.ensures.2 c.fetch_add-2.result
    c.fetch_add-2.new.seat.me (c.fetch_add-2.ensures.2 w.next c.group_spot.ensures)

pub returns-clause-steps : goal.returns-clause-steps
returns-clause-steps c = let w = c.args.waiter.now in (
  c.fetch_add.result,
  c.fetch_add-2.result,
  entered_steps w c.fetch_add.result c.fetch_add.new.seat.me c.fetch_add.ensures.2 c.fetch_add-2.result
      c.fetch_add-2.new.seat.me (c.fetch_add-2.ensures.2 w.next c.group_spot.ensures),
)

pub returns-clause-bound : goal.returns-clause-bound
returns-clause-bound c = let steps = ap length (returns-clause-steps c).2 in omega arith
