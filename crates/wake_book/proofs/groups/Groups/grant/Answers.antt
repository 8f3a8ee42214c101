-- At least as many wait as are moved, so neither half of the word overflows; the exchange wins exactly if it found what
-- it expected.
use Rattle.std.specs.Prelude.{◌*◌, ◌+◌, ◌-◌, ◌^◌, ◌∷◌, ◌≡◌, ◌≤◌}
use Rattle.wake_book.proofs.Uses.{ap, arith, either, eqb, Grant, granting, GroupStep, Me, moved_by, moved_in, one_waiting, record_of, Records, Stepped, steps_of, total, Waiter, waiting, ℕ, ◌∙◌}
use Rattle.wake_book.proofs.GroupSteps.{yes_of, no_of}
use Rattle.wake_book.proofs.GroupKeeps as keeps
use Rattle.wake_book.proofs.Waiters.{Promises, made_steps, after, few}
use Rattle.wake_book.proofs.groups.Groups.grant.Goals as goal

-- the code subtracts first, and so stays within 64 bits
same_word : (found count : ℕ) → count ≤ waiting found → found - one_waiting * count + count ≡ moved_in found count
same_word found count few_wait = omega arith

module _ (w : Waiter) (g found count seen : ℕ) (me : Me (Unit {0}) (Records GroupStep))
    (did : Stepped (Grant g found count seen) w.seat.me me) where
  granted_steps : steps_of me.0 ≡ Grant g found count seen ∷ steps_of w.seat.me.0
  granted_steps = made_steps (record_of w) w.seat.me me w.knows (Grant g found count seen) did

  -- the waiter stands where it stood
  granted : (moved : ℕ) → moved ≡ total moved_by (Grant g found count seen ∷ steps_of w.seat.me.0) → moved ≤ 2 ^ 56
      → Promises w.number w.standing w.next moved me
  granted moved is most = after (record_of w) w.seat.me me w.knows (Grant g found count seen) did w.standing w.next moved
      w.stands w.within is most

pub compare_exchange-seen-requires : goal.compare_exchange-seen-requires
compare_exchange-seen-requires c = let g = c.args.self.now in let w = c.args.waiter.now in let wide = g.wide.0 in
    let slots = g.table.shared.table_id.slots in let in_range = c.requires.within.0 in let at = c.group_spot.ensures in
    let room = c.requires.within.2 in let own = w.moves.0 in
    let new : ℕ = c.args.found - one_waiting * c.args.count + c.args.count in (
      c.requires.groups,
      omega arith,
      keeps.placed g.table.shared.key (few g) slots w.seat.id w.seat.me _ (ap (λ z. z.0) w.knows) c.group_spot.result
          c.args.group at (λ v. either (eqb v c.args.found) new v) c.args.found new granting
          (keeps.grant g.table.shared.key (few g) slots w.seat.id w.seat.me (record_of w) (ap (λ z. z.0) w.knows)
          c.args.group c.args.count c.args.found new in_range c.requires.within.1 (omega arith)
          (same_word c.args.found c.args.count c.requires.within.1)),
    )

pub invariant_of-waiter : goal.invariant_of-waiter
invariant_of-waiter c = let w = c.args.waiter.now in let try = c.compare_exchange-seen in let moves = w.moves.0 in
    let none = no_of try.result c.args.found c.args.count 0 c.if-seen-found.true in
    granted w c.args.group c.args.found c.args.count try.result try.new.seat.me
    (try.ensures.2 c.args.group c.args.count c.group_spot.ensures c.requires.within.1
    (same_word c.args.found c.args.count c.requires.within.1)) w.moved (omega arith) w.moves.1

pub returns-then-seen-found-clause-lost : goal.returns-then-seen-found-clause-lost
returns-then-seen-found-clause-lost c _ = let try = c.compare_exchange-seen in (
  try.result,
  c.if-seen-found.true,
  granted_steps c.args.waiter.now c.args.group c.args.found c.args.count try.result try.new.seat.me
      (try.ensures.2 c.args.group c.args.count c.group_spot.ensures c.requires.within.1
      (same_word c.args.found c.args.count c.requires.within.1)),
)

pub invariant_of-waiter-2 : goal.invariant_of-waiter-2
invariant_of-waiter-2 c = let w = c.args.waiter.now in let try = c.compare_exchange-seen in let moves = w.moves.0 in
    let all = yes_of try.result c.args.found c.args.count 0 c.if-seen-found.false in let room = c.requires.within.2 in
    granted w c.args.group c.args.found c.args.count try.result try.new.seat.me
    (try.ensures.2 c.args.group c.args.count c.group_spot.ensures c.requires.within.1
    (same_word c.args.found c.args.count c.requires.within.1)) (w.moved + c.args.count) (omega arith) (omega arith)

pub returns-clause-won : goal.returns-clause-won
returns-clause-won c _ = let w = c.args.waiter.now in let try = c.compare_exchange-seen in
    granted_steps w c.args.group c.args.found c.args.count try.result try.new.seat.me
    (try.ensures.2 c.args.group c.args.count c.group_spot.ensures c.requires.within.1
    (same_word c.args.found c.args.count c.requires.within.1))
    ∙ ap (λ (z : ℕ). Grant c.args.group c.args.found c.args.count z ∷ steps_of w.seat.me.0) c.if-seen-found.false
