-- The hands' records and numbers are unchanged, so the cause that is found holds of the hands passed in.
use Rattle.std.specs.Prelude.{bit_or, count_by}
use Rattle.tag_pool.proofs.Uses.{ap, arith, Hand, length, List, subst, sym, ℕ, ◌∙◌}
use Rattle.tag_pool.specs.Gathering.{numbers_of}
use Rattle.tag_pool.specs.Resizing.{has_bit, HaveWaiters}
use Rattle.tag_pool.proofs.Counted.{balances, few_hands, held_is, posted_are, small_sums}
use Rattle.tag_pool.proofs.Unchanged.{unchanged-numbers}
use Rattle.tag_pool.proofs.Waiters.{are_waiting}
use Rattle.tag_pool.proofs.pool.Pool.busy_for.Given as given
use Rattle.tag_pool.proofs.pool.Pool.busy_for.Goals.{After-count_in-count, then-held-ne0-via-then-held-ne0, then-held-ne0-via-else-held-ne0+then-posted-ne0}
use Rattle.tag_pool.proofs.pool.Pool.busy_for.Goals as goal

pub overflow_add-held : goal.overflow_add-held
overflow_add-held g c =
    let small = (small_sums c.args.self.now c.args.hands.now.items c.usage-usage.result c.usage-usage.ensures.usage).0 in omega arith

pub overflow_add-posted : goal.overflow_add-posted
overflow_add-posted g c =
    let small = (small_sums c.args.self.now c.args.hands.now.items c.usage-usage.result c.usage-usage.ensures.usage).1 in omega arith

pub count_in-count-requires-clause-few : goal.count_in-count-requires-clause-few
count_in-count-requires-clause-few g c =
    let few = few_hands c.args.self.now c.args.hands.now.items c.usage-usage.result c.usage-usage.ensures.usage in
    let long = c.usage-usage.ensures.unchanged.count in
    let same = ap (λ (z : List (Hand g.row.R.Denot)). length z) c.as_slice.ensures.value in omega arith

pub returns-then-held-ne0-clause-cause : goal.returns-then-held-ne0-clause-cause
returns-then-held-ne0-clause-cause g c =
    let held = held_is c.args.self.now c.args.hands.now.items c.usage-usage.result c.usage-usage.ensures.usage in
    let posted = posted_are c.args.self.now c.args.hands.now.items c.usage-usage.result c.usage-usage.ensures.usage in (
      held,
      posted,
      λ none. elim c.then-held-ne0.branch [
        | then-held-ne0-via-then-held-ne0 w ↦ w.if-held-ne0.true (held ∙ none.0)
        | then-held-ne0-via-else-held-ne0+then-posted-ne0 w ↦ w.if-posted-ne0.true (posted ∙ none.1)
      ],
    )

-- so many hands of those passed in wait
waiters : (g : given.Over) (c : After-count_in-count g) → HaveWaiters c.args.hands.now.items c.count_in-count.result
waiters g c = let usage = c.usage-usage.result in let u = c.usage-usage.ensures.usage in
    let both = bit_or usage.reserved.waiting usage.ordinary.waiting in record {
      mask = both;
      mask_is = are_waiting c.args.self.now c.args.hands.now.items c.requires.own usage.reserved.waiting
          usage.ordinary.waiting u.reserved.waiting u.ordinary.waiting;
      count_is = c.count_in-count.ensures
          ∙ ap (λ (z : List (Hand g.row.R.Denot)). count_by (has_bit both) (numbers_of z)) c.as_slice.ensures.value
          ∙ ap (λ (z : List ℕ). count_by (has_bit both) z)
          (unchanged-numbers c.args.hands.now.items c.usage-usage.new.hands.items c.usage-usage.ensures.unchanged);
    }

pub returns-then-count-ne0-clause-cause : goal.returns-then-count-ne0-clause-cause
returns-then-count-ne0-clause-cause g c =
    let held = held_is c.args.self.now c.args.hands.now.items c.usage-usage.result c.usage-usage.ensures.usage in
    let posted = posted_are c.args.self.now c.args.hands.now.items c.usage-usage.result c.usage-usage.ensures.usage in
    let some = c.if-count-ne0.true in (
      (sym held ∙ c.if-held-ne0.false, sym posted ∙ c.if-posted-ne0.false),
      waiters g c.before,
      omega arith,
    )

pub returns-clause-cause : goal.returns-clause-cause
returns-clause-cause g c =
    let held = held_is c.args.self.now c.args.hands.now.items c.usage-usage.result c.usage-usage.ensures.usage in
    let posted = posted_are c.args.self.now c.args.hands.now.items c.usage-usage.result c.usage-usage.ensures.usage in (
      (sym held ∙ c.if-held-ne0.false, sym posted ∙ c.if-posted-ne0.false),
      subst (HaveWaiters c.args.hands.now.items) c.if-count-ne0.false (waiters g c.before),
    )

pub returns-then-held-ne0-clause-balance : goal.returns-then-held-ne0-clause-balance
returns-then-held-ne0-clause-balance g c =
    balances c.args.self.now c.args.hands.now.items c.usage-usage.result c.usage-usage.ensures.usage

pub returns-then-count-ne0-clause-balance : goal.returns-then-count-ne0-clause-balance
returns-then-count-ne0-clause-balance g c =
    balances c.args.self.now c.args.hands.now.items c.usage-usage.result c.usage-usage.ensures.usage

pub returns-clause-balance : goal.returns-clause-balance
returns-clause-balance g c = balances c.args.self.now c.args.hands.now.items c.usage-usage.result c.usage-usage.ensures.usage
