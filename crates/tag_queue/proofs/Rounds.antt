-- What the rounds of a blocking get say of its gets in the pool, and which group a waiter leaves.
use Rattle.std.specs.Prelude.{◌⊎◌, ◌≡◌}
use Rattle.std.proofs.lemmas.Option.{same_Some}
use Rattle.tag_queue.proofs.Uses.{ap, AreRounds, arith, BlockingGets, FindNone, first_of, Gets, GetsPlain, Hand, HasRoom, in_pool, inl, inr, IsLeave, IsRound, IsStay, layout_of, LeavesAs, None, Nudged, Option, Ordinary, PassesOn, Pool, QueueHand, reserved_of, RingsNobody, Shape, side_of, Some, standing_of, subst, suc, sym, teller_of, Waiter, WaitsFor, whole, zero, ℕ, ◌∙◌}
use Rattle.tag_pool.specs.Sides as side
use Rattle.wake_book.specs.declared.waiting.Left.{Left}
use Rattle.wake_book.specs.declared.waiting.Left.TheVariants.{Woken, Unwoken}
use Rattle.wake_book.specs.Groups as groups
use Rattle.tag_queue.proofs.Looking.{searched_plain, counted_none, stood_still}

-- a waiter that is in a group leaves that one
pub leaves_there : (group : ℕ) (old new : Waiter) (left : Left) → groups.standing_of old ≡ Some group
    → LeavesAs old new left → IsLeave group (groups.steps_of old) (groups.steps_of new) left
leaves_there group old new left is leaves =
    subst (λ (g : ℕ). IsLeave g (groups.steps_of old) (groups.steps_of new) left)
    (same_Some leaves.0 group (sym leaves.1 ∙ is)) leaves.2

-- a wakeup that is passed on after a time in which the waiter rang for nobody is the only ring since then
pub passes_since : (answer : Option ℕ) (left : Left) (old mid new : Waiter) → RingsNobody old mid
    → PassesOn answer left mid new → PassesOn answer left old new
passes_since (Some tag) Woken old mid new silent passes = passes ∙ (λ j. (Nudged 1, (silent j).0))
passes_since (Some tag) Unwoken old mid new silent passes = passes ∙ silent
passes_since None left old mid new silent passes = passes ∙ silent

module _ {R : Type 0} (pool : Pool R) where
  -- a get that found none leaves as much room
  pub get_keeps_room : (old new : Hand R) → Gets pool Ordinary None old new → HasRoom old Ordinary 1 → HasRoom new Ordinary 1
  get_keeps_room old new g room = keeps g.number g.answer_is g.set.changed
    where
      keeps : (number : Option ℕ) → None ≡ whole (first_of (reserved_of pool) Ordinary) number
          → side.GetsPlain (layout_of pool Ordinary) number (side_of old Ordinary) (side_of new Ordinary)
          → HasRoom new Ordinary 1
      keeps None is s = let count = s.searches.gains.count in
          let life = ap (λ (k : Shape). k.life) s.searches.gains.shape in omega arith
      keeps (Some n) is s = absurd (let z = is in cc)

  -- the get of a stay is all that changes the hand in the pool
  pub searched_there : (group : ℕ) (answer : Option ℕ) (old new : QueueHand R) → IsStay pool group answer old new
      → Gets pool Ordinary answer (in_pool old) (in_pool new)
  searched_there group answer old new stay = subst (λ (z : Hand R × Hand R). Gets pool Ordinary answer z.0 z.1)
      (λ j. (stay.enters.same.0 j, sym stay.same.0 j)) (searched_plain pool answer stay.entered stay.searched stay.search)

  -- a stay counts no completion
  counted_there : (group : ℕ) (answer : Option ℕ) (old new : QueueHand R) → IsStay pool group answer old new
      → teller_of new ≡ teller_of old
  counted_there group answer old new stay = stay.same.1
      ∙ counted_none pool answer stay.entered stay.searched stay.search ∙ stay.enters.same.1

  -- what a hand did in some rounds: that many gets, and it counted nothing
  record Searched (old new : QueueHand R) : Type 0 where
    pub tries : ℕ
    pub none : FindNone tries pool (in_pool old) (in_pool new)
    pub counts : teller_of new ≡ teller_of old

  -- each round makes two gets
  searched : (rounds : ℕ) (old new : QueueHand R) → AreRounds rounds pool old new → Searched old new
  searched zero old new same = record {
    tries = 0;
    none = ap in_pool same;
    counts = ap teller_of same;
  }
  searched (suc rounds) old new made =
      let before = searched rounds old made.0 made.1 in let round : IsRound pool None made.0 new = made.2 in record {
        tries = suc (suc before.tries);
        none = (
          in_pool round.between,
          (in_pool made.0, before.none, searched_plain pool None made.0 round.between round.none),
          searched_there round.group None round.between new round.stay,
        );
        counts = counted_there round.group None round.between new round.stay
            ∙ counted_none pool None made.0 round.between round.none ∙ before.counts;
      }

  -- the last get won the tag
  last_won : (tag : ℕ) (old last new : QueueHand R) → standing_of last ≡ None → Searched old last
      → GetsPlain pool (Some tag) last new ⊎ IsRound pool (Some tag) last new → BlockingGets pool tag old new
  last_won tag old last new out before (inl get) = record {
    tries = before.tries;
    last = in_pool last;
    none = before.none;
    won = searched_plain pool (Some tag) last new get;
    counts = counted_none pool (Some tag) last new get ∙ before.counts;
    out = stood_still pool (Some tag) last new get ∙ out;
  }
  last_won tag old last new out before (inr round) = record {
    tries = suc before.tries;
    last = in_pool round.between;
    none = (in_pool last, before.none, searched_plain pool None last round.between round.none);
    won = searched_there round.group (Some tag) round.between new round.stay;
    counts = counted_there round.group (Some tag) round.between new round.stay
        ∙ counted_none pool None last round.between round.none ∙ before.counts;
    out = round.stay.out;
  }

  -- rounds that end with a tag are gets that found none, and then one that won it
  pub gets_by_rounds : (tag : ℕ) (old new : QueueHand R) (waits : WaitsFor pool tag old new) → standing_of waits.last ≡ None
      → BlockingGets pool tag old new
  gets_by_rounds tag old new waits out =
      last_won tag old waits.last new out (searched waits.rounds old waits.last waits.none) waits.won
