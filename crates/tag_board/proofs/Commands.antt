-- What a call on one hand is for the board.
use Rattle.std.proofs.Common.{◌≡◌, ◌≢◌, ℕ, Bool, false, length, List, map, get_or, set, All, Result, Ok, Err, IfOk, is_some, refl, sym, ap, ◌∙◌, subst, length-set, arith}
use Rattle.tag_board.proofs.Uses.{dite, ℕ_discrete, QueueHand, Kind, hands_of, in_pool, IsHandOf, IsStillOf, pool_of, total_of, reserved_of, HoldsMore, Board, AloneSets, state_of, AreOrdered, idle, part_of, state_of_all, newcomer, no_sets, SameCounts, sets_in, sets_of, terms_of, waiter_of, Changes, Answers, NobodyElseHolds, NobodyHolds, HoldsAll, Part, State, Waiter, Wins}
use Rattle.std.proofs.lemmas.List.Elements.{All-set}
use Rattle.refusals.specs.Refusals.{Checks, RefusesBy}
use Rattle.wake_book.specs.Groups.{standing_of as standing_in}
use Rattle.tag_board.proofs.Handfuls.{part_standing}
use Rattle.tag_board.proofs.Only.{only_hand}
use Rattle.tag_board.proofs.Waiters.{as_it_was}
use Rattle.tag_board.proofs.Holdings.{Names, not_holds}
use Rattle.tag_board.proofs.Seats.{moved, seen_same}
pub use Rattle.tag_board.proofs.Naming.{names_answer, names_one}
pub use Rattle.tag_board.proofs.Effects.{Effect}
pub use Rattle.tag_board.proofs.Gains.{batch_gains, Gained, get_gains, shallow_gains}
pub use Rattle.tag_board.proofs.Calls.{busy_does, clear_does, dump_does, enter_does, leave_does, list_does, post_does, miss_does, show_does, stay_does, take_does}
pub use Rattle.tag_board.proofs.Outcomes.{both_ok, both_on, ok_map, on_map, refused_whole}
pub use Rattle.tag_board.proofs.Seats.{held_here, here_held, ordered, out_here, own_here, part_here, round_here, seat, sits, Sits, room_here, same_held, standing_here, unmoved}
pub use Rattle.tag_board.proofs.Verdicts.{leave_means, list_means, Means, tag_means, wait_means}

module _ (b : Board) {i : ℕ} {old : QueueHand ℕ} (at : Sits b.hands.items i old) (new : QueueHand ℕ) where
  -- the hand is still one of the queue and has its number, so what holds of the board's hands still does
  pub seated : IsStillOf b.queue old new → record {
    own : All (IsHandOf b.queue) (set b.hands.items i new);
    ordered : AreOrdered (set b.hands.items i new);
    every : length (set b.hands.items i new) ≡ hands_of b.queue;
    sizes : (total_of (pool_of b.queue) ≡ b.total) × (reserved_of (pool_of b.queue) ≡ b.reserved);
  }
  seated still = record {
    own = All-set (IsHandOf b.queue) b.hands.items i new still.0 b.own;
    ordered = ordered b.queue at new b.ordered still.1;
    every = length-set b.hands.items i new ∙ b.every;
    sizes = b.sizes;
  }

  -- the state after the call
  abbrev now : State
  now = state_of_all b.queue (set b.hands.items i new)

  -- a call that changes nothing in the pool and counts nothing leaves the board as it is
  pub unchanged : in_pool new ≡ in_pool old → SameCounts old new → now ≡ state_of b
  unchanged same counts =
      let part : part_of new ≡ part_of old = part_standing old new (part_of old).stands same
      (ap (λ w. is_some (standing_in w)) counts.1) in
      let parts = seen_same part_of (idle false) at part in
      let waiters = seen_same waiter_of newcomer at (as_it_was old new counts) in
      let sets = seen_same (sets_of b.queue) no_sets at (ap (sets_in (pool_of b.queue)) same) in λ j. record {
        terms = terms_of b.queue (length-set b.hands.items i new j);
        total = total_of (pool_of b.queue);
        part = λ caller. get_or (parts j) caller (idle false);
        waiter = λ caller. get_or (waiters j) caller newcomer;
        alone = get_or (sets j) 0 no_sets;
      }

  -- what the call did to the hand, it did to the board
  pub effect_on : IsHandOf b.queue new → {change : Part → Part} {waits : Waiter → Waiter → Type 0}
      {alters : AloneSets → AloneSets → Type 0} → Effect b.queue change waits alters old new
      → Changes i change waits alters (state_of b) now
  effect_on own {change} {waits} {alters} d =
      let held = moved part_of (idle false) at new (λ p q. q ≡ change p) d.part in
      let waited = moved waiter_of newcomer at new waits d.waiter in record {
        terms = ap (terms_of b.queue) (length-set b.hands.items i new);
        total = refl;
        own = held.own;
        waiter = waited.own;
        others = λ other ne. record { part = held.others other ne; waiter = waited.others other ne };
        alone = λ one. let low = at.within in let first : i ≡ 0 = omega arith in let only = sym b.every ∙ one in
            let sets = d.sets (only_hand (pool_of b.queue) (in_pool old) (own_here b.queue at b.own).0 only)
            (only_hand (pool_of b.queue) (in_pool new) own.0 only) in
            let view : List (QueueHand ℕ) → ℕ → AloneSets = λ hands n. get_or (map (sets_of b.queue) hands) n no_sets in
            subst (λ (n : ℕ). alters (view b.hands.items n) (view (set b.hands.items i new) n)) first
            (moved (sets_of b.queue) no_sets at new alters sets).own;
      }

  -- a call that may be refused, which then changes nothing
  pub replies : {A E : Type 0} {checks known : Checks E} → Means checks known → (done : A → State → Type 0)
      → (r : Result A E) → RefusesBy checks (new ≡ old) r → IfOk r (λ a. done a now)
      → Answers known (λ a. done a now) (state_of b) r now
  replies m done (Ok a) by d = (m.passes by.passes, d)
  replies m done (Err fault) by d = (m.fails fault by.first, ap (state_of_all b.queue) (unmoved b.queue at by.same))

  module _ (named : ℕ → Bool) (Is : ℕ → Type 0) (names : Names named Is)
      (more : HoldsMore Is (in_pool old) (in_pool new)) where
    -- the caller holds what its hand gained
    pub holds_gained : HoldsAll now i named
    holds_gained tag is = here_held b.queue (seat at new) tag (more.joined tag ((names tag).0 is))

    -- nobody held it before, since this hand did not, and no other caller holds it now
    pub free_before : {change : Part → Part} {waits : Waiter → Waiter → Type 0}
        {alters : AloneSets → AloneSets → Type 0} → Changes i change waits alters (state_of b) now
        → NobodyElseHolds now i named → NobodyHolds (state_of b) named
    free_before c alone caller tag is = dite (ℕ_discrete caller i)
        (λ (e : caller ≡ i). subst (λ (k : ℕ). ((state_of b).part k).held tag ≡ false) (sym e)
        (ap (λ (p : Part). p.held tag) (part_here b.queue at)
        ∙ not_holds (in_pool old) tag (more.fresh tag ((names tag).0 is))))
        (λ (ne : caller ≢ i).
        sym (ap (λ (p : Part). p.held tag) (c.others caller ne).part) ∙ alone caller tag ne is)

  -- so a call that gained tags, which no other caller holds now, won them
  pub wins : {kind : Kind} {named : ℕ → Bool} {Is : ℕ → Type 0} {n : ℕ} {alters : AloneSets → AloneSets → Type 0}
      → IsHandOf b.queue new → Gained b.queue b.hands.items kind named Is n alters old new → NobodyElseHolds now i named
      → Wins i kind named n alters (state_of b) now
  wins {named = named} {Is = Is} own g alone = let change = effect_on own g.effect in record {
    free = free_before named Is g.names g.more change alone;
    there = λ tag t. g.there tag ((g.names tag).0 t);
    change = change;
  }
