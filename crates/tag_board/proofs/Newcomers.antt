-- The state of a new queue, on which nothing has been done.
use Rattle.std.proofs.Common.{◌≡◌, ℕ, ◌<◌, List, [], length, map, get_or, is_some, false, refl, sym, ap, ◌∙◌, subst, arith}
use Rattle.tag_board.proofs.Uses.{get_or-map, some, get_elem?, at_map, Record, all_at, entry, entry_or, all_in_pool, AreUntouched, back_in_both, caller_of, AloneSets, group_waiter_of, Hand, hands_of, Hint, in_pool, Kind, layout_of, no_sets, Options, Ordinary, Pool, pool_of, Queue, QueueHand, Reserved, number_of, record_in, part_of, AreOrdered, waiter_of, Starts, newcomer, idle, reserved_of, set_left, sets_of, state_of_all, total_of, won_of}
use Rattle.wake_book.specs.Groups.{IsNew}
use Rattle.tag_pool.specs.Opening.{HasFirstHints, ordinary_part, reserved_part}
use Rattle.tag_queue.specs.Opening as opening
use Rattle.tag_board.specs.Opening.{IsOpen}
use Rattle.tag_board.proofs.AloneSteps.{fresh}
use Rattle.tag_board.proofs.Handfuls.{part_ext}
use Rattle.tag_board.proofs.Holdings.{not_holds}

module _ (options : Options) (cap : ℕ) (queue : Queue ℕ) (hands : List (QueueHand ℕ))
    (opened : opening.IsOpen options cap queue hands) where
  abbrev pool : Pool ℕ
  pool = pool_of queue

  -- a new hand has counted nothing in a set, and made no step there
  record IsFresh (hand : Hand ℕ) (kind : Kind) : Type 0 where
    won : won_of hand kind ≡ 0
    back : (record_in hand kind).back ≡ 0
    steps : (record_in hand kind).steps ≡ []

  fresh_in : (k : ℕ) (hand : QueueHand ℕ) → get_elem? hands k ≡ some hand → (kind : Kind) → IsFresh (in_pool hand) kind
  fresh_in k hand at = elim [
    | Ordinary ↦ (let set = opened.pool.ordinary in let new = (set.callers.each k (caller_of (in_pool hand) Ordinary)
        (at_map ordinary_part (all_in_pool hands) k (in_pool hand) (at_map in_pool hands k hand at))).1 in record {
          won = ap (λ (r : Record ℕ). r.won) new ∙ set.tags.starts.0 k;
          back = ap (λ (r : Record ℕ). r.back) new ∙ set.tags.starts.1 k;
          steps = ap (λ (r : Record ℕ). r.steps) new;
        })
    | Reserved ↦ (let set = opened.pool.reserved in let new = (set.callers.each k (caller_of (in_pool hand) Reserved)
        (at_map reserved_part (all_in_pool hands) k (in_pool hand) (at_map in_pool hands k hand at))).1 in record {
          won = ap (λ (r : Record ℕ). r.won) new ∙ set.tags.starts.0 k;
          back = ap (λ (r : Record ℕ). r.back) new ∙ set.tags.starts.1 k;
          steps = ap (λ (r : Record ℕ). r.steps) new;
        })
  ]

  -- its hints are at the first tags
  first_hint : (k : ℕ) (hand : QueueHand ℕ) → get_elem? hands k ≡ some hand → HasFirstHints options pool (in_pool hand)
  first_hint k hand at = all_at (HasFirstHints options pool) (all_in_pool hands) opened.pool.hints k (in_pool hand)
      (at_map in_pool hands k hand at)

  -- it is in no group, and enters group 0 first
  new_waiter : (k : ℕ) (hand : QueueHand ℕ) → get_elem? hands k ≡ some hand → IsNew (group_waiter_of hand)
  new_waiter k hand at = all_at IsNew (map group_waiter_of hands) opened.counts.groups.new k (group_waiter_of hand)
      (at_map group_waiter_of hands k hand at)

  -- a new hand is a caller that has done nothing
  part_idle : (k : ℕ) (d : QueueHand ℕ) → k < length hands → part_of (get_or hands k d) ≡ idle options.round_robin
  part_idle k d low =
      let hand = get_or hands k d in let at = entry_or hands k d low in
      let one = fresh_in k hand at Ordinary in let other = fresh_in k hand at Reserved in
      let back : back_in_both (in_pool hand) ≡ 0 = let a = one.back in let b = other.back in omega arith in
      let won : (kind : Kind) → won_of (in_pool hand) kind ≡ 0 = elim [ Ordinary ↦ one.won | Reserved ↦ other.won ] in
      part_ext (part_of hand) (idle options.round_robin)
      (λ tag. not_holds (in_pool hand) tag (opened.none_held k d low tag)) won back
      (ap is_some (new_waiter k hand at).0)
      (ap (λ (h : Hint). h.round_robin) (first_hint k hand at Ordinary))

  -- there are as many hands as callers, in the order of their numbers
  pub every : length hands ≡ hands_of queue
  every = opened.count ∙ sym opened.pool.ordinary.tags.callers_is

  pub in_order : AreOrdered hands
  in_order n low = let hand = entry hands n low in
      get_or-map number_of hands n hand.0 0 low
      ∙ opened.ordered n (get_or hands n hand.0) (entry_or hands n hand.0 low)

  -- the range is the one asked for, and so is its reserved part
  pub sizes : (total_of pool ≡ options.depth) × (reserved_of pool ≡ options.reserved)
  sizes = let laid = opened.pool.laid_out in let all = laid.depths in let first = laid.first_depth in
      let is = pool.reserved_is in (omega arith, omega arith)

  -- a new hand is a caller that is in no group, and enters group 0 first
  starts : (k : ℕ) → k < length hands → Starts (get_or (map waiter_of hands) k newcomer)
  starts k low = let hand = entry hands k low in let at = entry_or hands k hand.0 low in
      let new = new_waiter k (get_or hands k hand.0) at in
      subst Starts (sym (get_or-map waiter_of hands k hand.0 newcomer low)) record { outside = new.0; first = new.1 }

  -- the sets of a new hand are untouched
  untouched_at : (hand : QueueHand ℕ) → get_elem? hands 0 ≡ some hand → (alone : AloneSets)
      → alone ≡ sets_of queue hand → AreUntouched options alone
  untouched_at hand at alone is = subst (AreUntouched options) (sym is) record {
    ordinary_layout = (
      let e = sizes in let all = opened.pool.laid_out.depths in
          let first = opened.pool.laid_out.first_depth in omega arith,
      opened.pool.laid_out.rest_shift,
    );
    reserved_layout = (opened.pool.laid_out.first_depth, opened.pool.laid_out.first_shift);
    untouched = λ kind. (λ j. set_left (layout_of pool kind) ((fresh_in 0 hand at kind).steps j)
        (first_hint 0 hand at kind j)) ∙ fresh _ _;
  }

  sets_new : length hands ≡ 1 → AreUntouched options (state_of_all queue hands).alone
  sets_new one = let low : 0 < length hands = omega arith in let hand = entry hands 0 low in
      untouched_at (get_or hands 0 hand.0) (entry_or hands 0 hand.0 low) (state_of_all queue hands).alone
      (get_or-map (sets_of queue) hands 0 hand.0 no_sets low)

  -- the state of a board that was just opened
  pub opens : IsOpen options cap (state_of_all queue hands)
  opens = record {
    total_is = sizes.0;
    reserved_is = sizes.1;
    callers_are = opened.count;
    life_is = elim [ Ordinary ↦ opened.pool.ordinary.tags.life_is | Reserved ↦ opened.pool.reserved.tags.life_is ];
    cap_is = opened.counts.book.cap_is;
    least_is = opened.pool.least;
    ordinary_bits = ((layout_of pool Ordinary).shift, opened.pool.laid_out.rest_shift, refl);
    reserved_bits = ((layout_of pool Reserved).shift, opened.pool.laid_out.first_shift, refl);
    idle_all = λ caller low. let hand = entry hands caller low in
        get_or-map part_of hands caller hand.0 (idle false) low ∙ part_idle caller hand.0 low;
    outside = starts;
    untouched = sets_new;
  }
