-- The state after a resize, and why a resize is refused.
use Rattle.std.proofs.Common.{◌≡◌, ◌≢◌, ℕ, zero, suc, ◌+◌, ◌<◌, ◌≤◌, ◌↔◌, true, false, List, [], ◌∷◌, length, map, get_or, replicate, All, is_some, refl, sym, Ok, ap, ◌∙◌, ◌-◌, arith, ⊎_elim}
use Rattle.tag_board.proofs.Uses.{cases_lt, length-map, get_or-map, get_or_past, some, some-injective, get_elem?, at_map, HasAll, word_bits, words, Record, sum_of, size_of, entry, entry_or, all_at, all_in_pool, Caller, caller_of, group_waiter_of, Hand, Hint, hint_of, in_pool, Queue, QueueHand, Kind, Map, Ordinary, Pool, pool_of, Reserved, IsHandOf, layout_of, least_of, reserved_of, SameCounts, shape_of, side_of, teller_of, total_of, won_of, number_of, hands_of, numbers_of, held_in_both, BalanceInBoth, HasMap, record_in, holds, part_of, state_of_all, waiter_of, newcomer, AreOrdered, NobodyHolds, Part, idle, AloneResizes, AloneSets, no_sets, set_left, sets_of, terms_of}
use Rattle.tag_core.specs.Callers as core
use Rattle.tag_core.specs.Reopening.{reopened_record}
use Rattle.step_ledger.proofs.Seats.{within}
use Rattle.step_ledger.specs.Gather.{IsLeastMissing}
use Rattle.tag_search.proofs.SharedFacts.{count_ones-zero}
use Rattle.wake_book.specs.Groups.{standing_of as standing_in_groups}
use Rattle.tag_pool.proofs.StillSame.{number_kept}
use Rattle.tag_pool.specs.declared.resizes.ResizeCause.{ResizeCause}
use Rattle.tag_pool.specs.declared.resizes.ResizeCause.TheVariants.{Missing, DepthTooLarge, InUse, Waiting, Memory}
use Rattle.tag_queue.specs.Hands.{AreUnchanged, IsUnchanged}
use Rattle.tag_queue.specs.Resizing as resizing
use Rattle.tag_board.specs.Resizes.{AreUnused, RefusesResize, MayResize, Resizes}
use Rattle.tag_board.proofs.AloneSteps.{fresh}
use Rattle.tag_board.proofs.Adding.{add_up, both_sets, in_both, posted_up}
use Rattle.tag_board.proofs.Handfuls.{part_ext}
use Rattle.tag_board.proofs.Holdings.{holds_same}
use Rattle.tag_board.proofs.Sizings.{holds_none}
use Rattle.tag_board.proofs.Waiters.{as_it_was}

-- a list of zero masks has no bit
size_none : (n : ℕ) → size_of (replicate n 0) ≡ 0
size_none zero = refl
size_none (suc n) = let one = count_ones-zero in let rest = size_none n in omega arith

module _ {A : Type 0} where
  -- the terms of a sum that is 0 are all 0
  all_none : (f : A → ℕ) (xs : List A) → sum_of f xs ≡ 0 → All (λ x. f x ≡ 0) xs
  all_none f [] none k d low = absurd (omega arith)
  all_none f (x ∷ xs) none zero d low = omega arith
  all_none f (x ∷ xs) none (suc k) d low = all_none f xs (omega arith) k d (omega arith)

-- hands of which the same is seen one by one, before and after, look the same to each caller
same_seen : {B : Type 0} (before after : QueueHand ℕ → B) (none : B) (old new : List (QueueHand ℕ))
    → length new ≡ length old
    → ((n : ℕ) (a b : QueueHand ℕ) → get_elem? old n ≡ some a → get_elem? new n ≡ some b → after b ≡ before a)
    → (caller : ℕ) → get_or (map after new) caller none ≡ get_or (map before old) caller none
same_seen before after none old new long each caller = ⊎_elim
    (λ (low : caller < length old).
    let a = entry old caller low in let b = entry new caller (omega arith) in
    get_or-map after new caller b.0 none (omega arith)
    ∙ each caller (get_or old caller a.0) (get_or new caller b.0)
    (entry_or old caller a.0 low) (entry_or new caller b.0 (omega arith))
    ∙ sym (get_or-map before old caller a.0 none low))
    (λ (high : length old ≤ caller).
    get_or_past (map after new) caller none (let z = length-map new after in omega arith)
    ∙ sym (get_or_past (map before old) caller none (let z = length-map old before in omega arith)))
    (cases_lt caller (length old))

-- a queue on the same terms, with such hands, makes up the state with this total and these sets
same_terms : (old new : Queue ℕ) (olds news : List (QueueHand ℕ)) (total : ℕ) (alone : AloneSets)
    → terms_of new (length news) ≡ terms_of old (length olds) → total_of (pool_of new) ≡ total
    → (state_of_all new news).alone ≡ alone → length news ≡ length olds
    → ((n : ℕ) (a b : QueueHand ℕ) → get_elem? olds n ≡ some a → get_elem? news n ≡ some b → part_of b ≡ part_of a)
    → ((n : ℕ) (a b : QueueHand ℕ) → get_elem? olds n ≡ some a → get_elem? news n ≡ some b → SameCounts a b)
    → state_of_all new news ≡ record (state_of_all old olds) { total = total; alone = alone }
same_terms old new olds news total alone terms all sets long each counts = λ j. record {
  terms = terms j;
  total = all j;
  part = λ caller. same_seen part_of part_of (idle false) olds news long each caller j;
  waiter = λ caller. same_seen waiter_of waiter_of newcomer olds news long
      (λ n a b p q. as_it_was a b (counts n a b p q)) caller j;
  alone = sets j;
}

-- hands with the same numbers as before are as many, and in the same order
count_kept : (old new : List (QueueHand ℕ)) → numbers_of new ≡ numbers_of old → length new ≡ length old
count_kept old new same =
    sym (length-map new number_of) ∙ ap (λ (ns : List ℕ). length ns) same ∙ length-map old number_of

pub order_kept : (old new : List (QueueHand ℕ)) → numbers_of new ≡ numbers_of old → AreOrdered old → AreOrdered new
order_kept old new same ordered n low = let long = count_kept old new same in
    ap (λ (ns : List ℕ). get_or ns n 0) same ∙ ordered n (omega arith)

-- a hand that counts what another counts has the same part
part_kept : (a b : QueueHand ℕ) → ((tag : ℕ) → holds (in_pool b) tag ≡ holds (in_pool a) tag)
    → ((kind : Kind) → (won_of (in_pool b) kind ≡ won_of (in_pool a) kind)
    × ((record_in (in_pool b) kind).back ≡ (record_in (in_pool a) kind).back))
    → SameCounts a b → hint_of (in_pool b) Ordinary ≡ hint_of (in_pool a) Ordinary → part_of b ≡ part_of a
part_kept a b held counts same hint = part_ext (part_of b) (part_of a) held (λ kind. (counts kind).0)
    (λ j. (counts Ordinary).1 j + (counts Reserved).1 j) (ap (λ w. is_some (standing_in_groups w)) same.1)
    (ap (λ (h : Hint). h.round_robin) hint)

-- an unchanged hand has the same part
same_part : (a b : QueueHand ℕ) → IsUnchanged a b → part_of b ≡ part_of a
same_part a b u = part_kept a b (holds_same (in_pool a) (in_pool b) u.pool.same)
    (λ kind. let known = (u.pool.sets kind).caller.known in (
      ap (λ (r : Record ℕ). r.won) known,
      ap (λ (r : Record ℕ). r.back) known,
    )) u.counts (u.pool.sets Ordinary).hint

module _ (old new : Queue ℕ) (olds news : List (QueueHand ℕ)) (same : resizing.IsSame old new)
    (kept : AreUnchanged olds news) where
  -- unchanged hands make up the same state
  pub state_kept : state_of_all new news ≡ state_of_all old olds
  state_kept = same_terms old new olds news (total_of (pool_of old)) (state_of_all old olds).alone (λ j. record {
    reserved = reserved_of (same.pool j);
    callers = kept.count j;
    life = λ kind. (shape_of (same.pool j) kind).life;
    cap = (same.book j).limits.cap;
    least = least_of (same.pool j);
    bits = λ kind. word_bits (layout_of (same.pool j) kind);
  }) (ap total_of same.pool) (same_seen (sets_of old) (sets_of new) no_sets olds news kept.count (λ n a b p q.
      let u = kept.each n a b p q in λ j. λ kind. set_left (layout_of (same.pool j) kind)
      ((u.pool.sets kind).caller.known j).steps ((u.pool.sets kind).hint j)) 0) kept.count
      (λ n a b p q. same_part a b (kept.each n a b p q)) (λ n a b p q. (kept.each n a b p q).counts)

  -- and are in the order of their numbers
  pub order_unchanged : AreOrdered olds → AreOrdered news
  order_unchanged ordered n low = same_seen number_of number_of 0 olds news kept.count
      (λ n a b p q. let u = kept.each n a b p q in
      number_kept (side_of (in_pool a) Ordinary) (side_of (in_pool b) Ordinary) (u.pool.sets Ordinary)) n
      ∙ ordered n (let long = kept.count in omega arith)

-- two lists that a function maps to the same list have equal images at each index
same_at : {A B : Type 0} (f : A → B) (xs ys : List A) (n : ℕ) (x y : A) → map f ys ≡ map f xs
    → get_elem? xs n ≡ some x → get_elem? ys n ≡ some y → f y ≡ f x
same_at {A} {B} f xs ys n x y same p q = some-injective (f y) (f x)
    (sym (at_map f ys n y q) ∙ ap (λ (l : List B). get_elem? l n) same ∙ at_map f xs n x p)

-- no caller holds a tag if no hand does
nobody_holds : (queue : Queue ℕ) (hands : List (QueueHand ℕ))
    → ((n : ℕ) (hand : QueueHand ℕ) → get_elem? hands n ≡ some hand → (tag : ℕ) → holds (in_pool hand) tag ≡ false)
    → NobodyHolds (state_of_all queue hands) (λ tag. true)
nobody_holds queue hands none caller tag named = ⊎_elim
    (λ (low : caller < length hands). let hand = entry hands caller low in
    ap (λ (p : Part). p.held tag) (get_or-map part_of hands caller hand.0 (idle false) low)
    ∙ none caller (get_or hands caller hand.0) (entry_or hands caller hand.0 low) tag)
    (λ (high : length hands ≤ caller).
    ap (λ (p : Part). p.held tag)
    (get_or_past (map part_of hands) caller (idle false) (let z = length-map hands part_of in omega arith)))
    (cases_lt caller (length hands))

-- a hand that continues: its ordinary side starts anew and its reserved one is unchanged; it keeps its hints, its
-- completions and its waits
pub record GoesOn (new : Queue ℕ) (a b : QueueHand ℕ) : Type 0 where
  pub known : record_in (in_pool b) Ordinary
      ≡ reopened_record (shape_of (pool_of new) Ordinary) (record_in (in_pool a) Ordinary)
  pub other : core.IsUnchanged (caller_of (in_pool a) Reserved) (caller_of (in_pool b) Reserved)
  pub hints : (kind : Kind) → hint_of (in_pool b) kind ≡ hint_of (in_pool a) kind
  pub counts : SameCounts a b

module _ (old new : Queue ℕ) (olds news : List (QueueHand ℕ)) (total : ℕ)
    (is : resizing.IsResized old olds total new news) where
  pub goes_on : (n : ℕ) (a b : QueueHand ℕ) → get_elem? olds n ≡ some a → get_elem? news n ≡ some b → GoesOn new a b
  goes_on n a b p q =
      let before = all_in_pool olds in let after = all_in_pool news in
      let here = at_map in_pool olds n a p in let there = at_map in_pool news n b q in
      let caller_at : Kind → Hand ℕ → Caller ℕ = λ kind hand. caller_of hand kind in record {
        known = (is.pool.ordinary.callers.each n (caller_of (in_pool a) Ordinary) (caller_of (in_pool b) Ordinary)
            (at_map (caller_at Ordinary) before n (in_pool a) here)
            (at_map (caller_at Ordinary) after n (in_pool b) there)).1;
        other = is.pool.reserved_callers.each n (caller_of (in_pool a) Reserved) (caller_of (in_pool b) Reserved)
            (at_map (caller_at Reserved) before n (in_pool a) here)
            (at_map (caller_at Reserved) after n (in_pool b) there);
        hints = λ kind. same_at (λ (hand : Hand ℕ). hint_of hand kind) before after n (in_pool a) (in_pool b)
            (is.pool.hints kind) here there;
        counts = (
          same_at teller_of olds news n a b is.tellers p q,
          same_at group_waiter_of olds news n a b is.waiters p q,
        );
      }

  -- there are as many hands as before
  pub long : length news ≡ length olds
  long = count_kept olds news is.numbers

  module _ (unused : held_in_both (all_in_pool olds) ≡ 0) where
    -- a hand that continues held nothing, and holds nothing
    free_there : (n : ℕ) (a b : QueueHand ℕ) → get_elem? olds n ≡ some a → get_elem? news n ≡ some b → (tag : ℕ)
        → (holds (in_pool a) tag ≡ false) × (holds (in_pool b) tag ≡ false)
    free_there n a b p q tag =
        let g = goes_on n a b p q in
        let size : QueueHand ℕ → ℕ = λ hand. in_both (λ r. size_of r.held) (in_pool hand) in
        let empty : size a ≡ 0 = all_at (λ (h : QueueHand ℕ). size h ≡ 0) olds
        (all_none size olds (both_sets (λ r. size_of r.held) olds ∙ unused)) n a p in (
          holds_none (in_pool a) (omega arith) (omega arith) tag,
          holds_none (in_pool b)
              (ap (λ (r : Record ℕ). size_of r.held) g.known ∙ size_none (words (layout_of (pool_of new) Ordinary)))
              (ap (λ (r : Record ℕ). size_of r.held) g.other.known ∙ omega arith) tag,
        )

    part_there : (n : ℕ) (a b : QueueHand ℕ) → get_elem? olds n ≡ some a → get_elem? news n ≡ some b
        → part_of b ≡ part_of a
    part_there n a b p q =
        let g = goes_on n a b p q in let other = g.other.known in
        part_kept a b (λ tag. let free = free_there n a b p q tag in free.1 ∙ sym free.0) (elim [
          | Ordinary ↦ (ap (λ (r : Record ℕ). r.won) g.known, ap (λ (r : Record ℕ). r.back) g.known)
          | Reserved ↦ (ap (λ (r : Record ℕ). r.won) other, ap (λ (r : Record ℕ). r.back) other)
        ]) g.counts (g.hints Ordinary)

    life_kept : (kind : Kind) → (shape_of (pool_of new) kind).life ≡ (shape_of (pool_of old) kind).life
    life_kept Ordinary = is.pool.ordinary.next.life_is
    life_kept Reserved = ap (λ (m : Map ℕ). m.shape.life) is.pool.rest.reserved

    bits_kept : (kind : Kind) → word_bits (layout_of (pool_of new) kind) ≡ word_bits (layout_of (pool_of old) kind)
    bits_kept Ordinary = ap word_bits is.pool.ordinary.next.layout_is
    bits_kept Reserved = ap (λ (m : Map ℕ). word_bits m.shape.layout) is.pool.rest.reserved

    -- only the total of the state changes, and both sets
    world_resized : state_of_all new news
        ≡ record (state_of_all old olds) { total = total; alone = (state_of_all new news).alone }
    world_resized = same_terms old new olds news total (state_of_all new news).alone (λ j. record {
      reserved = is.pool.rest.split j;
      callers = long j;
      life = λ kind. life_kept kind j;
      cap = (is.rest.book.limits j).cap;
      least = is.pool.rest.least j;
      bits = λ kind. bits_kept kind j;
    }) is.pool.rest.total_is refl long part_there (λ n a b p q. (goes_on n a b p q).counts)

    -- no caller holds a tag
    world_free : NobodyHolds (state_of_all new news) (λ tag. true)
    world_free = nobody_holds new news (λ n b q tag.
        let a = entry olds n (let low = within news n b q in let same = long in omega arith) in
        (free_there n a.0 b a.1 q tag).1)

  -- all hands are present
  pub every_there : length olds ≡ hands_of old → length news ≡ hands_of new
  every_there all = long ∙ all ∙ sym is.pool.ordinary.next.callers_is

-- the only hand goes on with a new ordinary set
sets_resized : (old new : Queue ℕ) (olds news : List (QueueHand ℕ)) (total : ℕ)
    → resizing.IsResized old olds total new news
    → length olds ≡ 1 → AloneResizes total (state_of_all old olds).alone (state_of_all new news).alone
sets_resized old new [] news total is one = absurd (omega arith)
sets_resized old new (a ∷ olds) [] total is one = let same = long old new (a ∷ olds) [] total is in absurd (omega arith)
sets_resized old new (a ∷ olds) (b ∷ news) total is one =
    let g = goes_on old new (a ∷ olds) (b ∷ news) total is 0 a b refl refl in
    let pool : Pool ℕ = pool_of old in
    let layout = is.pool.ordinary.next.layout_is
    ∙ (λ j. record { depth = total - sym pool.reserved_is j; shift = (layout_of pool Ordinary).shift }) in (
      (λ j. set_left (layout j) (g.known j).steps (g.hints Ordinary j)) ∙ fresh _ _,
      (λ j. set_left (is.pool.rest.reserved j).shape.layout (g.other.known j).steps (g.hints Reserved j)),
    )

-- the state after a resize
pub state_resized : (old new : Queue ℕ) (olds news : List (QueueHand ℕ)) (total : ℕ)
    → resizing.IsResized old olds total new news → MayResize (state_of_all old olds) total
    → held_in_both (all_in_pool olds) ≡ 0
    → Resizes total (state_of_all old olds) (Ok tt) (state_of_all new news)
state_resized old new olds news total is may unused = (
  may,
  world_resized old new olds news total is unused,
  world_free old new olds news total is unused,
  sets_resized old new olds news total is,
)

module _ (queue : Queue ℕ) (hands : List (QueueHand ℕ)) (own : All (IsHandOf queue) hands) where
  -- no tag is in use if the hands have none in use
  unused : resizing.AreUnused hands → AreUnused (state_of_all queue hands)
  unused none = let sums = add_up queue hands own in
      let got = sums.got in let back = sums.back in let held = sums.held in
      let a = none.0 in let b = none.1 in (omega arith, omega arith)

  used : BalanceInBoth hands → AreUnused (state_of_all queue hands) → resizing.AreUnused hands
  used even none = (sym (add_up queue hands own).held ∙ none.0, sym (posted_up queue hands own even) ∙ none.1)

  -- no cause refuses the resize of the board if none refuses that of the queue
  pub may_resize : (total : ℕ) → resizing.MayResize queue hands total → MayResize (state_of_all queue hands) total
  may_resize total may = (may.0.1, unused may.1, (add_up queue hands own).standing ∙ may.2)

  -- what the queue tells of the causes of its refusals
  pub record AreTold (total : ℕ) (told : ResizeCause → Type 0) : Type 0 where
    pub missing : (n : ℕ) → told (Missing n) ↔ IsLeastMissing (numbers_of hands) (hands_of queue) n
    pub too_deep : told DepthTooLarge
        ↔ (HasAll (numbers_of hands) (hands_of queue) × resizing.IsOutOfRange queue total)
    pub in_use : (held posted : ℕ) → told (InUse held posted)
        ↔ (HasMap queue hands total × resizing.AreUsed hands held posted)
    pub waiting : (n : ℕ) → told (Waiting n) ↔ (HasMap queue hands total × resizing.AreWaiting hands n)

  -- a cause that refuses the resize of the queue refuses that of the board
  pub refuses : (total : ℕ) (told : ResizeCause → Type 0) → AreTold total told
      → (HasMap queue hands total → BalanceInBoth hands)
      → HasAll (numbers_of hands) (hands_of queue) → (cause : ResizeCause) → cause ≢ Memory → told cause
      → RefusesResize (state_of_all queue hands) total cause
  refuses total told are even all (Missing n) other is =
      let least = (are.missing n).0 is in absurd (least.1 (all n least.0))
  refuses total told are even all DepthTooLarge other is = (are.too_deep.0 is).1
  refuses total told are even all (InUse held posted) other is =
      let cause = (are.in_use held posted).0 is in let balance = even cause.0 in (
        cause.0.1,
        (λ none. cause.1.2 (used balance none)),
        cause.1.0 ∙ sym (add_up queue hands own).held,
        cause.1.1 ∙ sym (posted_up queue hands own balance),
      )
  refuses total told are even all (Waiting count) other is = let cause = (are.waiting count).0 is in
      (cause.0.1, unused cause.1.0, cause.1.1 ∙ sym (add_up queue hands own).standing, cause.1.2)
  refuses total told are even all Memory other is = absurd (other refl)
