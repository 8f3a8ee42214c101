-- What looks report of the state.
use Rattle.std.proofs.Common.{◌≡◌, ◌≢◌, ne_eqb, ℕ, zero, suc, ◌+◌, ◌-◌, ◌*◌, ◌<◌, ◌≤◌, ◌&&◌, Bool, false, cond, if◌then◌else◌, nat_lt, nat_eq, List, [], ◌++◌, length, take, drop, sym, ap, ◌∙◌, arith}
use Rattle.tag_board.proofs.Uses.{dite, ℕ_discrete, le-ltb, and_false, append-nil, drop_all, take_at, bit_at, Layout, word_of, place_of, count_below, Hand, QueueHand, Kind, Ordinary, Pool, Queue, Reserved, Shown, pool_of, layout_of, reserved_of, total_of, word_in, depth_of, state_of_all, one_if, one_if-le}
use Rattle.tag_pool.specs.Bits.{bit_in}
use Rattle.tag_pool.specs.Busy as busy
use Rattle.tag_pool.specs.Dumps as dumps
use Rattle.tag_pool.specs.Looks.{is_busy_in, is_aside_in}
use Rattle.tag_pool.specs.Shows as shows

-- a bit that is 0 is not 1
not_both : (a : Bool) (n : ℕ) → one_if (a && nat_eq n 0) + one_if (nat_eq n 1) ≤ 1
not_both a n = dite (ℕ_discrete n 1)
    (λ (is : n ≡ 1). let none : one_if (a && nat_eq n 0) ≡ 0 =
    ap (λ (t : Bool). one_if (a && t)) (ne_eqb n 0 (λ z. absurd (omega arith))) ∙ ap one_if (and_false a) in
    let few : one_if (nat_eq n 1) ≤ 1 = one_if-le (nat_eq n 1) in omega arith)
    (λ (ne : n ≢ 1). let none : one_if (nat_eq n 1) ≡ 0 = ap one_if (ne_eqb n 1 ne) in
    let few : one_if (a && nat_eq n 0) ≤ 1 = one_if-le (a && nat_eq n 0) in omega arith)

-- no tag is both busy and set aside
few_shown : (l : Layout) (found : List (ℕ × ℕ)) (n : ℕ)
    → count_below (is_busy_in l found) n + count_below (is_aside_in l found) n ≤ n
few_shown l found zero = omega arith
few_shown l found (suc n) =
    let before = few_shown l found n in let pair = word_in found (word_of l n) in
    let one = not_both (nat_eq (bit_at pair.0 (place_of l n)) 1) (bit_at pair.1 (place_of l n)) in omega arith

module _ (queue : Queue ℕ) (hands : List (QueueHand ℕ)) where
  abbrev pool : Pool ℕ
  pool = pool_of queue

  -- the number of tags of a set
  pub depth_is : (kind : Kind) → (layout_of pool kind).depth ≡ depth_of (state_of_all queue hands) kind
  depth_is Ordinary = omega arith
  depth_is Reserved = pool.reserved_is

  module _ (old new : Hand ℕ) where
    -- each bit past the last tag is 0
    pub past_busy : (bits : List ℕ) (count tag : ℕ) → busy.ListsBusy pool bits count old new → total_of pool ≤ tag
        → tag < 64 * length bits
        → bit_in 64 bits tag ≡ 0
    past_busy bits count tag b high low =
        let few : nat_lt tag (reserved_of pool) ≡ false = le-ltb tag (reserved_of pool) (omega arith) in
        let none : nat_lt tag (total_of pool) ≡ false = le-ltb tag (total_of pool) high in
        let l = is_busy_in (layout_of pool Ordinary) b.ordinary (tag - reserved_of pool) in
        b.bits_are tag low
        ∙ ap (λ (t : Bool). cond (if t then is_busy_in (layout_of pool Reserved) b.reserved tag else
        (nat_lt tag (total_of pool) && l)) 1 0) few
        ∙ ap (λ (t : Bool). cond (t && l) 1 0) none

    pub show_few : (kind : Kind) (shown : Shown) → shows.Shows pool kind shown old new
        → shown.busy + shown.cleared ≤ depth_of (state_of_all queue hands) kind
    show_few kind shown s =
        let few = few_shown (layout_of pool kind) s.found (layout_of pool kind).depth in let d = depth_is kind in
        let b = ap (λ (x : Shown). x.busy) s.shown_is in let a = ap (λ (x : Shown). x.cleared) s.shown_is in omega arith

    pub past_dump : (kind : Kind) (bytes : List ℕ) (tag : ℕ) → dumps.Packs (layout_of pool kind) kind bytes old new
        → depth_of (state_of_all queue hands) kind ≤ tag → bit_in 8 bytes tag ≡ 0
    past_dump kind bytes tag p high =
        let d = depth_is kind in let none : nat_lt tag (layout_of pool kind).depth ≡ false =
        le-ltb tag (layout_of pool kind).depth (omega arith) in
        p.bits_are tag ∙ ap (λ (t : Bool). cond (t && is_busy_in (layout_of pool kind) p.found tag) 1 0) none

-- what a call left in a list that it filled whole
pub whole_list : (items into : List ℕ) (n : ℕ) → length into ≡ n → take n (into ++ drop (length into) items) ≡ into
whole_list items into n long = take_at into (drop (length into) items) n long

-- the same, for a list with this many items
pub filled : (items into bytes : List ℕ) (n count : ℕ) → length items ≡ n → into ≡ bytes ++ drop count items
    → length bytes ≡ count
    → count ≡ n → bytes ≡ take n (into ++ drop (length into) items)
filled items into bytes n count long is few same =
    let none : drop count items ≡ [] = drop_all count items (omega arith) in
    let e : into ≡ bytes = is ∙ ap (λ (l : List ℕ). bytes ++ l) none ∙ append-nil bytes in
    sym (whole_list items into n (ap length e ∙ few ∙ same) ∙ e)
