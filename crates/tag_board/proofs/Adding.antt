-- The counts of all hands, summed over both sets, are the sums over all callers of the state.
use Rattle.std.proofs.Common.{◌≡◌, ℕ, suc, ◌+◌, Bool, true, false, cond, List, [], ◌∷◌, length, map, get_or, All, is_some, refl, sym, ◌∙◌, arith}
use Rattle.tag_board.proofs.Uses.{sum_below, count_below, Record, sum_of, size_of, all_in_pool, in_pool, records_of, standing_of, Hand, QueueHand, Ordinary, Queue, Reserved, IsHandOf, pool_of, total_of, held_in_both, posted_in_both, standing_count, BalanceInBoth, record_in, part_of, state_of_all, Part, idle, got_in, back_in, posted_in, standing_in, sum_below-first}
use Rattle.std.proofs.lemmas.List.Recursion.{is_count_by}
use Rattle.tag_board.specs.States.{held_in}
use Rattle.tag_board.proofs.Sizings.{size_holds}

-- a number of each hand is that of its caller, so the sums are equal
parts_sum : (f : QueueHand ℕ → ℕ) (g : Part → ℕ) (hands : List (QueueHand ℕ))
    → All (λ (hand : QueueHand ℕ). f hand ≡ g (part_of hand)) hands
    → sum_of f hands ≡ sum_below (λ caller. g (get_or (map part_of hands) caller (idle false))) (length hands)
parts_sum f g [] same = refl
parts_sum f g (hand ∷ hands) same =
    let first = same 0 hand (omega arith) in
    let rest = parts_sum f g hands (λ k d l. same (suc k) d (omega arith)) in
    let split = sum_below-first (λ caller. g (get_or (map part_of (hand ∷ hands)) caller (idle false)))
    (length hands) in omega arith

-- a number of a hand's records, summed over both sets
abbrev pub in_both : (Record ℕ → ℕ) → Hand ℕ → ℕ
in_both n hand = n (record_in hand Ordinary) + n (record_in hand Reserved)

-- the same for several hands
abbrev pub sum_over : (Record ℕ → ℕ) → List (Hand ℕ) → ℕ
sum_over n hands = sum_of n (records_of hands Ordinary) + sum_of n (records_of hands Reserved)

-- that sum is the sum over the hands of the numbers of both sets
pub both_sets : (n : Record ℕ → ℕ) (hands : List (QueueHand ℕ))
    → sum_of (λ (hand : QueueHand ℕ). in_both n (in_pool hand)) hands ≡ sum_over n (all_in_pool hands)
both_sets n [] = refl
both_sets n (hand ∷ hands) = let rest = both_sets n hands in omega arith

abbrev stands_one : QueueHand ℕ → ℕ
stands_one hand = cond (is_some (standing_of hand)) 1 0

-- the sums over all callers are those over all hands
pub record AddUp (queue : Queue ℕ) (hands : List (QueueHand ℕ)) : Type 0 where
  pub got : got_in (state_of_all queue hands) ≡ sum_over (λ r. r.won) (all_in_pool hands)
  pub back : back_in (state_of_all queue hands) ≡ sum_over (λ r. r.back) (all_in_pool hands)
  pub held : held_in (state_of_all queue hands) ≡ held_in_both (all_in_pool hands)
  pub standing : standing_in (state_of_all queue hands) ≡ standing_count hands

pub add_up : (queue : Queue ℕ) (hands : List (QueueHand ℕ)) → All (IsHandOf queue) hands → AddUp queue hands
add_up queue hands own = record {
  got = sym (parts_sum (λ hand. in_both (λ r. r.won) (in_pool hand)) (λ p. p.won Ordinary + p.won Reserved) hands
      (λ k d l. refl)) ∙ both_sets (λ r. r.won) hands;
  back = sym (parts_sum (λ hand. in_both (λ r. r.back) (in_pool hand)) (λ p. p.back) hands (λ k d l. refl))
      ∙ both_sets (λ r. r.back) hands;
  held = sym (parts_sum (λ hand. in_both (λ r. size_of r.held) (in_pool hand))
      (λ p. count_below p.held (total_of (pool_of queue))) hands
      (λ k d l. sym (size_holds (pool_of queue) (in_pool (get_or hands k d)) (own k d l).0)))
      ∙ both_sets (λ r. size_of r.held) hands;
  standing = sym (parts_sum stands_one (λ p. cond p.stands 1 0) hands (λ k d l. refl))
      ∙ is_count_by (sum_of stands_one) (λ hand. is_some (standing_of hand)) refl
      (λ hand hands. one_more (is_some (standing_of hand)) (sum_of stands_one hands)) hands;
}
  where
    one_more : (b : Bool) (n : ℕ) → cond b 1 0 + n ≡ cond b (1 + n) n
    one_more true n = refl
    one_more false n = omega arith

-- if the tags of both sets balance, as many tags are posted as in both sets
pub posted_up : (queue : Queue ℕ) (hands : List (QueueHand ℕ)) → All (IsHandOf queue) hands → BalanceInBoth hands
    → posted_in (state_of_all queue hands) ≡ posted_in_both (all_in_pool hands)
posted_up queue hands own even = let sums = add_up queue hands own in
    let got = sums.got in let back = sums.back in let held = sums.held in
    let one = even.0 in let other = even.1 in omega arith
