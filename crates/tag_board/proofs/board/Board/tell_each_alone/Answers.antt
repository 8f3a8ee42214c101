-- Each bit of the mask is a tag that the caller holds, so `tell_alone` applies to each, and together they are the run.
use Rattle.std.proofs.Common.{◌≡◌, ◌≢◌, ℕ, ◌+◌, ◌*◌, ◌%◌, ◌^◌, ◌<◌, nat_eq, bit_and, sym, ap, ◌∙◌, subst, arith}
use Rattle.tag_board.proofs.Uses.{one_shl, bit_at, dite, ℕ_discrete, Board, in_pool, pool_of, state_of, NobodyElseHolds}
use Rattle.tag_search.proofs.PlainFacts.{clear_of_mask, taken_of_mask}
use Rattle.tag_board.proofs.Batching.{in_run, all_in_run}
use Rattle.tag_board.proofs.Holders.{holder}
use Rattle.tag_board.proofs.Ranges.{tag_low}
use Rattle.tag_board.proofs.Seats.{own_here, sits}
use Rattle.tag_board.proofs.board.Board.tell_each_alone.Goals as goal
use Rattle.tag_board.proofs.board.Board.tell_each_alone.Goals.{then-mask-place-ne0, else-mask-place-ne0}

-- a nonzero test means that the mask has a bit at this place
bit_there : (mask place : ℕ) → place < 64 → bit_and mask (1 * 2 ^ place % 2 ^ 64) ≢ 0 → bit_at mask place ≡ 1
bit_there mask place low some = taken_of_mask mask place (λ z. some (ap (bit_and mask) (one_shl place 64 low) ∙ z))

-- and a zero test that it has none
no_bit_there : (mask place : ℕ) → place < 64 → bit_and mask (1 * 2 ^ place % 2 ^ 64) ≡ 0 → bit_at mask place ≡ 0
no_bit_there mask place low none = clear_of_mask mask place (sym (ap (bit_and mask) (one_shl place 64 low)) ∙ none)

pub overflow_add-first : goal.overflow_add-first
overflow_add-first c =
    let b = c.args.self.now in let hands = b.hands.items in let place : ℕ = c.loop-place.place in
    let first : ℕ = c.args.first in
    let one = bit_there c.args.mask place c.loop-place-test.true c.if-mask-place-ne0.true in
    let h = holder hands c.args.caller (first + place)
    (c.requires.held (first + place) (in_run first c.args.mask place one)) in
    let low = tag_low (pool_of b.queue) (in_pool h.hand) (own_here b.queue (sits h.within h.here) b.own).0 (first + place)
    h.holds in
    let fits = (pool_of b.queue).fits in let all = (pool_of b.queue).total_is in omega arith

pub tell_alone-requires-clause-held : goal.tell_alone-requires-clause-held
tell_alone-requires-clause-held c =
    let place : ℕ = c.loop-place.place in let first : ℕ = c.args.first in
    let one = bit_there c.args.mask place c.loop-place-test.true c.if-mask-place-ne0.true in
    ap (λ (b : Board). ((state_of b).part c.args.caller).held (first + place)) c.loop-place.invariant.same
    ∙ c.requires.held (first + place) (in_run first c.args.mask place one)

pub loop-place-preserved : goal.loop-place-preserved
loop-place-preserved c = let place : ℕ = c.loop-place.place in let inv = c.loop-place.invariant in
    elim c.if-mask-place-ne0.branch [
      | then-mask-place-ne0 w ↦ record {
        same = w.self-is ∙ w.tell_alone.ensures.same ∙ inv.same;
        alone = λ k less one. dite (ℕ_discrete k place)
            (λ (is : k ≡ place). subst (λ (n : ℕ). NobodyElseHolds (state_of c.args.self.now) c.args.caller
            (nat_eq (c.args.first + n))) (sym is)
            (subst (λ (b : Board). NobodyElseHolds (state_of b) c.args.caller (nat_eq (c.args.first + place))) inv.same
            w.tell_alone.ensures.alone))
            (λ (far : k ≢ place). inv.alone k (omega arith) one);
      }
      | else-mask-place-ne0 w ↦ record {
        same = w.self-is ∙ inv.same;
        alone = λ k less one. let none = no_bit_there c.args.mask place c.loop-place-test.true w.if-mask-place-ne0.false
            in dite (ℕ_discrete k place)
            (λ (is : k ≡ place). let e : bit_at c.args.mask k ≡ 0 = ap (bit_at c.args.mask) is ∙ none in
            absurd (omega arith))
            (λ (far : k ≢ place). inv.alone k (omega arith) one);
      }
    ]

pub returns-clause-alone : goal.returns-clause-alone
returns-clause-alone c = let end = c.loop-place-test.false in
    all_in_run c.args.first c.args.mask (state_of c.args.self.now) c.args.caller (omega arith)
    (λ k low one. c.loop-place.invariant.alone k (omega arith) one)
