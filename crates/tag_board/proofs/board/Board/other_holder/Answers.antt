-- The tag is in range since its caller holds it, so every hand can be tested. Those that were do not hold it.
use Rattle.std.proofs.Common.{◌≡◌, ◌≢◌, ℕ, ◌<◌, length, sym, subst, arith, false}
use Rattle.tag_board.proofs.Uses.{dite, ℕ_discrete, both_ways, in_pool, IsHandOf, Holds, pool_of, state_of}
use Rattle.tag_board.proofs.Holders.{holder, unheld_at}
use Rattle.tag_board.proofs.Ranges.{tag_there}
use Rattle.tag_board.proofs.Seats.{own_here, sits}
use Rattle.tag_board.proofs.board.Board.other_holder.Goals as goal
use Rattle.tag_board.proofs.board.Board.other_holder.Goals.{else-other-caller-via-then-other-caller+else-holds, else-other-caller-via-else-other-caller}

pub holds-requires : goal.holds-requires
holds-requires c =
    let b = c.args.self.now in let hands = b.hands.items in
    let h = holder hands c.args.caller c.args.tag c.requires in let ok = b.hands.ok in
    let other = c.index.result.now in let low : c.loop-other.other < length hands = omega arith in
    let there : IsHandOf b.queue other = own_here b.queue (sits low c.index.ensures) b.own in
    let one : IsHandOf b.queue h.hand = own_here b.queue (sits h.within h.here) b.own in
    tag_there (pool_of b.queue) (in_pool h.hand) (in_pool other) one.0 there.0 c.args.tag h.holds

pub loop-other-preserved : goal.loop-other-preserved
loop-other-preserved c = λ k less ne. let b = c.args.self.now in let ok = b.hands.ok in
    elim c.else-other-caller.branch [
      | else-other-caller-via-then-other-caller+else-holds w ↦ dite (ℕ_discrete k c.loop-other.other)
          (λ (is : k ≡ c.loop-other.other). subst (λ (n : ℕ). ((state_of b).part n).held c.args.tag ≡ false) (sym is)
          (unheld_at b.queue b.hands.items c.loop-other.other w.index.result.now (omega arith) w.index.ensures c.args.tag
          (λ (h : Holds (in_pool w.index.result.now) c.args.tag). both_ways w.holds.result w.if-holds.false
          (w.holds.ensures.1 h))))
          (λ (far : k ≢ c.loop-other.other). c.loop-other.invariant k (omega arith) ne)
      | else-other-caller-via-else-other-caller w ↦ let is : c.loop-other.other ≡ c.args.caller =
          w.if-other-caller.false in
          c.loop-other.invariant k (omega arith) ne
    ]
