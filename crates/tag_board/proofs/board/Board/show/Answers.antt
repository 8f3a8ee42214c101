-- The sizes are those of the set, and the loads change no part.
use Rattle.std.proofs.Common.{ℕ, ◌+◌, ◌-◌, ◌/◌, ap, ◌∙◌, arith}
use Rattle.tag_board.proofs.Uses.{in_pool, state_of}
use Rattle.tag_board.proofs.Lookings.{depth_is, show_few}
use Rattle.tag_board.proofs.Commands.{effect_on, seated, show_does, sits}
use Rattle.tag_board.proofs.board.Board.show.Goals as goal

pub invariant_of-self : goal.invariant_of-self
invariant_of-self c =
    let b = c.args.self.now in let at = sits (omega arith) c.index_mut.ensures.value in
    seated b at c.show.new.hand c.show.ensures.hand

pub returns : goal.returns
returns c =
    let b = c.args.self.now in let at = sits c.requires c.index_mut.ensures.value in let old = c.index_mut.result.now in
    let new = c.show.new.hand in let s = c.show.ensures.shows in let kind = c.args.kind in
    let bits : ℕ = (state_of b).terms.bits kind in let deep = depth_is b.queue b.hands.items kind in record {
      depth = ap (λ x. x.depth) s.shown_is ∙ deep;
      bits_per_word = ap (λ x. x.bits_per_word) s.shown_is;
      map_nr = ap (λ x. x.map_nr) s.shown_is ∙ ap (λ (d : ℕ). (d + bits - 1) / bits) deep;
      busy = show_few b.queue b.hands.items (in_pool old) (in_pool new) kind c.show.result s;
      change = effect_on b at new c.show.ensures.hand.0
          (show_does b.queue old new kind c.show.result s c.show.ensures.counts);
    }
