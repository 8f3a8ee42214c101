-- Hands of one pair of sets never hold the same tag, as `apart` shows, so there is no other holder.
use Rattle.std.proofs.Common.{◌≡◌, ℕ, max, min, get_or, ap, ◌∙◌, arith}
use Rattle.tag_board.proofs.Holders.{later_holds, earlier_holds}
use Rattle.tag_board.proofs.board.Board.tell_alone.Goals as goal

pub apart-requires : goal.apart-requires
apart-requires c =
    let b = c.args.self.now in let hands = b.hands.items in let i : ℕ = c.args.caller in let o = c.in-Some.ensures in
    let ne = o.1 in let later = c.remove-later.result in let earlier = c.remove-earlier.result in
    let high = c.max.ensures in let low = c.min.ensures in
    let last : later ≡ get_or hands (max i c.in-Some.other) later =
    c.remove-later.ensures.value ∙ ap (λ (n : ℕ). get_or hands n later) high in
    let first : earlier ≡ get_or hands (min i c.in-Some.other) earlier = c.remove-earlier.ensures.value
    ∙ c.remove-later.ensures.by_index.0 c.min.result earlier (omega arith)
    ∙ ap (λ (n : ℕ). get_or hands n earlier) low in
    let one = earlier_holds b.queue hands b.own c.args.tag i c.in-Some.other (c.requires.caller, c.requires.held)
    (o.0, o.2) earlier first in record {
      hands = (
        one.0,
        (later_holds b.queue hands b.own c.args.tag i c.in-Some.other (c.requires.caller, c.requires.held) (o.0, o.2)
            later last).0,
      );
      held = one.1;
    }

pub unreachable-requires : goal.unreachable-requires
unreachable-requires c =
    let b = c.args.self.now in let hands = b.hands.items in let i : ℕ = c.args.caller in let o = c.in-Some.ensures in
    let later = c.remove-later.result in
    let last : later ≡ get_or hands (max i c.in-Some.other) later =
    c.remove-later.ensures.value ∙ ap (λ (n : ℕ). get_or hands n later) c.max.ensures in
    c.apart.ensures.apart
    (later_holds b.queue hands b.own c.args.tag i c.in-Some.other (c.requires.caller, c.requires.held) (o.0, o.2) later
    last).1
