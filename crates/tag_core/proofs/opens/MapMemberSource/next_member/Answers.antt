-- The seat splits off the record of one caller, who has won and holds nothing.
use Rattle.std.specs.Prelude.{◌≡◌}
use Rattle.tag_core.proofs.Uses.{ap, arith, replicate, rules, words, ℕ, ◌∙◌}
use Rattle.tag_core.proofs.SeatMoves.{some_words}
use Rattle.tag_core.proofs.Seatings.{splits_next, knows, shown, carries, wide, is_fresh}
use Rattle.tag_core.proofs.opens.MapMemberSource.next_member.Goals as goal

pub split_seat-seat-requires : goal.split_seat-seat-requires
split_seat-seat-requires g c = let m = c.args.self.now in let rest = c.args.rest.now in (
  c.requires.rest.1,
  some_words m,
  splits_next m rest.id rest.me.0 c.args.number c.requires.comes (ap (λ x. x.0) c.requires.rest.2),
)

pub invariant_of-result : goal.invariant_of-result
invariant_of-result g c = let k = c.args.self.now.shape in let n : ℕ = c.args.number in
    let blank : c.in_ok-held.held.items ≡ replicate (words k.layout) 0 = search rules in
    let none = c.requires.rest.0 in let is = ap (λ x. x.0) c.requires.rest.2 in
    let now = c.split_seat-seat.ensures.4 in record {
      told = search rules;
      knows = knows k n 0 0 c.requires.comes (none.0 n, none.1 n) _ is _ now _ c.of.ensures _ blank;
      shown = shown k n 0 0 c.requires.comes (none.0 n, none.1 n) _ is _ now _ c.of.ensures _ blank;
      carries = carries k n 0 0 c.requires.comes (none.0 n, none.1 n) _ is _ now _ c.of.ensures _ blank;
      wide = wide k n 0 0 c.requires.comes (none.0 n, none.1 n) _ is _ now _ c.of.ensures _ blank;
      unspent = (omega arith, c.args.self.now.few.2);
      few_back = omega arith;
    }

pub returns-clause-member : goal.returns-clause-member
returns-clause-member g c = let k = c.args.self.now.shape in let n : ℕ = c.args.number in
    let blank : c.in_ok-held.held.items ≡ replicate (words k.layout) 0 = search rules in (
      (c.split_seat-seat.ensures.3 ∙ c.requires.rest.1, c.of.ensures),
      is_fresh k n 0 0 c.requires.comes (c.requires.rest.0.0 n, c.requires.rest.0.1 n) _ (ap (λ x. x.0) c.requires.rest.2)
          _ c.split_seat-seat.ensures.4 _ c.of.ensures _ blank,
    )
