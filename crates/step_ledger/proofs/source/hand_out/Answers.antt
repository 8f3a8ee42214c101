-- Each turn puts the member with the next number behind the others.
use Rattle.std.proofs.Common.{rules, ◌≡◌, [], ◌∷◌, ◌++◌}
use Rattle.step_ledger.proofs.Numbers.{numbered_more}
use Rattle.step_ledger.proofs.source.hand_out.Goals as goal

pub loop-number-preserved : goal.loop-number-preserved
loop-number-preserved g c = let made = c.loop-number.members.items in let member = c.in_ok-member.member in record {
  rest = c.in_ok-member.ensures.rest;
  made = numbered_more (g.T.MemberSource.is_new c.args.table.now) c.loop-number.number made c.push.new.self.items member
      c.loop-number.invariant.made (let e : c.push.new.self.items ≡ made ++ member ∷ [] = search rules in e)
      c.in_ok-member.ensures.member;
}
