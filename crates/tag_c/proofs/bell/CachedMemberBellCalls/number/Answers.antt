-- The number is below 64, so it keeps its value in 32 bits.
use Rattle.std.specs.Prelude.{◌<◌}
use Rattle.tag_c.proofs.Uses.{ap, arc_value, arith, pos, refl, ◌∙◌}
use Rattle.tag_c.proofs.Calling.{stored}
use Rattle.tag_c.proofs.Owners.{low_number}
use Rattle.tag_c.proofs.bell.CachedMemberBellCalls.number.Goals as goal

-- the number is small enough for 32 bits
small : (c : goal.After-number) → c.number.result < 2147483648
small c = let member = c.args.self.now in
    let low = low_number (arc_value member.shared).tags member.cache.hand member.own in
    let is = c.number.ensures in omega arith

pub overflow_cast-result : goal.overflow_cast-result
overflow_cast-result c = record { sfits = small c }

pub returns : goal.returns
returns c = (refl, (refl, stored (pos c.number.result) (small c) ∙ ap pos c.number.ensures))
