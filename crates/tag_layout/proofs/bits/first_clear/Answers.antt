-- The lowest 1 of the clear bits from the first place on is the place, if it is below the limit.
use Rattle.std.proofs.Common.{arith}
use Rattle.tag_layout.proofs.Scans.{first_found, none_found}
use Rattle.tag_layout.proofs.bits.first_clear.Goals as goal

pub returns-then-place-limit : goal.returns-then-place-limit
returns-then-place-limit c =
    first_found c.args.bits c.args.from c.args.limit (omega arith) (omega arith) c.requires (omega arith)

pub returns-else-place-limit : goal.returns-else-place-limit
returns-else-place-limit c =
    none_found c.args.bits c.args.from c.args.limit (omega arith) (omega arith) c.requires (omega arith)
