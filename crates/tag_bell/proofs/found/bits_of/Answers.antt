-- The leading zeros are all that is above it.
use Rattle.tag_bell.proofs.Uses.{arith, bit_at_above, leading_length}
use Rattle.tag_bell.proofs.found.bits_of.Goals as goal

pub returns-clause-above : goal.returns-clause-above
returns-clause-above c e high = let length = leading_length 64 c.args.callers c.ranges.callers.fits in
    let sum = length.1 in bit_at_above c.args.callers length.0 e length.2 (omega arith)
