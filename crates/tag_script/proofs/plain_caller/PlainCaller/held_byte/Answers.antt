-- The bits below bit n sum to less than 2^n, so adding bit n < 8 does not overflow a byte.
use Rattle.tag_script.proofs.Uses.{ap, arith, bit_value, one_shl, plain_world_of, sum_below, ◌∙◌}
use Rattle.std.proofs.Common.{◌≡◌, ◌*◌, ◌%◌, ◌^◌, ◌<◌, ◌≤◌}
use Rattle.std.proofs.Math.Nat.{pow-le-pow_right}
use Rattle.tag_script.proofs.DumpFacts.{bits-below}
use Rattle.tag_script.proofs.plain_caller.PlainCaller.held_byte.Goals as goal

pub overflow_add-byte : goal.overflow_add-byte
overflow_add-byte c =
    let n = c.loop-bit.bit in
    let few : n < 8 = omega arith in
    let bit : 1 * 2 ^ n % 2 ^ 8 ≡ 2 ^ n = one_shl n 8 (omega arith) in
    let low : 2 ^ n ≤ 2 ^ 7 = pow-le-pow_right {n = 2} (omega arith) {i = n} {j = 7} (omega arith) in
    let before = bits-below (plain_world_of c.args.self.now) c.args.offset n in
    omega (arith, c.loop-bit.invariant)

pub returns : goal.returns
returns c =
    let all : c.loop-bit.bit ≡ 8 = omega arith in
    c.loop-bit.invariant ∙ ap (sum_below (bit_value (plain_world_of c.args.self.now) c.args.offset)) all
