-- What follows the second number of a range has a first word, which is too much.
use Rattle.loop_device.proofs.Uses.{arith, common_steps, first_part, parts_of, sym}
use Rattle.std.proofs.Common.{◌≡◌, ◌∷◌}
use Rattle.loop_device.proofs.log_line.range_line.Goals as goal

pub returns-in-Some-more-clause-said : goal.returns-in-Some-more-clause-said
returns-in-Some-more-clause-said c =
    let more = c.in-Some-more.field-0.now in
    let parts : parts_of c.args.range.now ≡ c.cut_word.result.0.now ∷ c.cut_word-2.result.0.now ∷ parts_of more =
    grind (arith, common_steps) in
    sym (rw (parts, first_part more))
