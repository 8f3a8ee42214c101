-- The low `shift` bits of a number are its remainder modulo the bits of a word.
use Rattle.std.specs.Prelude.{◌^◌}
use Rattle.tag_search.proofs.Uses.{arith, low_bits, mod_below, pow_pos, word_bits-le}
use Rattle.tag_search.proofs.place.place_in_word.Goals as goal

pub returns-clause-value : goal.returns-clause-value
returns-clause-value c = let bound = c.shift.ensures.bound in let value = c.shift.ensures.value in
    rw c.shift.ensures.value (low_bits c.args.tag c.args.layout.shift (omega arith))

pub returns-clause-width : goal.returns-clause-width
returns-clause-width c =
    let bound = c.shift.ensures.bound in let value = c.shift.ensures.value in
    let whole = low_bits c.args.tag c.args.layout.shift (omega arith) in
    let low = mod_below c.args.tag (2 ^ c.args.layout.shift) (pow_pos c.args.layout.shift) in
    let most = word_bits-le c.args.layout (omega arith) in rw c.shift.ensures.value (omega arith)
