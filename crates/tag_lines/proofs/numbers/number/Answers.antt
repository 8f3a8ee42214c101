-- A number is told to be none only where it has another byte, or is too large.
use Rattle.std.proofs.Common.{get_or, arith, sym}
use Rattle.std.proofs.lemmas.Str.{digit_value_digit}
use Rattle.tag_lines.proofs.NumberFacts.{overflows, is_read}
use Rattle.tag_lines.proofs.numbers.number.Goals as goal

pub returns : goal.returns
returns c =
    sym (is_read c.args.word.now c.loop-byte.byte-index c.loop-byte.value (omega arith) c.loop-byte.invariant.fits
    c.loop-byte.invariant.value c.loop-byte.invariant.digits)

pub returns-in-None : goal.returns-in-None
returns-in-None c =
    let digit = digit_value_digit (get_or c.args.word.now c.loop-byte.byte-index 0)
    c.if-not-is_ascii_digit.ensures.cases in
    sym (overflows c.args.word.now c.loop-byte.byte-index c.loop-byte.value (omega arith) c.loop-byte.invariant.value
    (omega (arith, c.in-None.ensures, digit)))
