-- The shift is at most 6, so 1 shifted by it is 2^shift.
use Rattle.std.proofs.Common.{◌^◌, ap, ◌∙◌, arith}
use Rattle.std.proofs.lemmas.Nat.{one_shl}
use Rattle.tag_script.proofs.plain_caller.bits_per_word.Goals as goal

pub returns : goal.returns
returns c = one_shl c.shift.result 32 (omega (arith, c.shift.ensures.bound)) ∙ ap (λ s. 2 ^ s) c.shift.ensures.value
