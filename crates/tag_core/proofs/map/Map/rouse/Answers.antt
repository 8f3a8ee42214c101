-- A berth is one of the table's words, and the test says whether its caller was told.
use Rattle.std.proofs.Common.{◌/◌, ◌^◌, ◌≡◌, ap, arith, bit_and, ℕ, ◌∙◌}
use Rattle.std.proofs.lemmas.Nat.Bits.{bit_at-lt, shr_and_one}
use Rattle.std.specs.Int.{bit_at}
use Rattle.tag_core.proofs.Uses.{layout_of}
use Rattle.tag_core.proofs.Stand.{berth_in}
use Rattle.tag_core.proofs.map.Map.rouse.Goals as goal

pub wake_one-requires : goal.wake_one-requires
wake_one-requires g c =
    let m = c.args.self.now in let inside = berth_in (layout_of m) c.args.number c.requires.within in
    let is = c.berth_spot.ensures in let wide = m.wide.0 in omega arith

-- the test says whether the caller was told
tested : (told mask n : ℕ) → mask ≡ told → bit_and (mask / 2 ^ n) 1 ≡ bit_at told n
tested told mask n is = shr_and_one mask n ∙ ap (λ (m : ℕ). bit_at m n) is

pub returns-then-callers-number-eq0-clause-told : goal.returns-then-callers-number-eq0-clause-told
returns-then-callers-number-eq0-clause-told g c set =
    let bit = tested c.args.told.now c.callers.result c.args.number c.callers.ensures in
    let off = c.if-callers-number-eq0.true in absurd (omega arith)

pub returns-clause-others : goal.returns-clause-others
returns-clause-others g c clear =
    let bit = tested c.args.told.now c.callers.result c.args.number c.callers.ensures in
    let low = bit_at-lt c.args.told.now c.args.number in
    absurd (c.if-callers-number-eq0.false (bit ∙ omega arith))
