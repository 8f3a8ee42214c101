-- Each caller that was told is roused in its turn.
use Rattle.std.specs.Prelude.{◌+◌, ◌≡◌, ◌≢◌}
use Rattle.tag_bell.proofs.Uses.{arith, bit_at, dite, subst, sym, ℕ, ℕ_discrete}
use Rattle.tag_bell.proofs.Rousing.{passes_next, roused_all, roused_none, RousedBelow, rouses_next}
use Rattle.tag_bell.proofs.sleeping.rouse_each.Goals as goal

pub loop-number-init : goal.loop-number-init
loop-number-init g c = roused_none c.args.told c.none-roused.result.callers c.none-roused.ensures

pub loop-number-preserved : goal.loop-number-preserved
loop-number-preserved g c =
    let before = c.loop-number.invariant in let n = c.loop-number.number in let told : ℕ = c.args.told in
    let was = c.loop-number.roused.callers in let rouse = c.rouse.ensures in dite (ℕ_discrete (bit_at told n) 1)
    (λ (set : bit_at told n ≡ 1). subst (λ (z : ℕ). RousedBelow (n + 1) told z) (sym (rouse.told set))
    (rouses_next n told was before set))
    (λ (clear : bit_at told n ≢ 1). subst (λ (z : ℕ). RousedBelow (n + 1) told z) (sym (rouse.others clear))
    (passes_next n told was before clear))

pub returns : goal.returns
returns g c = let test = c.loop-number-test.false in let fits = c.callers.ensures in
    let is : c.loop-number.number ≡ 64 = let end = c.loop-number.auto.number-end in omega arith in
    roused_all 64 c.args.told c.loop-number.roused.callers (omega arith)
    (subst (λ (z : ℕ). RousedBelow z c.args.told c.loop-number.roused.callers) is c.loop-number.invariant)
