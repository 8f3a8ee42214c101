-- A sweep that finds nothing set aside is a load alone; otherwise a swap follows, or a swap and a spill. All keep the
-- held set.
use Rattle.std.specs.Prelude.{◌∷◌}
use Rattle.tag_search.proofs.Uses.{[], Adds, adds_nothing, arith, empty, LookAside, refl, Spill, spilled, subst, Swap, unseen, Word, ℕ}
use Rattle.tag_search.proofs.SharedCalls.{adds_one, adds_two, swept}
use Rattle.tag_search.proofs.shared.SharedPort.sweep.Goals as goal

pub returns-then-look_aside-eq0-clause-steps : goal.returns-then-look_aside-eq0-clause-steps
returns-then-look_aside-eq0-clause-steps g c =
    let i = c.args.word in let mid = c.look_aside.new.caller in
    swept i 0 0 [] c.args.self.now _ mid refl refl (λ fits. omega arith) refl
    (subst (λ (n : ℕ). Adds (Word (LookAside i n)) c.args.self.now.caller.now mid) c.if-look_aside-eq0.true
    c.look_aside.ensures.step)
    (adds_nothing mid) unseen

pub returns-then-mask-eq0-clause-steps : goal.returns-then-mask-eq0-clause-steps
returns-then-mask-eq0-clause-steps g c =
    let i = c.args.word in let mid = c.look_aside.new.caller in
    swept i 0 c.look_aside.result (Swap i 0 ∷ []) c.args.self.now _ mid refl refl (λ fits. omega arith) refl
    c.look_aside.ensures.step
    (adds_one (Swap i 0) mid _ (c.sweep-mask.ensures.none c.if-mask-eq0.true) tt tt (λ tag h. h))
    (empty c.if-look_aside-eq0.false)

pub returns-clause-steps : goal.returns-clause-steps
returns-clause-steps g c =
    let i = c.args.word in let mid = c.look_aside.new.caller in let mask = c.sweep-mask.result in
    let some = c.sweep-mask.ensures.some c.if-mask-eq0.false in let sum = c.saturating_add-self.ensures in
    swept i mask c.look_aside.result (Swap i mask ∷ Spill i mask some.0 ∷ []) c.args.self.now _ mid refl refl
    (λ fits. omega arith) refl c.look_aside.ensures.step
    (adds_two i mask some.0 mid _ c.sweep-mask.type_inv some.1)
    (spilled c.if-look_aside-eq0.false c.if-mask-eq0.false c.sweep-mask.type_inv)
