-- Where nothing is set aside, it is a sweep that found nothing. Otherwise the least tag stays with the caller, and the port
-- counts the others, if there are any, as freed.
use Rattle.std.specs.Prelude.{◌^◌, ◌∷◌}
use Rattle.tag_search.proofs.Uses.{[], Adds, adds_nothing, arith, empty, IsLeastKept, Keep, LookAside, refl, Spill, subst, Swap, unseen, Word, ℕ}
use Rattle.tag_search.proofs.SharedCalls.{adds_one, swept, swept_so, adds_alone, adds_others, least_alone, least_others}
use Rattle.tag_search.proofs.shared.SharedPort.sweep_keeping.Goals as goal

pub returns-then-seen-eq0-clause-none : goal.returns-then-seen-eq0-clause-none
returns-then-seen-eq0-clause-none g c =
    let i = c.args.word in let mid = c.look_aside-seen.new.caller in
    swept i 0 0 [] c.args.self.now _ mid refl refl (λ fits. omega arith) refl
    (subst (λ (n : ℕ). Adds (Word (LookAside i n)) c.args.self.now.caller.now mid) c.if-seen-eq0.true
    c.look_aside-seen.ensures.step)
    (adds_nothing mid) unseen

pub returns-in_err-kept-clause-none : goal.returns-in_err-kept-clause-none
returns-in_err-kept-clause-none g c =
    let i = c.args.word in let mid = c.look_aside-seen.new.caller in
    rw c.from_residual.ensures (swept i 0 c.look_aside-seen.result (Swap i 0 ∷ []) c.args.self.now _ mid refl refl
    (λ fits. omega arith) refl c.look_aside-seen.ensures.step
    (adds_one (Swap i 0) mid _ c.in_err-kept.ensures.none tt tt (λ tag h. h)) (empty c.if-seen-eq0.false))

pub returns-then-kept-ne0-clause-kept : goal.returns-then-kept-ne0-clause-kept
returns-then-kept-ne0-clause-kept g c =
    let i = c.args.word in let mid = c.look_aside-seen.new.caller in let m = c.args.self.now.map.now in
    let is = c.in_ok-kept.kept in let kept = c.in_ok-kept.ensures.some in let gains = c.in_ok-kept.ensures.acquired in
    let own = c.look_aside-seen.ensures.caller in let others = c.if-kept-ne0.true in let sum = c.saturating_add-self.ensures in
    swept_so (IsLeastKept i is.place) i c.look_aside-seen.result
    (Swap i kept.mask ∷ Keep i (2 ^ is.place) ∷ Spill i is.rest (kept.others others).0 ∷ []) c.args.self.now _ mid refl
    refl (λ fits. omega arith) refl c.look_aside-seen.ensures.step
    (adds_others m mid _ own i is.place is.rest kept gains others)
    (least_others m mid _ own i is.place is.rest kept gains c.look_aside-seen.result (kept.others others).0
    c.if-seen-eq0.false others)

pub returns-else-kept-ne0-clause-kept : goal.returns-else-kept-ne0-clause-kept
returns-else-kept-ne0-clause-kept g c =
    let i = c.args.word in let mid = c.look_aside-seen.new.caller in let m = c.args.self.now.map.now in
    let is = c.in_ok-kept.kept in let kept = c.in_ok-kept.ensures.some in let gains = c.in_ok-kept.ensures.acquired in
    let own = c.look_aside-seen.ensures.caller in let none = c.if-kept-ne0.false in
    swept_so (IsLeastKept i is.place) i c.look_aside-seen.result (Swap i kept.mask ∷ Keep i (2 ^ is.place) ∷ [])
    c.args.self.now _ mid refl refl (λ fits. omega arith) refl c.look_aside-seen.ensures.step
    (adds_alone m mid _ own i is.place is.rest kept gains none)
    (least_alone m mid _ own i is.place is.rest kept gains c.look_aside-seen.result c.if-seen-eq0.false none)
