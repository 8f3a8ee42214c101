-- The events before the index ran, and the one at the index comes next.
use Rattle.std.specs.Prelude.{◌++◌, ◌+◌, ◌<◌, ◌∷◌, ◌≡◌}
use Rattle.tag_model.proofs.Uses.{ap, arith, callers_of, drop, drop-cons, Event, get_or, KeptWorld, length, length-take-le, List, Look, MayRun, Ran, StopsAt, subst, suc, sym, take, take-append-drop, take_more, world_of, ℕ, ◌∙◌}
use Rattle.tag_model.proofs.RunFacts.{ran-more, stops-here, cannot-stop}
use Rattle.tag_model.proofs.world.World.run.Goals as goal

-- a list is what stands before an index, what stands there, and the rest
parts : (events : List Event) (index : ℕ) → index < length events
    → take index events ++ (get_or events index Look ∷ drop (index + 1) events) ≡ events
parts events index h =
    ap (λ (xs : List Event). take index events ++ xs)
    ((let e : index + 1 ≡ suc index = omega arith in ap (λ (n : ℕ). get_or events index Look ∷ drop n events) e)
    ∙ sym (drop-cons events index Look h))
    ∙ take-append-drop index events

pub returns-in-Err-clause-succeeds : goal.returns-in-Err-clause-succeeds
returns-in-Err-clause-succeeds c may =
    let events : List Event = c.args.events.now in let index : ℕ = c.loop-index.index in
    absurd (cannot-stop c.args.self.now c.loop-index.self (take index events) (get_or events index Look)
    c.loop-index.invariant (drop (index + 1) events) c.in-Err.fault
    (subst (MayRun c.args.self.now.layout (callers_of c.args.self.now) (world_of c.args.self.now))
    (sym (parts events index c.loop-index-test.true)) may) c.in-Err.ensures.fault)

pub returns-in-Err-clause-fault : goal.returns-in-Err-clause-fault
returns-in-Err-clause-fault c =
    let events : List Event = c.args.events.now in let index : ℕ = c.loop-index.index in
    let old : KeptWorld = c.args.self.now in
    let here = stops-here old c.loop-index.self (take index events) (get_or events index Look) c.loop-index.invariant
    (drop (index + 1) events) c.in-Err.fault c.in-Err.ensures.fault in
    subst (λ (n : ℕ). StopsAt old.layout (callers_of old) (world_of old) events n c.in-Err.fault)
    (length-take-le index events (omega arith))
    (subst (λ (xs : List Event). StopsAt old.layout (callers_of old) (world_of old) xs (length (take index events))
    c.in-Err.fault) (parts events index c.loop-index-test.true) here)

pub loop-index-preserved : goal.loop-index-preserved
loop-index-preserved c =
    let events : List Event = c.args.events.now in let index : ℕ = c.loop-index.index in
    subst (λ (xs : List Event). Ran c.args.self.now xs c.apply.new.self)
    (sym (take_more events index Look c.loop-index-test.true))
    (ran-more c.args.self.now c.loop-index.self (take index events) (get_or events index Look) c.loop-index.invariant
    c.apply.new.self c.in_default.ensures.ok)
