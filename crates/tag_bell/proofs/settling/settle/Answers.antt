-- Where nobody waits, the look ends what the caller has to see to; else it comes before the looks at the words.
use Rattle.std.specs.Prelude.{◌*◌, ◌+◌, ◌∷◌}
use Rattle.tag_bell.proofs.Uses.{[], arith, Bell, inl, inr, layout_of, LookAll, MAX_CALLERS, refl, words, ⊎_elim}
use Rattle.tag_bell.proofs.Choosing.{turn_after}
use Rattle.tag_bell.proofs.Rung.{looked_tells, tells_after, tells_within}
use Rattle.tag_bell.proofs.Seeing.{saw_after}
use Rattle.tag_bell.proofs.settling.settle.Goals as goal

pub returns-clause-told : goal.returns-clause-told
returns-clause-told g c = let n = words (layout_of c.args.map.now) in let look = c.finds_waiters in
    let tells = 2 * n + (3 * MAX_CALLERS + 1) in
    tells_within (1 + tells) (2 * n + 3 * MAX_CALLERS + 2) c.look_through.result c.args.caller.now
    c.look_through.new.caller (omega arith) (tells_after 1 tells c.look_through.result c.args.caller.now look.new.caller
    c.look_through.new.caller (looked_tells look.result c.args.caller.now look.new.caller look.ensures.finds)
    c.look_through.ensures.told)

pub returns-clause-turns : goal.returns-clause-turns
returns-clause-turns g c = let look = c.finds_waiters in
    ⊎_elim (λ none. inl none) (λ turns. inr (turn_after 1 c.look_through.result c.args.caller.now look.new.caller
    c.look_through.new.caller (Bell (LookAll look.ensures.finds.waiting) ∷ []) look.ensures.finds.look tt
    (λ kind. refl) turns))
    c.look_through.ensures.turns

pub returns-clause-saw : goal.returns-clause-saw
returns-clause-saw g c = let look = c.finds_waiters in
    ⊎_elim (λ none. inl none) (λ saw. inr (saw_after c.args.caller.now look.new.caller c.look_through.new.caller
    (Bell (LookAll look.ensures.finds.waiting) ∷ []) look.ensures.finds.look saw)) c.look_through.ensures.saw
