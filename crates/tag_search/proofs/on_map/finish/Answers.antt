-- The rest of a get has no more steps than the whole, so the port counts what they free.
use Rattle.std.specs.Prelude.{◌≡◌}
use Rattle.tag_search.proofs.Uses.{AddsAll, AddsSteps, AddsThrough, arith, Caller, Hint, IsBegun, IsRestOfGet, layout_of, length-append, Makes, Map, Option, rules, Shared, subst, sym, Unfinished, ℕ}
use Rattle.tag_search.proofs.FreedFacts.{left_is}
use Rattle.tag_search.proofs.on_map.finish.Goals as goal

pub returns-clause-left : goal.returns-clause-left
returns-clause-left g c =
    let a = c.finish-answer.ensures.steps in let made = c.new-port.ensures.lent in let kept = a.added.lent in
    let begun = c.requires.begun in
    let was = subst (λ (m : Map _). IsBegun (layout_of m) c.args.hint.now c.args.rest begun.0)
    (sym c.new-port.ensures.map) begun.1 in
    let all = (a.holds begun.0 was).bound in let both = length-append begun.0 a.steps in
    let done = left_is c.args.caller.now c.new-port.result c.finish-answer.new.port a.steps c.new-port.ensures.caller
    c.new-port.ensures.freed a.added c.left-left.result (omega arith) c.left-left.ensures in search rules

-- what the port added to its caller
through : {R : Type 0} (map : Map R) (caller : Caller R) (port new : Shared R) (hint : Hint) (rest : Unfinished)
    (answer : Option ℕ) → port.map.now ≡ map → port.caller.now ≡ caller
    → AddsSteps (λ p xs q. AddsThrough p xs q) port new (IsRestOfGet (layout_of port.map.now) hint rest answer)
    → Makes caller new.caller.now (IsRestOfGet (layout_of map) hint rest answer)
through {R} map caller port new hint rest answer same is a = record {
  steps = a.steps;
  added = subst (λ (b : Caller R). AddsAll a.steps b new.caller.now) is a.added.added;
  holds = subst (λ (m : Map R). IsRestOfGet (layout_of m) hint rest answer a.steps) same a.holds;
}

pub returns-clause-steps : goal.returns-clause-steps
returns-clause-steps g c =
    let a = c.finish-answer.ensures.steps in let made = c.new-port.ensures.lent in let kept = a.added.lent in
    let done = through c.args.map.now c.args.caller.now c.new-port.result c.finish-answer.new.port c.args.hint.now
    c.args.rest c.finish-answer.result c.new-port.ensures.map c.new-port.ensures.caller a in search rules
