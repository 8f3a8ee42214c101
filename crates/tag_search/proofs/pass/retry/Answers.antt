-- A turn that wins nothing is followed by the turns left, and the last one ends the visit.
use Rattle.std.specs.Prelude.{◌+◌, ◌-◌, ◌≡◌}
use Rattle.tag_search.proofs.Uses.{AddsSteps, arith, IsPass, places_of, subst, suc, ◌∙◌}
use Rattle.tag_search.proofs.Joined.{same_room_joined}
use Rattle.tag_search.proofs.Turns.{turn_further, turn_ends, turns_over}
use Rattle.tag_search.proofs.pass.retry.Goals as goal

pub returns-in-Some-clause-retry : goal.returns-in-Some-clause-retry
returns-in-Some-clause-retry g c =
    let turn = c.loop.counter in let turns = c.args.turns in let low = c.loop-test.true in
    let e : turns - turn ≡ suc (turns - (turn + 1)) = omega arith in
    turn_ends (λ p xs q. g.P.Port.adds p xs q) g.met.P.Port.adds_more c.args.word (places_of c.args.rank)
    c.args.turns c.sweep.result c.args.port.now c.loop.port c.sweep.new.self c.pass.new.port (turns - turn)
    (turns - (turn + 1)) e c.in-Some.place c.loop.invariant.begun
    c.sweep.ensures.steps c.in-Some.ensures.pass

pub loop-preserved : goal.loop-preserved
loop-preserved g c =
    let turn = c.loop.counter in let turns = c.args.turns in let low = c.loop-test.true in
    let e : turns - turn ≡ suc (turns - (turn + 1)) = omega arith in
    record {
      port = c.pass.ensures.port;
      sizes = c.pass.ensures.sizes ∙ c.sweep.ensures.sizes ∙ c.loop.invariant.sizes;
      room = same_room_joined (λ p n. g.P.Port.has_room p n) c.args.port.now c.loop.port c.pass.new.port
          c.loop.invariant.room (same_room_joined (λ p n. g.P.Port.has_room p n) c.loop.port
          c.sweep.new.self c.pass.new.port c.sweep.ensures.room c.in_default.ensures.room);
      begun = turn_further (λ p xs q. g.P.Port.adds p xs q) g.met.P.Port.adds_more c.args.word (places_of c.args.rank)
          c.args.turns c.sweep.result c.args.port.now c.loop.port c.sweep.new.self c.pass.new.port (turns - turn)
          (turns - (turn + 1)) e c.loop.invariant.begun
          c.sweep.ensures.steps
          (subst (λ answer. AddsSteps (λ p xs q. g.P.Port.adds p xs q) c.sweep.new.self c.pass.new.port
          (λ xs. IsPass c.args.word (places_of c.args.rank) xs answer)) c.in_default.is c.pass.ensures.pass);
    }

pub returns-clause-retry : goal.returns-clause-retry
returns-clause-retry g c =
    let done = c.loop-test.false in
    turns_over (λ p xs q. g.P.Port.adds p xs q) c.args.word (places_of c.args.rank) c.args.turns c.args.port.now
    c.loop.port (c.args.turns - c.loop.counter) (omega arith) c.loop.invariant.begun
