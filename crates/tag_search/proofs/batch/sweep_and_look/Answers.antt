-- The steps of the sweep, whether or not it found a mask, are followed by the load.
use Rattle.std.specs.Prelude.{◌++◌, ◌∷◌}
use Rattle.tag_search.proofs.Uses.{[], arith, Look, swept_look}
use Rattle.tag_search.proofs.batch.sweep_and_look.Goals as goal

pub returns-clause-steps : goal.returns-clause-steps
returns-clause-steps g c =
    let a = c.sweep.ensures.steps in
    record {
      steps = a.steps ++ Look c.args.word c.look.result ∷ [];
      added = g.met.P.Port.adds_more c.args.port.now c.sweep.new.self c.look.new.self a.steps
          (Look c.args.word c.look.result ∷ []) a.added c.look.ensures.step;
      holds = swept_look a.holds (omega arith);
    }
