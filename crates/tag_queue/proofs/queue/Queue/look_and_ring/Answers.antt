-- The ring makes no step, so the look is still the last step when it is over.
use Rattle.tag_queue.proofs.Uses.{arith, Nudged, refl, rules, sym, ◌∙◌}
use Rattle.tag_queue.proofs.queue.Queue.look_and_ring.Goals as goal

pub returns-then-active-ne0-clause-looks : goal.returns-then-active-ne0-clause-looks
returns-then-active-ne0-clause-looks g c = let ring = c.nudge.ensures.rung in
    let look = c.sight-active.ensures in record {
      none = λ e. absurd (let some = c.requires.some in omega arith);
      some = λ some. record {
        active = c.sight-active.result.0;
        step = ring.1 ∙ c.sight-active.ensures.step;
        after_pool = c.sight-active.ensures.beside;
        last_step = c.sight-active.ensures.steps ∙ sym ring.1;
        rings = λ found. ring.2
            ∙ (λ j. (Nudged (c.min.ensures j), (look.groups.1.3 j).0));
        silent = λ none. absurd (let some = c.if-active-ne0.true in omega arith);
      };
      same = (refl, refl);
      stands = search rules;
    }

pub returns-else-active-ne0-clause-looks : goal.returns-else-active-ne0-clause-looks
returns-else-active-ne0-clause-looks g c = record {
  none = λ e. absurd (let some = c.requires.some in omega arith);
  some = λ some. record {
    active = c.sight-active.result.0;
    step = c.sight-active.ensures.step;
    after_pool = c.sight-active.ensures.beside;
    last_step = c.sight-active.ensures.steps;
    rings = λ found. absurd (let none = c.if-active-ne0.false in omega (arith, found));
    silent = λ none. c.sight-active.ensures.groups.1.3;
  };
  same = (refl, refl);
  stands = search rules;
}
