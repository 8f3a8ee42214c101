-- The first number found is one of the ordinary set, so adding the reserved tags gives the run that the hand gains.
use Rattle.std.specs.Prelude.{◌≡◌}
use Rattle.tag_pool.proofs.Uses.{ap, arith, layout_of, None, Option, Ordinary, reserved_of, rules, Side, subst, sym, ⊎_elim, ℕ, ◌∙◌}
use Rattle.tag_pool.specs.Gets.{GetsBatch, whole_run}
use Rattle.tag_pool.proofs.Getting.{batch_low, batch_of}
use Rattle.tag_pool.proofs.pool.Pool.get_batch_quietly.Goals as goal

pub ordinary_run-answer-requires : goal.ordinary_run-answer-requires
ordinary_run-answer-requires g c = let found = c.in-Ok.field-0 in
    batch_low (layout_of c.args.self.now Ordinary) c.args.n found.answer c.args.hand.now.ordinary c.get_batch.new.self
    (λ robin. let none = (c.in-Ok.ensures.round_robin robin).0 in cc) c.in-Ok.ensures.gets

pub returns-clause-does : goal.returns-clause-does
returns-clause-does g c = let pool = c.args.self.now in let hand = c.args.hand.now in let new = c.get_batch.new.self in
    let found = c.in-Ok.field-0 in let is = c.ordinary_run-answer.ensures in record {
      refusals = record {
        first = tt;
        passes = (
          search rules,
          (λ plain. ⊎_elim (λ robin. absurd cc) (λ room. room) (c.get_batch.ensures.room.0 (search rules)), tt),
        );
        same = tt;
      };
      round_robin = λ counts robin. let same = c.in-Ok.ensures.round_robin robin in
          let none : found.answer ≡ None = (let r = same.0 in cc) in (
            is ∙ ap (whole_run (reserved_of pool)) none,
            ap (λ (s : Side g.row.R.Denot). record hand { ordinary = s }) same.1,
          );
      gets = λ plain. subst (λ (run : Option (ℕ × ℕ)). GetsBatch pool c.args.n run hand (record hand { ordinary = new }))
          (sym is) (batch_of pool hand c.requires.hand new c.get_batch.ensures.side.0 c.args.n found.answer
          (c.in-Ok.ensures.gets plain));
      left = c.in-Ok.ensures.left;
      bound = let most = c.get_batch.ensures.bound in omega arith;
    }
