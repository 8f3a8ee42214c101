-- Neither look changes which tags are held, so what is held at the first is held at the second.
use Rattle.std.proofs.Common.{ap, refl, ◌∙◌}
use Rattle.tag_core.specs.Records.{record_after}
use Rattle.tag_core.specs.declared.record.Record.{Record}
use Rattle.tag_core.specs.declared.step.Step.TheVariants.{Word}
use Rattle.tag_core.specs.declared.word_step.WordStep.TheVariants.{LookAside}
use Rattle.tag_model.proofs.HoldingFacts.{same_then_same}
use Rattle.tag_pool.proofs.side.Side.look_both.Goals as goal

pub returns-clause-looks : goal.returns-clause-looks
returns-clause-looks g c = record {
  known = c.look_aside.ensures.step.known
      ∙ ap (λ (r : Record g.row.R.Denot). record_after (Word (LookAside c.args.word c.look_aside.result)) r)
      c.look-found.ensures.step.known;
  same_map = c.look_aside.ensures.step.same_map ∙ c.look-found.ensures.step.same_map;
  hint = refl;
}

pub returns-clause-same : goal.returns-clause-same
returns-clause-same g c = same_then_same c.look-found.ensures.kept c.look_aside.ensures.kept

pub returns-clause-held : goal.returns-clause-held
returns-clause-held g c tag h at =
    (c.look-found.ensures.held tag h at, c.look_aside.ensures.held tag (c.look-found.ensures.kept.kept tag h).0 at)
