-- The look of the caller is the side's look, since nothing else of the side changes.
use Rattle.tag_core.specs.Notes.{IsTrueNote}
use Rattle.tag_core.specs.declared.shape.Shape.{Shape}
use Rattle.tag_pool.proofs.Uses.{record_of, refl, subst, sym}
use Rattle.tag_pool.proofs.side.Side.read_note.Goals as goal

pub returns-clause-reads : goal.returns-clause-reads
returns-clause-reads g c = record {
  step = c.read_note.ensures.step;
  true_then = subst (λ (z : Shape). IsTrueNote g.row.R.Denot z (record_of c.args.self.now.caller).number c.args.tag c.read_note.result)
      (sym c.requires.side.1) c.read_note.ensures.note;
  same = c.read_note.ensures.kept;
  hint = refl;
}
