-- The handle keeps its flag at 1 exactly while there is an object, so behind a flag of 1 there is one to lend.
use Rattle.tag_c.proofs.Uses.{refl, sym, with_object, ◌∙◌}
use Rattle.tag_c.proofs.Flags.{some_of, ends_full}
use Rattle.tag_c.proofs.handle.Handle.lend.Goals as goal

pub lend-requires : goal.lend-requires
lend-requires c = some_of c.args.self.now.object.value (sym c.args.self.now.held ∙ c.if-self-eq1.true)

pub returns-then-self-eq1 : goal.returns-then-self-eq1
returns-then-self-eq1 c = (
  ends_full c.lend.result.ghost_name (with_object c.args.self.now.object) c.args.self.now.full c.if-self-eq1.true _
      (λ _. refl),
  record { writes_back = tt; some = c.lend.ensures.value; none = tt },
)
