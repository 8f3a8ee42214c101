-- The handle keeps its flag at 1 exactly while there is an object, so a flag of 1 lets the pointer be used.
use Rattle.std.proofs.Common.{◌∙◌, sym}
use Rattle.tag_c.proofs.Flags.{some_of}
use Rattle.tag_c.proofs.handle.Handle.into_box.Goals as goal

pub restore-requires : goal.restore-requires
restore-requires c = some_of c.args.self.object.value (sym c.args.self.held ∙ c.if-full-eq1.true)
