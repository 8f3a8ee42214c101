-- No more hands than there can be are told, so their number fits.
use Rattle.tag_c.proofs.Uses.{ap, rules, ◌∙◌}
use Rattle.tag_c.specs.Telling.{flagged, Tells}
use Rattle.tag_c.proofs.Calling.{stored}
use Rattle.tag_c.proofs.Endings.{left_some, sees_at_once}
use Rattle.tag_c.proofs.telling.CachedMemberTellingCalls.look_after.Goals as goal

pub returns : goal.returns
returns c = let left = c.args.left in let kind = c.args.kind in let freed = c.min.result in (
  c.see.ensures.0,
  left_some (Tells kind) left c.args.number freed c.if-left-eq0.false (search rules)
      (stored c.flagged.result c.flagged.type_inv ∙ c.flagged.ensures
      ∙ ap flagged (stored c.args.number c.ranges.number.sfits))
      (sees_at_once kind freed c.see.result _ _ _ c.see.ensures.1),
)
