-- The parts are those that the line is cut into, and each is tested.
use Rattle.std.proofs.Common.{◌==◌, length, rules, tests}
use Rattle.std.proofs.lemmas.Iterator.Search.{any_from_yields_List}
use Rattle.std.proofs.lemmas.Iterator.Splits.{YieldsList-from_slice_split}
use Rattle.tag_lines.proofs.lines.has_gap.Goals as goal

pub returns : goal.returns
returns c =
    any_from_yields_List (λ part. length part == 0) _ _ _ c.any.ensures.ran
    (YieldsList-from_slice_split _ (λ b. b == 32) c.args.line.now c.split.ensures.rest c.split.ensures.done
    c.split.ensures.closure (λ x b q k. search (rules, tests)))
    (λ x b q k. search (rules, tests))
