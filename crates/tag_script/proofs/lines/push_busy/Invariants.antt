-- The text so far is `busy` and the tags so far.
use Rattle.tag_script.proofs.Uses.{codes, field, flat_map, take}
use Rattle.std.proofs.Common.{◌≡◌, ◌++◌}
use Rattle.tag_script.proofs.lines.push_busy.Given as goal

abbrev pub invariant-loop-tag : goal.invariant-loop-tag
invariant-loop-tag l = l.text.items ≡ l.fn.text.items ++ (codes "busy" ++ flat_map (field (codes " ")) (take l.tag-index l.tags))
