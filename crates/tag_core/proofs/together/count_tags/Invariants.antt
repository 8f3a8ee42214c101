-- The bits of the masks so far are counted, at most 64 a mask.
use Rattle.std.specs.Prelude.{◌*◌, ◌≡◌, ◌≤◌}
use Rattle.tag_core.proofs.Uses.{size_of, take}
use Rattle.tag_core.proofs.together.count_tags.Given as goal

abbrev pub invariant-loop-mask : goal.invariant-loop-mask
invariant-loop-mask l = (l.size ≡ size_of (take l.mask-index l.masks)) × (l.size ≤ 64 * l.mask-index)
