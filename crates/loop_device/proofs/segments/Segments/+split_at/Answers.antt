-- A half is split where the row is to be split, and nothing else changes.
use Rattle.std.proofs.Common.{◌≡◌, ◌-◌, ◌/◌, true, arith, rules, subst, sym}
use Rattle.loop_device.specs.Segments.{is_split_at}
use Rattle.loop_device.proofs.Halves.{leaf_sound, split_at_0, split_at_width}
use Rattle.loop_device.proofs.segments.Segments.+split_at.Goals as goal
use Rattle.loop_device.proofs.segments.Segments.+split_at.Goals.{then-at-eq0-via-then-at-eq0, then-at-eq0-via-else-at-eq0+then-at-width}

pub returns-then-at-eq0-clause-ok : goal.returns-then-at-eq0-clause-ok
returns-then-at-eq0-clause-ok t c = elim c.then-at-eq0.branch [
  | then-at-eq0-via-then-at-eq0 w ↦ subst (λ at. is_split_at c.args.width c.args.self.now at ≡ true) (sym
      w.if-at-eq0.true) (split_at_0 c.args.width c.args.self.now c.requires.sound)
  | then-at-eq0-via-else-at-eq0+then-at-width w ↦ subst (λ at. is_split_at c.args.width c.args.self.now at ≡ true) (sym
      w.if-at-width.true) (split_at_width c.args.width c.args.self.now c.requires.sound)
]

pub split_at-requires : goal.split_at-requires
split_at-requires t c = (
  omega (arith, c.requires.within),
  (leaf_sound (c.args.width / 2) c.in-Leaf.stamp c.deref_mut.result.now (search rules), omega arith),
)

pub split_at-requires-else-at-half : goal.split_at-requires-else-at-half
split_at-requires-else-at-half t c = (
  omega (arith, c.requires.within),
  (
    leaf_sound (c.args.width - c.args.width / 2) c.in-Leaf.stamp c.deref_mut-else-at-half.result.now (search rules),
    omega (arith, c.requires.within),
  ),
)
