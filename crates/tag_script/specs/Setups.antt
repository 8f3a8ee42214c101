-- Which setups are legal.
use Rattle.tag_script.specs.Uses.{HasShift, IfSome, Layout, MAX_DEPTH, MAX_SHIFT, Option, QueueOpenFault, ℕ}
use Rattle.std.specs.Prelude.{◌≡◌, ◌≤◌}
use Rattle.tag_script.specs.declared.fault.OpenFault.{OpenFault}
use Rattle.tag_script.specs.declared.fault.OpenFault.TheVariants.{Memory, Setup}

-- the layout of this many tags, with this shift or else the default one
pub record IsLayoutOf (tags : ℕ) (shift : Option ℕ) (l : Layout) : Type 0 where
  pub depth : l.depth ≡ tags
  pub few : tags ≤ MAX_DEPTH
  pub has_shift : HasShift tags shift l.shift
  pub narrow : IfSome shift (λ s. s ≤ MAX_SHIFT)

-- out of memory, or one of these causes
abbrev pub IsOpenFault : (QueueOpenFault → Type 0) → OpenFault → Type 0
IsOpenFault refuses Memory = Unit {0}
IsOpenFault refuses (Setup fault) = refuses fault
