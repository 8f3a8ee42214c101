-- The setups with which a log may be played.
use Rattle.std.specs.Prelude.{◌≤◌, ◌<◌, IsSomeAnd}
use Rattle.tag_layout.specs.declared.layout.TheConstants.{MAX_DEPTH, MAX_SHIFT}
use Rattle.loop_device.specs.declared.setup.TheConstants.{MAX_THREADS}
use Rattle.loop_device.specs.declared.setup.Setup.{Setup}

-- each number is within its limits, and at least one tag is ordinary
pub record IsLegal (setup : Setup) : Type 0 where
  pub total : setup.total ≤ MAX_DEPTH
  pub ordinary : setup.reserved < setup.total
  pub shift : ¬ (IsSomeAnd setup.shift (λ shift. MAX_SHIFT < shift))
  pub submitters : (1 ≤ setup.submitters) × (setup.submitters ≤ MAX_THREADS)
  pub completers : (1 ≤ setup.completers) × (setup.completers ≤ MAX_THREADS)
  pub queue : (1 ≤ setup.queue) × (setup.queue ≤ MAX_DEPTH)
