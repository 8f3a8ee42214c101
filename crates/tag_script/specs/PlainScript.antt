-- The output of a script with one caller alone with plain words.
use Rattle.tag_script.specs.Uses.{IsSomeAnd, Layout, List, max, MAX_DEPTH, MAX_SHIFT, Option, Order, QueueOpenFault, unwrap_or, ℕ}
use Rattle.std.specs.Prelude.{◌≡◌, ◌≢◌, ◌<◌, ◌≤◌}
use Rattle.tag_queue.specs.declared.fault.QueueOpenFault.TheVariants as faults
use Rattle.tag_script.specs.declared.options.ScriptOptions.{ScriptOptions}
use Rattle.tag_script.specs.Commands.{ObeysOrder, AreTotals}
use Rattle.tag_script.specs.Outputs.{IsRun}
use Rattle.tag_script.specs.Setups.{IsLayoutOf}
use Rattle.tag_script.specs.PlainWorld.{opened}

-- the layout of this many tags, none of them reserved
pub record IsMapOf (o : ScriptOptions) (l : Layout) : Type 0 where
  pub none_reserved : o.reserved ≡ 0
  pub layout : IsLayoutOf o.tags o.shift l

-- the first cause that refuses the setup
abbrev pub IsRefusedAlone : ScriptOptions → QueueOpenFault → Type 0
IsRefusedAlone o faults.Memory = ⊥
IsRefusedAlone o faults.TotalTooLarge = MAX_DEPTH < o.tags
IsRefusedAlone o faults.ReservedTooLarge = (o.tags ≤ MAX_DEPTH) × (0 < o.reserved)
IsRefusedAlone o faults.ShiftTooLarge = (o.tags ≤ MAX_DEPTH) × (o.reserved ≡ 0) × IsSomeAnd o.shift (λ s. MAX_SHIFT < s)
IsRefusedAlone o faults.CallerCount = (l : Layout) × IsMapOf o l × (o.callers ≢ 1)
IsRefusedAlone o faults.LifeTooLong = ⊥
IsRefusedAlone o faults.CapTooLarge = ⊥

-- a map for one caller
pub record IsSetup (o : ScriptOptions) (l : Layout) : Type 0 where
  pub map : IsMapOf o l
  pub alone : o.callers ≡ 1

-- the least depth of a shallow get: the option, but at least 1
abbrev pub least_depth : Option ℕ → ℕ
least_depth asked = max 1 (unwrap_or asked 1)

-- the output of the orders
pub record IsToldAlone (o : ScriptOptions) (orders : List Order) (text : List ℕ) : Type 0 where
  pub layout : Layout
  pub setup : IsSetup o layout
  pub run : IsRun ObeysOrder AreTotals (opened layout o.round_robin (least_depth o.min_shallow)) orders text
