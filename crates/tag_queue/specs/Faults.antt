-- The faults of a queue that a pool's faults become.
use Rattle.std.specs.Prelude.{◌<◌, ◌^◌, ◌≡◌, ◌≤◌, ◌⊎◌, ℕ}
use Rattle.tag_pool.specs.declared.fault.OpenFault.{OpenFault}
use Rattle.tag_pool.specs.declared.fault.OpenFault.TheVariants as pool
use Rattle.tag_queue.specs.declared.fault.QueueOpenFault.{QueueOpenFault}
use Rattle.tag_queue.specs.declared.fault.QueueOpenFault.TheVariants.{Memory, TotalTooLarge, ReservedTooLarge, ShiftTooLarge, CallerCount, LifeTooLong, CapTooLarge}

-- the fault of the same name
abbrev pub of_pool : OpenFault → QueueOpenFault
of_pool pool.Memory = Memory
of_pool pool.TotalTooLarge = TotalTooLarge
of_pool pool.ReservedTooLarge = ReservedTooLarge
of_pool pool.ShiftTooLarge = ShiftTooLarge
of_pool pool.CallerCount = CallerCount
of_pool pool.LifeTooLong = LifeTooLong

-- why a queue with this cap can't be opened if its pool can't for this fault: too large a cap is told before memory
abbrev pub IsRefusal : ℕ → OpenFault → QueueOpenFault → Type 0
IsRefusal cap pool.Memory told = ((cap ≤ 2 ^ 56) × (told ≡ Memory)) ⊎ ((2 ^ 56 < cap) × (told ≡ CapTooLarge))
IsRefusal cap fault told = told ≡ of_pool fault
