-- What the queue's own calls check, in order, and what they answer if a check fails.
use Rattle.std.specs.Prelude.{◌^◌, ◌∷◌, ◌≡◌, ◌≤◌}
use Rattle.tag_queue.specs.Uses.{[], Checks, IfSome, IsSome, layout_of, None, Ordinary, ℕ}
use Rattle.tag_layout.specs.declared.layout.TheConstants.{MAX_DEPTH, MAX_SHIFT}
use Rattle.tag_model.specs.declared.world.TheConstants.{MAX_CALLERS, MOST_WON}
use Rattle.tag_pool.specs.Hands.{HasRoom}
use Rattle.tag_pool.specs.declared.options.Options.{Options}
use Rattle.tag_queue.specs.declared.hand.QueueHand.{QueueHand}
use Rattle.tag_queue.specs.declared.queue.Queue.{Queue}
use Rattle.tag_queue.specs.declared.fault.QueueOpenFault.{QueueOpenFault}
use Rattle.tag_queue.specs.declared.fault.QueueOpenFault.TheVariants.{CallerCount, CapTooLarge, LifeTooLong, ReservedTooLarge, ShiftTooLarge, TotalTooLarge}
use Rattle.tag_queue.specs.declared.fault.WaitFault.{WaitFault}
use Rattle.tag_queue.specs.declared.fault.WaitFault.TheVariants.{NoSuchTag, Waiting, NotWaiting, Spent}
use Rattle.tag_queue.specs.Hands.{in_pool, pool_of, standing_of}

-- an entry into a wait group
abbrev pub wait_checks : {R : Type 0} → QueueHand R → Checks WaitFault
wait_checks hand = (standing_of hand ≡ None, Waiting) ∷ []

-- a leave of a wait group
abbrev pub leave_checks : {R : Type 0} → QueueHand R → Checks WaitFault
leave_checks hand = (IsSome (standing_of hand), NotWaiting) ∷ []

-- a get that waits
abbrev pub blocking_checks : {R : Type 0} → Queue R → QueueHand R → Checks WaitFault
blocking_checks queue hand = (1 ≤ (layout_of (pool_of queue) Ordinary).depth, NoSuchTag)
    ∷ (standing_of hand ≡ None, Waiting) ∷ (HasRoom (in_pool hand) Ordinary 1, Spent) ∷ []

-- an open
abbrev pub open_checks : Options → ℕ → Checks QueueOpenFault
open_checks options cap = (options.depth ≤ MAX_DEPTH, TotalTooLarge)
    ∷ (options.reserved ≤ options.depth, ReservedTooLarge)
    ∷ (IfSome options.shift (λ s. s ≤ MAX_SHIFT), ShiftTooLarge)
    ∷ ((1 ≤ options.hands) × (options.hands ≤ MAX_CALLERS), CallerCount)
    ∷ (options.life ≤ MOST_WON, LifeTooLong)
    ∷ (cap ≤ 2 ^ 56, CapTooLarge) ∷ []
