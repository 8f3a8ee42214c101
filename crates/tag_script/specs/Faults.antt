-- The numbers of refused setups, events, commands and resizes in the output.
use Rattle.tag_script.specs.Uses.{EventFault, QueueOpenFault, ResizeCause, TagFault, WaitFault, ℕ}
use Rattle.tag_model.specs.declared.event.EventFault.TheVariants as events
use Rattle.tag_queue.specs.declared.fault.QueueOpenFault.TheVariants as setups
use Rattle.tag_pool.specs.declared.fault.TagFault.TheVariants as tags
use Rattle.tag_queue.specs.declared.fault.WaitFault.TheVariants as waits
use Rattle.tag_pool.specs.declared.resizes.ResizeCause.TheVariants as resizes

-- of a setup
abbrev pub number_of_setup_fault : QueueOpenFault → ℕ
number_of_setup_fault setups.Memory = 1
number_of_setup_fault setups.TotalTooLarge = 2
number_of_setup_fault setups.ReservedTooLarge = 3
number_of_setup_fault setups.ShiftTooLarge = 4
number_of_setup_fault setups.CallerCount = 5
number_of_setup_fault setups.LifeTooLong = 6
number_of_setup_fault setups.CapTooLarge = 7

-- of an event
abbrev pub number_of_event_fault : EventFault → ℕ
number_of_event_fault events.NoSuchTag = 1
number_of_event_fault events.NoSuchCaller = 2
number_of_event_fault events.NotFree = 3
number_of_event_fault events.NotHeld = 4
number_of_event_fault events.NotPosted = 5
number_of_event_fault events.Spent = 6
number_of_event_fault events.NotSwept = 7

-- of a command
abbrev pub number_of_tag_fault : TagFault → ℕ
number_of_tag_fault tags.NoSuchTag = 1
number_of_tag_fault tags.NoReserved = 2
number_of_tag_fault tags.NotHeld = 3
number_of_tag_fault tags.NotPosted = 4
number_of_tag_fault tags.BadCount = 5
number_of_tag_fault tags.TooShallow = 6
number_of_tag_fault tags.Spent = 7

-- of a wait, or of its end
abbrev pub number_of_wait_fault : WaitFault → ℕ
number_of_wait_fault waits.NoSuchTag = 1
number_of_wait_fault waits.Spent = 7
number_of_wait_fault waits.Waiting = 8
number_of_wait_fault waits.NotWaiting = 9

-- of a resize
abbrev pub number_of_resize_cause : ResizeCause → ℕ
number_of_resize_cause (resizes.Missing number) = 1
number_of_resize_cause resizes.Memory = 3
number_of_resize_cause (resizes.InUse held posted) = 4
number_of_resize_cause resizes.DepthTooLarge = 5
number_of_resize_cause (resizes.Waiting count) = 6
