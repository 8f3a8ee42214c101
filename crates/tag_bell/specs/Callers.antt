-- The terms in which contracts say of a caller whether it waits, and what it has to see to.
use Rattle.std.specs.Prelude.{◌≡◌}
use Rattle.tag_bell.specs.Uses.{Caller, Layout, record_of, same_waiter, Waiter, waits_as}
use mathlib.Core.Option.{none, some}
use Rattle.tag_bell.specs.Waiting as steps

-- the layout of the caller's map
abbrev pub layout_of : {R : Type 0} → Caller R → Layout
layout_of caller = (record_of caller).shape.layout

-- it has listed itself as this waiter, and not got up since
abbrev pub IsWaiting : {R : Type 0} → Waiter → Caller R → Type 0
IsWaiting waiter caller = waits_as (record_of caller).steps ≡ some waiter

-- it does not wait
abbrev pub IsUp : {R : Type 0} → Caller R → Type 0
IsUp caller = waits_as (record_of caller).steps ≡ none

-- it waits as it did before
abbrev pub WaitsAsBefore : {R : Type 0} → Caller R → Caller R → Type 0
WaitsAsBefore old new = waits_as (record_of new).steps ≡ waits_as (record_of old).steps

-- it has to see to no tag for the sake of such a waiter
abbrev pub OwesNothing : {R : Type 0} → Waiter → Caller R → Type 0
OwesNothing kind caller = steps.OwesNothing (layout_of caller) (same_waiter kind) (record_of caller).steps

-- since it listed itself last, it tried each tag in vain
abbrev pub HasTriedAll : {R : Type 0} → Caller R → Type 0
HasTriedAll caller = steps.TriedAll (layout_of caller) (record_of caller).steps
