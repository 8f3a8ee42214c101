-- Callers that lend their records, so that all come together for a while.
use Rattle.std.specs.Prelude.{◌≡◌}
use Rattle.tag_core.specs.Uses.{get_elem?, List, some}
use Rattle.tag_core.specs.declared.shape.Shape.{Shape}
use Rattle.tag_core.specs.declared.record.Record.{Record}
use Rattle.tag_core.specs.declared.caller.Caller.{Caller}
use Rattle.tag_core.specs.declared.map.Map.{Map}
use Rattle.tag_core.specs.declared.loans.Lender.{Lender}
use Rattle.tag_core.specs.declared.loans.Loans.{Loans}

-- the caller as it was when it lent its record
abbrev pub caller_before : {R : Type 0} → Lender R → Caller R
caller_before lender = lender.was.value

-- the records that were lent, the latest first
abbrev pub lent : {R : Type 0} → Loans R → List (Record R)
lent loans = loans.seat.me.0.records.value

-- callers of this map lent them
abbrev pub AreLoansOf : {R : Type 0} → Map R → Loans R → Type 0
AreLoansOf owner loans = loans.seat.table_id ≡ owner.table.shared.table_id

-- the first of these records is of this shape
abbrev pub BeginsWith : {R : Type 0} → Shape → List (Record R) → Type 0
BeginsWith {R} k rs = (r : Record R) × (get_elem? rs 0 ≡ some r) × (r.shape ≡ k)
