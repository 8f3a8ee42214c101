-- Views: the records that a seat has, whatever a record is, and how they pass from seat to seat.
use Rattle.std.specs.Prelude.{◌≡◌, ℕ, zero, suc, ◌<◌, List, [], ◌∷◌, ◌++◌}
use mathlib.Core.Option.{some}
use lib.ListN.{get_elem?}
use Rattle.step_ledger.specs.declared.record.View.{View}

module _ {P : Type 0} where
  -- the view of these records
  abbrev pub viewing : List P → View P
  viewing rs = record { records = record { marker = record {}; value = rs } }

  -- the view of one record
  abbrev pub own_view : P → View P
  own_view r = viewing (r ∷ [])

  -- the first record only
  abbrev pub first_of : List P → List P
  first_of [] = []
  first_of (r ∷ rs) = r ∷ []

  -- all records but the first
  abbrev pub rest_of : List P → List P
  rest_of [] = []
  rest_of (r ∷ rs) = rs

  -- the view that a new seat receives
  abbrev pub first_view : View P → View P
  first_view v = viewing (first_of v.records.value)

  -- the view that the old seat keeps
  abbrev pub other_views : View P → View P
  other_views v = viewing (rest_of v.records.value)

  -- the records of two seats, the first seat's in front
  abbrev pub both_views : View P → View P → View P
  both_views v w = viewing (v.records.value ++ w.records.value)

  -- the records of n members, numbered from c
  abbrev pub records_from : (ℕ → P) → ℕ → ℕ → List P
  records_from record_of c zero = []
  records_from record_of c (suc n) = record_of c ∷ records_from record_of (suc c) n

  -- each number below n has a record: in this seat's view, at this position
  abbrev pub EachStands : (P → ℕ) → ℕ → List (View P) → (ℕ → ℕ) → (ℕ → ℕ) → Type 0
  EachStands number n views seat position = (c : ℕ) → c < n → (v : View P) × (r : P)
      × (get_elem? views (seat c) ≡ some v) × (get_elem? v.records.value (position c) ≡ some r) × (number r ≡ c)
