-- Views of callers' records, and the steps in them.
use Rattle.std.specs.Prelude.{◌∷◌}
use Rattle.tag_core.specs.Uses.{[], List, records_from, viewing, ℕ}
use Rattle.step_ledger.specs.declared.record.View as ledger
use Rattle.tag_core.specs.declared.shape.Shape.{Shape}
use Rattle.tag_core.specs.declared.step.Step.{Step}
use Rattle.tag_core.specs.declared.record.Record.{Record}
use Rattle.tag_core.specs.Records.{fresh_record}

-- the view of a seat that has callers' records
abbrev pub View : Type 0 → Type 0
View R = ledger.View (Record R)

-- the steps of the first record
abbrev pub steps_in : {R : Type 0} → List (Record R) → List (Step R)
steps_in [] = []
steps_in (r ∷ rs) = r.steps

-- the steps of a running caller
abbrev pub steps_of : {R : Type 0} → View R → List (Step R)
steps_of v = steps_in v.records.value

-- the records of the callers of a new map, from this number on
abbrev pub fresh : {R : Type 0} → Shape → ℕ → ℕ → List (Record R)
fresh k caller count = records_from (fresh_record k) caller count

-- the records of all callers of a new map
abbrev pub all_fresh : {R : Type 0} → Shape → View R
all_fresh k = viewing (fresh k 0 k.callers)
