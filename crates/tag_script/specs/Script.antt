-- The output of a script: the line of its first malformed line, that of a refused setup, or the answers of its orders.
use Rattle.tag_script.specs.Uses.{AreReadings, Bool, false, FaultyLine, IsFirstFaulty, List, Order, QueueOpenFault, true, Whole, ℕ}
use Rattle.tag_lines.specs.declared.dialect.Dialect.{Dialect}
use Rattle.tag_lines.specs.declared.dialect.Dialect.TheVariants.{Plain, Shared}
use Rattle.tag_lines.specs.Faults.{place_of}
use Rattle.tag_lines.specs.ScriptLines.{order_of}
use Rattle.tag_script.specs.declared.ending.Ending.{Ending}
use Rattle.tag_script.specs.declared.ending.Ending.TheVariants.{Done}
use Rattle.tag_script.specs.declared.options.ScriptOptions.{ScriptOptions}
use Rattle.tag_script.specs.PlainScript.{IsRefusedAlone, IsToldAlone}
use Rattle.tag_script.specs.Refusals.{IsRefusedAt}
use Rattle.tag_script.specs.SharedScript.{IsRefusedShared, IsToldShared}
use Rattle.tag_script.specs.Texts.{faulty_text, setup_text}

-- the dialect of a script; a plain one has fewer commands
abbrev pub dialect_of : Bool → Dialect
dialect_of true = Plain
dialect_of false = Shared

-- the first cause that refuses the setup
abbrev pub IsRefusedSetup : Bool → ScriptOptions → QueueOpenFault → Type 0
IsRefusedSetup true = IsRefusedAlone
IsRefusedSetup false = IsRefusedShared

-- the output of its orders
abbrev pub IsTold : Bool → ScriptOptions → List Order → List ℕ → Type 0
IsTold true = IsToldAlone
IsTold false = IsToldShared

-- the output of a script, and how it ends: the line of its first malformed line, with a refusal for its wrong word, else
-- that of a refused setup, else the output of its orders
pub data Owed (o : ScriptOptions) (script : List ℕ) : List ℕ → Ending → Type 0 where
  faulty : (fault : FaultyLine) (ending : Ending)
      → IsFirstFaulty (order_of (dialect_of o.plain) o.callers) script fault
      → IsRefusedAt (place_of fault) ending → Owed o script (faulty_text fault) ending
  refused : (orders : List Order) (fault : QueueOpenFault) (ending : Ending)
      → AreReadings (order_of (dialect_of o.plain) o.callers) script orders
      → IsRefusedSetup o.plain o fault → IsRefusedAt Whole ending → Owed o script (setup_text fault) ending
  answered : (orders : List Order) (text : List ℕ) → AreReadings (order_of (dialect_of o.plain) o.callers) script orders
      → IsTold o.plain o orders text → Owed o script text Done
