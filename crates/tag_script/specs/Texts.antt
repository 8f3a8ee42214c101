-- Texts that every run may write.
use Rattle.tag_script.specs.Uses.{codes, FaultyLine, field, List, QueueOpenFault, Totals, ℕ}
use Rattle.std.specs.Prelude.{◌++◌}
use Rattle.tag_lines.specs.Faults.{number_of_line_fault}
use Rattle.tag_script.specs.Faults.{number_of_setup_fault}

-- the four totals, each after its name
abbrev pub totals_text : Totals → List ℕ
totals_text t =
    field (codes " got=") t.got ++ field (codes " back=") t.back ++ field (codes " held=") t.held
    ++ field (codes " posted=") t.posted

-- the last line of a script
abbrev pub total_line : Totals → List ℕ
total_line t = codes "total" ++ totals_text t ++ codes "\n"

-- the line that reports a malformed line
abbrev pub faulty_text : FaultyLine → List ℕ
faulty_text fault =
    field (codes "line ") fault.number ++ field (codes " refused ") (number_of_line_fault fault.cause) ++ codes "\n"

-- the line that reports a refused setup
abbrev pub setup_text : QueueOpenFault → List ℕ
setup_text fault = field (codes "setup refused ") (number_of_setup_fault fault) ++ codes "\n"
