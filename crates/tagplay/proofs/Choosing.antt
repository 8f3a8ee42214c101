-- What a parse of the words comes to.
use Rattle.std.proofs.Common.{◌≡◌, ◌⊎◌, ◌∙◌, inl, inr, true, List, [], Option, Result, refl, sym, ap, subst}
use Rattle.clap.specs.Words.{App, FailsBy, HasMatchesOf, IsAmong, Row, Text, fault_of, is_simple, is_simple_and_free, subcommand_of, subcommand_rows_of}
use Rattle.clap.proofs.OnLiterals.{clap_on_literals}
use Rattle.clap.specs.declared.error.Error.{Error}
use Rattle.clap.specs.declared.error.kind.ErrorKind.{ErrorKind}
use Rattle.clap.specs.declared.error.kind.ErrorKind.TheVariants.{OutOfMemory}
use Rattle.clap.specs.declared.parser.matches.ArgMatches.{ArgMatches}
use Rattle.tag_runs.specs.declared.fault.RunFault.TheVariants.{Memory, Read, Write, TooLong}
use Rattle.tagplay.specs.Subcommands.{Chooses, IsChosen}
use Rattle.tagplay.specs.CommandLine.{command_line, EntersOne}
use Rattle.tagplay.specs.Status.{IsStopFor, StopsBefore}
use Rattle.tagplay.specs.declared.subcommand.Subcommand.{Subcommand}
use Rattle.tagplay.specs.declared.stop.Stop.{Stop}
use Rattle.tagplay.specs.declared.stop.Stop.TheVariants.{CommandLine, Run}
use Rattle.tagplay.proofs.Entering.{enters}

is_plain : is_simple command_line ≡ true
unfolding clap_on_literals
is_plain = refl

is_free : is_simple_and_free command_line ≡ true
unfolding clap_on_literals
is_free = refl

-- the outcome of a parse of the command line has the faults of the words
pub fails_by : {T : Type 0} → (app : App) (words : List Text) (r : Result T Error) → app ≡ command_line
    → (is_simple_and_free app ≡ true → FailsBy (fault_of app words) r) → FailsBy (fault_of command_line words) r
fails_by app words r is kinds =
    subst (λ (a : App). FailsBy (fault_of a words) r) is (kinds (ap is_simple_and_free is ∙ is_free))

-- and the matches enter what the words name
pub rows_by : (app : App) (words : List Text) (m : ArgMatches) → app ≡ command_line → HasMatchesOf app words m
    → subcommand_rows_of m ≡ subcommand_of command_line words
rows_by app words m is matches = (matches (ap is_simple is ∙ is_plain)).1 ∙ ap (λ (a : App). subcommand_of a words) is

pub chooses : (words : List Text) (entered : Option (Text × List Row)) (subcommand : Subcommand)
    → fault_of command_line words ≡ [] → entered ≡ subcommand_of command_line words → IsChosen entered subcommand
    → Chooses words subcommand
chooses words entered subcommand faultless is chosen = record {
  faultless = faultless;
  chosen = subst (λ (e : Option (Text × List Row)). IsChosen e subcommand) is chosen;
}

-- one of the three subcommands is entered
pub one_entered : (words : List Text) (entered : Option (Text × List Row)) → fault_of command_line words ≡ []
    → entered ≡ subcommand_of command_line words → (EntersOne entered → ⊥) → ⊥
one_entered words entered faultless is none = none (subst EntersOne (sym is) (enters words faultless))

-- the program stops before a run as an error of `clap` says
pub stops_before : (words : List Text) (kind : ErrorKind) (stop : Stop)
    → (kind ≡ OutOfMemory) ⊎ IsAmong kind (fault_of command_line words)
    → IsStopFor kind stop → StopsBefore words stop
stops_before words kind (CommandLine status) (inl memory) h = absurd (h.0 memory)
stops_before words kind (CommandLine status) (inr among) h = record { kind = kind; fault = among; ends = h.1 }
stops_before words kind (Run Memory) fault h = tt
stops_before words kind (Run Read) fault h = absurd h
stops_before words kind (Run Write) fault h = absurd h
stops_before words kind (Run TooLong) fault h = absurd h
