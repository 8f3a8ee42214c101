-- What a run returns determines what its exit status says.
use Rattle.std.proofs.Common.{◌≡◌, ◌≢◌, ℕ, List, Option, Result, Ok, Err, IfOk, IsErrOf, inl, inr, refl, ap}
use Rattle.clap.specs.Words.{Text}
use Rattle.tag_runs.specs.Input.{StopsReading}
use Rattle.tag_runs.specs.Runs.{HasOutput, WritesOutput}
use Rattle.tag_runs.specs.declared.fault.RunFault.{RunFault}
use Rattle.tag_runs.specs.declared.fault.RunFault.TheVariants.{Memory, Write}
use Rattle.tag_script.specs.declared.ending.Ending.{Ending}
use Rattle.tagplay.specs.declared.stop.Stop.{Stop}
use Rattle.tagplay.specs.declared.stop.Stop.TheVariants.{CommandLine, Run}
use Rattle.tagplay.specs.declared.subcommand.Subcommand.{Subcommand}
use Rattle.tagplay.specs.Ends.{EndsWith}
use Rattle.tagplay.specs.Status.{IsRefused, status_of}
use Rattle.tagplay.specs.Subcommands.{owed_by, Chooses}

module _ (words : List Text) (given left before after : Option (List ℕ)) where
  abbrev failed : RunFault → Result Ending Stop
  failed fault = Err (Run fault)

  pub ends : (result : Result Ending Stop)
      → IfOk result (λ ending. (subcommand : Subcommand) × Chooses words subcommand
      × WritesOutput (owed_by subcommand) given before after ending)
      → ((status : ℕ) → IsErrOf result (CommandLine status)
      → IsRefused words status × (left ≡ given) × (after ≡ before))
      → ((fault : RunFault) → IsErrOf result (Run fault) → fault ≢ Memory
      → (subcommand : Subcommand) × Chooses words subcommand)
      → ((fault : RunFault) → IsErrOf result (Run fault) → StopsReading fault given left)
      → ((fault : RunFault) → IsErrOf result (Run fault) → fault ≢ Write → after ≡ before)
      → (IsErrOf result (Run Write)
      → (subcommand : Subcommand) × Chooses words subcommand × HasOutput (owed_by subcommand) given)
      → EndsWith words given left before after (status_of result)
  ends (Ok ending) written refused begun stopped untouched answered = inl
      (ending, record { subcommand = written.0; chosen = written.1; written = written.2 }, refl)
  ends (Err (CommandLine status)) written refused begun stopped untouched answered =
      let r = refused status refl in inr (inl (record { refused = r.0; unread = r.1; unwritten = r.2 }))
  ends (Err (Run fault)) written refused begun stopped untouched answered = inr (inr (
    record {
      fault = fault;
      begun = begun fault refl;
      stopped = stopped fault refl;
      unwritten = untouched fault refl;
      answered = λ e. answered (ap failed e);
    },
    refl,
  ))
