-- The output for a log, from what was read of it and the outcome of its play.
use Rattle.std.proofs.Common.{◌≡◌, ◌≢◌, ◌↔◌, ℕ, List, [], ◌++◌, Result, Ok, Err, refl, sym, ap, subst, ◌∙◌}
use Rattle.loop_device.specs.declared.fault.LogCause.TheVariants as causes
use Rattle.loop_device.specs.declared.fault.LogFault.{LogFault}
use Rattle.loop_device.specs.declared.fault.PlayFault.{PlayFault}
use Rattle.loop_device.specs.declared.fault.PlayFault.TheVariants.{Memory, Setup, Lost, Twice, Spurious, Totals}
use Rattle.loop_device.specs.declared.io.Log.{Log}
use Rattle.loop_device.specs.declared.report.Report.{Report}
use Rattle.loop_device.specs.declared.setup.Setup.{Setup as SetupAsked}
use Rattle.loop_device.specs.LogFaults.{place_of_fault}
use Rattle.tag_lines.specs.declared.refusal.Refusal.{Refusal}
use Rattle.tag_runs.specs.declared.options.PlayOptions.{PlayOptions}
use Rattle.loop_device.specs.Playing.{IsPlayed, NamesLine}
use Rattle.loop_device.specs.Setups.{IsLegal}
use Rattle.tag_script.specs.declared.ending.Ending.TheVariants.{Done, Refused}
use Rattle.tag_runs.specs.Reports.{IsRead, IsUnread, Reports, faulty, place_of_play, played, log_fault_text, play_fault_text, report_text}

-- the outcome is a refused setup exactly if the setup is not legal
abbrev pub RefusesSetup : SetupAsked → Result Report PlayFault → Type 0
RefusesSetup setup outcome = (outcome ≡ Err Setup) ↔ ¬ (IsLegal setup)

-- an outcome with another fault than memory
other_outcome : (fault : PlayFault) (outcome : Result Report PlayFault)
    → outcome ≡ Err fault → fault ≢ Memory → outcome ≢ Err Memory
other_outcome Memory outcome is other e = absurd (other refl)
other_outcome Setup outcome is other e = cc
other_outcome (Lost line) outcome is other e = cc
other_outcome (Twice line) outcome is other e = cc
other_outcome Spurious outcome is other e = cc
other_outcome Totals outcome is other e = cc

-- the line of the log's first fault is its output
pub owes_line : (o : PlayOptions) (input before text : List ℕ) (fault : LogFault) (refusal : Refusal)
    → IsUnread o.with_times input fault → fault.cause ≢ causes.Memory
    → refusal.place ≡ place_of_fault o.with_times fault → before ≡ []
    → text ≡ before ++ log_fault_text fault → Reports o input text (Refused refusal)
owes_line o input before text fault refusal is other place none text_is =
    let same : text ≡ log_fault_text fault = text_is ∙ ap (λ front. front ++ log_fault_text fault) none in
    subst (λ t. Reports o input t (Refused refusal)) (sym same) (faulty fault (Refused refusal) is other place)

-- the report of a completed play is its output
pub owes_report : (o : PlayOptions) (input before text : List ℕ) (log : Log) (report : Report)
    (outcome : Result Report PlayFault) → IsRead o.with_times input log → outcome ≡ Ok report
    → IsPlayed log.ios.items report → RefusesSetup o.setup outcome → before ≡ []
    → text ≡ before ++ report_text log report → Reports o input text Done
owes_report o input before text log report outcome spelt is played_well refuses none text_is =
    let same : text ≡ report_text log report = text_is ∙ ap (λ front. front ++ report_text log report) none in
    subst (λ t. Reports o input t Done) (sym same)
    (played log (Ok report) Done spelt (record {
      played = played_well;
      setup_refused = subst (λ r. RefusesSetup o.setup r) is refuses;
      no_memory = λ e. cc;
      names = tt;
    }) refl)

-- the line of a play's fault is its output
pub owes_fault : (o : PlayOptions) (input before text : List ℕ) (log : Log) (fault : PlayFault) (refusal : Refusal)
    (outcome : Result Report PlayFault) → IsRead o.with_times input log → outcome ≡ Err fault → fault ≢ Memory
    → RefusesSetup o.setup outcome → NamesLine log.ios.items fault → refusal.place ≡ place_of_play fault
    → before ≡ [] → text ≡ before ++ play_fault_text fault → Reports o input text (Refused refusal)
owes_fault o input before text log fault refusal outcome spelt is other refuses names place none text_is =
    let same : text ≡ play_fault_text fault = text_is ∙ ap (λ front. front ++ play_fault_text fault) none in
    subst (λ t. Reports o input t (Refused refusal)) (sym same)
    (played log (Err fault) (Refused refusal) spelt (record {
      played = tt;
      setup_refused = subst (λ r. RefusesSetup o.setup r) is refuses;
      no_memory = subst (λ r. r ≢ Err Memory) is (other_outcome fault outcome is other);
      names = names;
    }) place)
