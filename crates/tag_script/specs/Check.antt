-- The verdict of `check` on a list of events.
use Rattle.tag_script.specs.Uses.{AreReadings, codes, Event, EventFault, field, IsFirstFaulty, IsSomeAnd, Layout, length, List, MAX_DEPTH, MAX_SHIFT, QueueOpenFault, Whole, Word, ℕ}
use Rattle.std.specs.Prelude.{◌≡◌, ◌⊎◌, ◌+◌, ◌<◌, ◌≤◌, ◌++◌}
use Rattle.tag_model.specs.declared.world.TheConstants.{MAX_CALLERS}
use Rattle.tag_model.specs.World.{World, opened}
use Rattle.tag_model.specs.Runs.{after_all, MayRun, StopsAt}
use Rattle.tag_model.specs.Totals.{AreTotals}
use Rattle.tag_script.specs.declared.options.CheckOptions.{CheckOptions}
use Rattle.tag_queue.specs.declared.fault.QueueOpenFault.TheVariants as faults
use Rattle.tag_script.specs.declared.ending.Ending.{Ending}
use Rattle.tag_script.specs.declared.ending.Ending.TheVariants.{Done}
use Rattle.tag_script.specs.declared.check.Verdict.{Verdict}
use Rattle.tag_script.specs.declared.check.Verdict.TheVariants.{Faulty, Setup, Stopped, Legal}
use Rattle.tag_lines.specs.Faults.{place_of}
use Rattle.tag_script.specs.Refusals.{IsRefusedAt, wrong_word}
use Rattle.tag_script.specs.Faults.{number_of_event_fault}
use Rattle.tag_lines.specs.EventList.{event_of}
use Rattle.tag_script.specs.Setups.{IsLayoutOf}
use Rattle.tag_script.specs.Texts.{totals_text, faulty_text, setup_text}

-- the number of callers is legal
abbrev pub HasCallers : CheckOptions → Type 0
HasCallers o = (1 ≤ o.callers) × (o.callers ≤ MAX_CALLERS)

-- the first cause that refuses the setup
abbrev pub IsSetupFault : CheckOptions → QueueOpenFault → Type 0
IsSetupFault o faults.Memory = ⊥
IsSetupFault o faults.TotalTooLarge = MAX_DEPTH < o.tags
IsSetupFault o faults.ReservedTooLarge = ⊥
IsSetupFault o faults.ShiftTooLarge = (o.tags ≤ MAX_DEPTH) × IsSomeAnd o.shift (λ s. MAX_SHIFT < s)
IsSetupFault o faults.CallerCount = (l : Layout) × IsLayoutOf o.tags o.shift l
    × ((o.callers ≡ 0) ⊎ (MAX_CALLERS < o.callers))
IsSetupFault o faults.LifeTooLong = ⊥
IsSetupFault o faults.CapTooLarge = ⊥

-- the event at index n - 1, in line n, is the first that cannot happen, for this cause, and this word of it is wrong
pub record IsStopped (l : Layout) (callers : ℕ) (w : World) (events : List Event) (line word : ℕ)
    (fault : EventFault) : Type 0 where
  pub index : ℕ
  pub line_is : line ≡ index + 1
  pub stops : StopsAt l callers w events index fault
  pub word_is : word ≡ wrong_word l stops.event fault

-- the verdict on a run of events
abbrev pub IsRunVerdict : Layout → ℕ → World → List Event → Verdict → Type 0
IsRunVerdict l callers w events (Faulty fault) = ⊥
IsRunVerdict l callers w events (Setup fault) = ⊥
IsRunVerdict l callers w events (Stopped line word fault) = IsStopped l callers w events line word fault
IsRunVerdict l callers w events (Legal count totals) =
    (count ≡ length events) × MayRun l callers w events × AreTotals l callers (after_all l events w) totals

-- each line is an event, and the verdict is that of a run from a new world
pub record RunsEvents (o : CheckOptions) (text : List ℕ) (verdict : Verdict) : Type 0 where
  pub events : List Event
  pub layout : Layout
  pub lines : AreReadings event_of text events
  pub layout_is : IsLayoutOf o.tags o.shift layout
  pub callers : HasCallers o
  pub run : IsRunVerdict layout o.callers opened events verdict

-- the verdict on a text: its first malformed line, else a refused setup, else the verdict on the run
abbrev pub IsVerdict : CheckOptions → List ℕ → Verdict → Type 0
IsVerdict o text (Faulty fault) = IsFirstFaulty event_of text fault
IsVerdict o text (Setup fault) = (events : List Event) × AreReadings event_of text events × IsSetupFault o fault
IsVerdict o text (Stopped line word fault) = RunsEvents o text (Stopped line word fault)
IsVerdict o text (Legal count totals) = RunsEvents o text (Legal count totals)

-- the line that reports a verdict
abbrev pub verdict_text : Verdict → List ℕ
verdict_text (Faulty fault) = faulty_text fault
verdict_text (Setup fault) = setup_text fault
verdict_text (Stopped line word fault) =
    field (codes "event ") line ++ field (codes " refused ") (number_of_event_fault fault) ++ codes "\n"
verdict_text (Legal count totals) = field (codes "ok events=") count ++ totals_text totals ++ codes "\n"

-- a legal list is done, and any other is refused for what is wrong
abbrev pub EndsIn : Verdict → Ending → Type 0
EndsIn (Faulty fault) ending = IsRefusedAt (place_of fault) ending
EndsIn (Setup fault) ending = IsRefusedAt Whole ending
EndsIn (Stopped line word fault) ending = IsRefusedAt (Word line word) ending
EndsIn (Legal count totals) ending = ending ≡ Done

-- the output for a list, and how it ends, by its verdict
pub record TellsVerdict (o : CheckOptions) (list text : List ℕ) (ending : Ending) : Type 0 where
  pub verdict : Verdict
  pub verdict_is : IsVerdict o list verdict
  pub text_is : text ≡ verdict_text verdict
  pub ending_is : EndsIn verdict ending
