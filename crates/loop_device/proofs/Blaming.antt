-- What a play reports where it fails.
use Rattle.loop_device.proofs.Uses.{[], AreTagsFor, arith, clean, Contains, Contains-append_right, Done, Err, false, Faults, get_or, HasRun, IfOk, inr, Io, IsHistory, IsLineOf, IsPlayFault, IsRun, IsSeen, length, length-map, List, Lost, map, Memory, Ok, OnOk, PlayFault, Queue, QueueHand, refl, Result, SaysSeen, Setup, Spurious, subst, suc, sym, Twice, zero, ℕ}
use Rattle.std.proofs.Common.{◌≡◌, ◌≢◌, ◌<◌, ◌∷◌, IfErr}
use Rattle.tag_model.specs.declared.totals.Totals.{Totals}
use Rattle.tag_queue.specs.declared.gather.QueueTotals.{QueueTotals}
use Rattle.tag_queue.specs.Gathering.{IsGathered}
use Rattle.loop_device.specs.declared.fault.PlayFault.TheVariants as variants
use Rattle.loop_device.specs.declared.report.Report.{Report}
use Rattle.loop_device.specs.declared.setup.Setup.{Setup as Asked}
use Rattle.loop_device.specs.Playing.{IsClean, IsJudged, NamesLine}

-- a fault of the verdict is that of the play, where no thread ran into another
pub passed_on : (ios : List Io) (done : List Done) (totals : Totals) (faults : Faults) (fault : PlayFault)
    → IsClean faults → IsPlayFault ios done fault → IsJudged ios done totals faults fault
passed_on ios done totals faults Memory none tells = tt
passed_on ios done totals faults Setup none tells = tells
passed_on ios done totals faults (Lost line) none tells = (none, tells)
passed_on ios done totals faults (Twice line) none tells = (none, tells)
passed_on ios done totals faults Spurious none tells = record { memory = none.memory; cause = inr tells }
passed_on ios done totals faults variants.Totals none tells = absurd tells

-- a number that is among those of the lines is the number of one
line_among : (ios : List Io) (k line : ℕ) → k < length ios → get_or (map (λ (io : Io). io.line) ios) k line ≡ line
    → IsLineOf ios line
line_among [] k line low e = absurd (omega arith)
line_among (io ∷ ios) zero line low e = (io, (0, omega arith, refl), e)
line_among (io ∷ ios) (suc k) line low e =
    let it = line_among ios k line (omega arith) e in (it.0, Contains-append_right (io ∷ []) ios it.0 it.1, it.2)

named : (ios : List Io) (line : ℕ) → Contains (map (λ (io : Io). io.line) ios) line → IsLineOf ios line
named ios line among =
    line_among ios among.0 line (omega (arith, among.1, length-map ios (λ (io : Io). io.line))) among.2

-- the lines that a play's fault names are those of the log
names_line : (ios : List Io) (done : List Done) (totals : Totals) (faults : Faults) (fault : PlayFault)
    → IsJudged ios done totals faults fault → NamesLine ios fault
names_line ios done totals faults Memory is = tt
names_line ios done totals faults Setup is = tt
names_line ios done totals faults (Lost line) is = named ios line is.1.among
names_line ios done totals faults (Twice line) is = named ios line is.1.among
names_line ios done totals faults Spurious is = tt
names_line ios done totals faults variants.Totals is = tt

pub names_lines : (ios : List Io) (done : List Done) (totals : Totals) (faults : Faults) (r : Result Report PlayFault)
    → IfErr r (IsJudged ios done totals faults) → IfErr r (NamesLine ios)
names_lines ios done totals faults (Ok report) is = tt
names_lines ios done totals faults (Err fault) is = names_line ios done totals faults fault is

-- what is judged after the play is never that the setup was refused
pub no_setup : (ios : List Io) (done : List Done) (totals : Totals) (faults : Faults) (r : Result Report PlayFault)
    → IfErr r (IsJudged ios done totals faults) → IfErr r (λ fault. fault ≢ Setup)
no_setup ios done totals faults (Ok report) is = tt
no_setup ios done totals faults (Err fault) is = λ (e : fault ≡ Setup).
    subst (λ (f : PlayFault). IsJudged ios done totals faults f) e is

-- what the threads did under tags that are gathered then is a run
pub runs : (tags : Queue ℕ) (setup : Asked) (ios : List Io) (hands : List (QueueHand ℕ)) (faults : Faults)
    (gathered : QueueTotals) → AreTagsFor setup tags → (faults.memory ≡ false → HasRun tags setup ios hands faults)
    → IsGathered tags hands gathered → faults.memory ≡ false → IsRun setup ios gathered.tags faults
runs tags setup ios hands faults gathered asked run all none = record {
  tags = tags;
  asked = asked;
  hands = hands;
  run = run none;
  gathered = gathered;
  all = all;
  totals_are = refl;
}

clean_is : (faults : Faults) → IsClean faults → faults ≡ clean
clean_is faults is i = record { memory = is.memory i; spurious = is.spurious i }

module _ (setup : Asked) (ios : List Io) (done : List Done) (totals : Totals) (faults : Faults)
    (run : faults.memory ≡ false → IsRun setup ios totals faults) where
  seen_by : IsHistory done → (fault : PlayFault) → faults.memory ≡ false → IsJudged ios done totals faults fault
      → IsSeen setup ios fault
  seen_by lawful fault none is = record {
    done = done;
    lawful = lawful;
    totals = totals;
    faults = faults;
    ran = run none;
    judged = is;
  }

  -- what the play saw is what its fault says
  seen : IsHistory done → (fault : PlayFault) → IsJudged ios done totals faults fault → SaysSeen setup ios fault
  seen lawful Memory is = tt
  seen lawful Setup is = tt
  seen lawful (Lost line) is = seen_by lawful (Lost line) is.0.memory is
  seen lawful (Twice line) is = seen_by lawful (Twice line) is.0.memory is
  seen lawful Spurious is = seen_by lawful Spurious is.memory is
  seen lawful variants.Totals is = seen_by lawful variants.Totals is.0.memory is

  pub says_seen : IsHistory done → (r : Result Report PlayFault) → IfErr r (IsJudged ios done totals faults)
      → IfErr r (SaysSeen setup ios)
  says_seen lawful (Ok report) is = tt
  says_seen lawful (Err fault) is = seen lawful fault is

  -- a report has the totals of a run without faults
  pub has_run : (Reports : Report → Type 0) (r : Result Report PlayFault) → OnOk r (IsClean faults)
      → IfOk r (λ report. Reports report × (report.totals ≡ totals))
      → IfOk r (λ report. IsRun setup ios report.totals clean)
  has_run Reports (Ok report) is same = subst (λ (z : Totals × Faults). IsRun setup ios z.0 z.1)
      (λ i. (sym same.1 i, clean_is faults is i)) (run is.memory)
  has_run Reports (Err fault) is same = tt
