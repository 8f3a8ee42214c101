-- What all threads of a play did together.
use Rattle.std.specs.Prelude.{◌≡◌, ℕ, ◌+◌, ◌-◌, nat_lt, true, false, List, [], ◌∷◌, length, map, fold, Option, Some, None, if◌then◌else◌}
use Rattle.tag_layout.specs.Layout.{HasShift}
use Rattle.tag_model.specs.declared.totals.Totals.{Totals}
use Rattle.tag_model.specs.declared.world.TheConstants.{MOST_WON}
use Rattle.wake_book.specs.declared.book_opening.TheConstants.{MAX_CAP}
use Rattle.tag_pool.specs.declared.kind.Kind.TheVariants.{Ordinary, Reserved}
use Rattle.tag_pool.specs.declared.options.Options.{Options}
use Rattle.tag_pool.specs.Hands.{total_of, reserved_of, layout_of}
use Rattle.tag_pool.specs.Opening.{HoldsNone}
use Rattle.tag_queue.specs.declared.gather.QueueTotals.{QueueTotals}
use Rattle.tag_queue.specs.declared.hand.QueueHand.{QueueHand}
use Rattle.tag_queue.specs.declared.queue.Queue.{Queue}
use Rattle.tag_queue.specs.Gathering.{IsGathered}
use Rattle.tag_queue.specs.Hands.{in_pool, IsHandOf, pool_of}
use Rattle.tag_queue.specs.Opening.{IsOpen}
use Rattle.loop_device.specs.declared.device_queue.Worker.{Worker}
use Rattle.loop_device.specs.declared.fault.PlayFault.{PlayFault}
use Rattle.loop_device.specs.declared.fault.PlayFault.TheVariants.{Memory, Setup, Lost, Twice, Spurious}
use Rattle.loop_device.specs.declared.fault.PlayFault.TheVariants as variants
use Rattle.loop_device.specs.declared.io.Done.{Done}
use Rattle.loop_device.specs.declared.io.Io.{Io}
use Rattle.loop_device.specs.declared.setup.Setup.{Setup as Asked}
use Rattle.loop_device.specs.declared.workers.Faults.{Faults}
use Rattle.loop_device.specs.declared.workers.Worked.{Worked}
use Rattle.loop_device.specs.Completing.{ServesPopped}
use Rattle.loop_device.specs.DeviceQueue.{worker}
use Rattle.loop_device.specs.History.{IsHistory}
use Rattle.loop_device.specs.Playing.{IsJudged}
use Rattle.loop_device.specs.Submitting.{SubmitsShare}
use Rattle.loop_device.specs.Working.{begins, ends, clean, added}

-- the options of the tags of a play: the tags and the shift of the setup, a hand for each thread, and otherwise the
-- defaults
abbrev pub options_for : Asked → Options
options_for setup = record {
  depth = setup.total;
  reserved = setup.reserved;
  hands = setup.submitters + setup.completers;
  shift = setup.shift;
  by_hands = false;
  round_robin = false;
  min_shallow = None;
  life = MOST_WON;
}

-- the tags are those that the setup asks for, and were opened with these options
pub record AreTagsFor (setup : Asked) (tags : Queue ℕ) : Type 0 where
  pub opened : (hands : List (QueueHand ℕ)) × IsOpen (options_for setup) MAX_CAP tags hands
  pub total : total_of (pool_of tags) ≡ setup.total
  pub reserved : reserved_of (pool_of tags) ≡ setup.reserved
  pub ordinary_shift : HasShift (setup.total - setup.reserved) setup.shift (layout_of (pool_of tags) Ordinary).shift
  pub reserved_shift : HasShift setup.reserved setup.shift (layout_of (pool_of tags) Reserved).shift

-- the hand belongs to the tags and holds none of them
abbrev pub IsFreshOf : Queue ℕ → QueueHand ℕ → Type 0
IsFreshOf tags hand = IsHandOf tags hand × HoldsNone (in_pool hand)

-- the thread had a fresh hand, and served the numbers that it popped
pub record Completed (tags : Queue ℕ) (ios : List Io) (worked : Worked) : Type 0 where
  pub first : QueueHand ℕ
  pub fresh : IsFreshOf tags first
  pub last : Worker
  pub served : ServesPopped tags ios (begins first (worker false [] [])) (ends worked last)

-- the thread had a fresh hand, and submitted its share of the lines
pub record Submitted (tags : Queue ℕ) (setup : Asked) (ios : List Io) (number : ℕ) (worked : Worked) : Type 0 where
  pub first : QueueHand ℕ
  pub fresh : IsFreshOf tags first
  pub last : Worker
  pub shared : SubmitsShare tags setup.queue ios number setup.submitters (begins first (worker true [] []))
      (ends worked last)

-- the part of a thread in a play: it completes, or has this number among the submitters
abbrev pub DoesPart : Queue ℕ → Asked → List Io → Option ℕ → Worked → Type 0
DoesPart tags setup ios None worked = Completed tags ios worked
DoesPart tags setup ios (Some number) worked = Submitted tags setup ios number worked

-- what a thread returns: a hand of the tags, after its part
abbrev pub Returns : Queue ℕ → Asked → List Io → Option ℕ → Worked → Type 0
Returns tags setup ios number worked = IsHandOf tags worked.hand × DoesPart tags setup ios number worked

-- the number among the submitters of this thread of a play, whose first threads complete
abbrev pub submitter_at : ℕ → ℕ → Option ℕ
submitter_at completers thread = if nat_lt thread completers then None else Some (thread - completers)

-- the threads from this one on did their parts, the last of them first in the list
abbrev pub DidParts : Queue ℕ → Asked → List Io → ℕ → List Worked → Type 0
DidParts tags setup ios thread [] = Unit {0}
DidParts tags setup ios thread (worked ∷ before) =
    DoesPart tags setup ios (submitter_at setup.completers (thread + length before)) worked
    × DidParts tags setup ios thread before

-- the faults of all these threads together
abbrev pub faults_of : List Worked → Faults
faults_of works = fold (λ faults worked. added faults worked.faults) clean works

-- so many threads as the setup asks for did their parts, and returned these hands and these faults
pub record HasRun (tags : Queue ℕ) (setup : Asked) (ios : List Io) (hands : List (QueueHand ℕ)) (faults : Faults) : Type 0 where
  pub works : List Worked
  pub count : length works ≡ setup.completers + setup.submitters
  pub parts : DidParts tags setup ios 0 works
  pub hands_are : hands ≡ map (λ worked. worked.hand) works
  pub faults_are : faults ≡ faults_of works

-- so the play ran: under the tags that the setup asks for, with these totals of them, and these faults of its threads
pub record IsRun (setup : Asked) (ios : List Io) (totals : Totals) (faults : Faults) : Type 0 where
  pub tags : Queue ℕ
  pub asked : AreTagsFor setup tags
  pub hands : List (QueueHand ℕ)
  pub run : HasRun tags setup ios hands faults
  pub gathered : QueueTotals
  pub all : IsGathered tags hands gathered
  pub totals_are : totals ≡ gathered.tags

-- the play ran, and its fault is judged by what it saw then: the history of its store, the totals and the faults
pub record IsSeen (setup : Asked) (ios : List Io) (fault : PlayFault) : Type 0 where
  pub done : List Done
  pub lawful : IsHistory done
  pub totals : Totals
  pub faults : Faults
  pub ran : IsRun setup ios totals faults
  pub judged : IsJudged ios done totals faults fault

-- what a fault of a play says of its run; a want of memory and a setup that is not legal say nothing
abbrev pub SaysSeen : Asked → List Io → PlayFault → Type 0
SaysSeen setup ios Memory = Unit {0}
SaysSeen setup ios Setup = Unit {0}
SaysSeen setup ios (Lost line) = IsSeen setup ios (Lost line)
SaysSeen setup ios (Twice line) = IsSeen setup ios (Twice line)
SaysSeen setup ios Spurious = IsSeen setup ios Spurious
SaysSeen setup ios variants.Totals = IsSeen setup ios variants.Totals
