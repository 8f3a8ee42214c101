-- Both sets of a board with one caller, as its steps determine them, and the answers of its commands.
use Rattle.tag_board.specs.Uses.{bit_in, Bool, cells_left, cond, count_below, Err, false, first_of, HasShiftOf, Hint, Kind, kind_of, Layout, length, List, list_any, map, nat_eq, nat_lt, None, not, NotPosted, number_in_set, Ok, Option, Options, Ordinary, other_kind, place_of, Reserved, Result, Shown, slice_index, TagFault, true, word_of, words_left, ℕ}
use Rattle.std.specs.Prelude.{◌≡◌, ◌-◌, ◌<◌, ◌*◌, ◌&&◌, ◌||◌, if◌then◌else◌}
use Rattle.tag_core.specs.declared.step.Step.{Step}
use Rattle.tag_search.specs.Batch.{batch_words}
use Rattle.tag_search.specs.Choice.{IsChoice, IsBatchChoice}
use Rattle.tag_search.specs.Follows.{HintFollows, BatchFollows}
use Rattle.tag_search.specs.Hints.{reduced}
use Rattle.tag_search.specs.Pool.{Pool, pool_of, is_busy, set_aside}
use Rattle.tag_search.specs.Search.{Visit}
use Rattle.tag_search.specs.Visits.{plain_visits, shallow_visits}
use Rattle.tag_pool.specs.Gets.{whole, whole_run}

-- a set with one caller: its layout, which places are free and which set aside, which tags are posted, and where the
-- next get begins
pub record AloneSet : Type 0 where
  pub layout : Layout
  pub pool : Pool
  pub posted : ℕ → Bool
  pub hint : Hint

-- each of the 64 places of each word is free
abbrev pub all_free : Pool
all_free = record { free = λ word place. nat_lt place 64; aside = λ word place. false }

-- a set without any step
abbrev pub untouched : Layout → Bool → AloneSet
untouched layout round_robin = record {
  layout = layout;
  pool = all_free;
  posted = λ tag. false;
  hint = record { at = 0; round_robin = round_robin };
}

-- both sets
abbrev pub AloneSets : Type 0
AloneSets = Kind → AloneSet

-- a set of this layout, as these steps of its only caller, newest first, leave it, with the hint of that caller
abbrev pub set_left : Layout → List (Step ℕ) → Hint → AloneSet
set_left layout steps hint = record {
  layout = layout;
  pool = pool_of (words_left steps);
  posted = λ tag. nat_eq ((cells_left steps).state tag) 1;
  hint = hint;
}

-- the number of reserved tags, which are the lowest of the range
abbrev pub split_in : AloneSets → ℕ
split_in sets = (sets Reserved).layout.depth

-- one set changed so, and the other is unchanged
abbrev pub ChangesOne : Kind → (AloneSet → AloneSet → Type 0) → AloneSets → AloneSets → Type 0
ChangesOne kind change old new = change (old kind) (new kind) × (new (other_kind kind) ≡ old (other_kind kind))

-- the set of this tag is what the change makes of it for the tag's number there, and the other is unchanged
abbrev pub ChangesTag : (ℕ → AloneSet → AloneSet) → ℕ → AloneSets → AloneSets → Type 0
ChangesTag change tag old = let number : ℕ = number_in_set (split_in old) tag in
    ChangesOne (kind_of (split_in old) tag) (λ before after. after ≡ change number before) old

-- the visits of a plain get, from the hint on
abbrev pub plain : AloneSet → List Visit
plain w = plain_visits w.layout w.hint.round_robin (reduced w.layout.depth w.hint.at)

-- the visits of a shallow get of this depth, from the hint on
abbrev pub shallow : ℕ → AloneSet → List Visit
shallow depth w = shallow_visits w.layout depth (reduced w.layout.depth w.hint.at)

-- the answer is the choice of these visits, the pool is what the choice leaves, and the hint moves by its rule
pub record Chooses (visits : AloneSet → List Visit) (answer : Option ℕ) (old new : AloneSet) : Type 0 where
  pub layout : new.layout ≡ old.layout
  pub choice : IsChoice old.layout old.pool (visits old) answer new.pool
  pub posted : new.posted ≡ old.posted
  pub hint : HintFollows old.layout.depth old.hint new.hint answer

-- the same for n adjacent tags, from the hint's word on
pub record ChoosesRun (n : ℕ) (answer : Option (ℕ × ℕ)) (old new : AloneSet) : Type 0 where
  pub layout : new.layout ≡ old.layout
  pub choice : IsBatchChoice old.layout n old.pool
      (batch_words old.layout (word_of old.layout (reduced old.layout.depth old.hint.at))) answer new.pool
  pub posted : new.posted ≡ old.posted
  pub hint : BatchFollows old.layout.depth n old.hint new.hint answer

-- the tag answered is the choice of its set
abbrev pub AloneGets : Kind → (AloneSet → List Visit) → Option ℕ → AloneSets → AloneSets → Type 0
AloneGets kind visits answer old new = (number : Option ℕ) × (answer ≡ whole (first_of (split_in old) kind) number)
    × ChangesOne kind (Chooses visits number) old new

-- the tags answered are the choice of the ordinary set; under round robin there are none, and nothing changes
pub record AloneBatch (n : ℕ) (answer : Option (ℕ × ℕ)) (old new : AloneSets) : Type 0 where
  pub around : (old Ordinary).hint.round_robin ≡ true → (answer ≡ None) × (new ≡ old)
  pub choice : (old Ordinary).hint.round_robin ≡ false
      → (number : Option (ℕ × ℕ)) × (answer ≡ whole_run (split_in old) number)
      × ChangesOne Ordinary (ChoosesRun n number) old new

-- the hint after a clear of this tag, which leaves it alone under round robin
abbrev pub hint_at : ℕ → Hint → Hint
hint_at number h = record h { at = if h.round_robin then h.at else number }

-- the tag is set aside, and the hint moves to it, except under round robin
abbrev pub put_back : ℕ → AloneSet → AloneSet
put_back number w =
    record w {
      pool = set_aside (word_of w.layout number) (place_of w.layout number) w.pool;
      hint = hint_at number w.hint;
    }

-- the place is that of a tag of the list
abbrev pub is_named : Layout → List ℕ → ℕ → ℕ → Bool
is_named l numbers word place = list_any (λ number. nat_eq word (word_of l number) && nat_eq place (place_of l number))
    numbers

-- the tags of the list are free, and what is set aside is unchanged
abbrev pub freed : Layout → List ℕ → Pool → Pool
freed l numbers p = record p { free = λ word place. p.free word place || is_named l numbers word place }

-- the tags of the list are free, and the hint moves to the last of them, except under round robin
abbrev pub give_back : List ℕ → AloneSet → AloneSet
give_back numbers w = record w {
  pool = freed w.layout numbers w.pool;
  hint = hint_at (slice_index numbers (length numbers - 1)) w.hint;
}

-- the tag becomes posted
abbrev pub post_in : ℕ → AloneSet → AloneSet
post_in number w = record w { posted = λ other. w.posted other || nat_eq other number }

-- the tag is no longer posted
abbrev pub take_in : ℕ → AloneSet → AloneSet
take_in number w = record w { posted = λ other. w.posted other && not (nat_eq other number) }

-- the tag is posted in its set
abbrev pub is_posted : AloneSets → ℕ → Bool
is_posted sets tag = (sets (kind_of (split_in sets) tag)).posted (number_in_set (split_in sets) tag)

-- a clear of a list of ordinary tags
abbrev pub AloneClearsList : List ℕ → AloneSets → AloneSets → Type 0
AloneClearsList tags old = ChangesOne Ordinary
    (λ before after. after ≡ give_back (map (λ tag. tag - split_in old) tags) before) old

-- a take, which finds the tag exactly if it is posted
abbrev pub AloneTakes : ℕ → AloneSets → Result (Unit {0}) TagFault → AloneSets → Type 0
AloneTakes tag old (Ok done) new = (is_posted old tag ≡ true) × ChangesTag take_in tag old new
AloneTakes tag old (Err NotPosted) new = (is_posted old tag ≡ false) × (new ≡ old)
AloneTakes tag old (Err fault) new = new ≡ old

-- the tag of a set is neither free nor set aside
abbrev pub is_busy_in : AloneSet → ℕ → Bool
is_busy_in w number = nat_lt number w.layout.depth
    && is_busy w.pool (word_of w.layout number) (place_of w.layout number)

-- the tag of a set is set aside
abbrev pub is_aside_in : AloneSet → ℕ → Bool
is_aside_in w number = nat_lt number w.layout.depth && w.pool.aside (word_of w.layout number) (place_of w.layout number)

-- the tag is busy in its set
abbrev pub is_busy_tag : AloneSets → ℕ → Bool
is_busy_tag sets tag = is_busy_in (sets (kind_of (split_in sets) tag)) (number_in_set (split_in sets) tag)

-- the bit of each tag is 1 exactly if the tag is busy
pub record AloneListsBusy (old : AloneSets) (bits : List ℕ) (new : AloneSets) : Type 0 where
  pub bits_are : (tag : ℕ) → tag < 64 * length bits → bit_in 64 bits tag ≡ cond (is_busy_tag old tag) 1 0
  pub same : new ≡ old

-- the numbers of busy tags and of those set aside
pub record AloneShows (kind : Kind) (old : AloneSets) (shown : Shown) (new : AloneSets) : Type 0 where
  pub busy : shown.busy ≡ count_below (is_busy_in (old kind)) (old kind).layout.depth
  pub cleared : shown.cleared ≡ count_below (is_aside_in (old kind)) (old kind).layout.depth
  pub same : new ≡ old

-- the bit of each tag of the set is 1 exactly if the tag is busy
pub record AloneDumps (kind : Kind) (old : AloneSets) (bytes : List ℕ) (new : AloneSets) : Type 0 where
  pub bits_are : (tag : ℕ) → bit_in 8 bytes tag ≡ cond (is_busy_in (old kind) tag) 1 0
  pub same : new ≡ old

-- the layout has this depth, and the shift of the options or, without one, the default for the depth
abbrev pub IsLaidOut : ℕ → Options → Layout → Type 0
IsLaidOut depth options layout = (layout.depth ≡ depth) × HasShiftOf options depth layout.shift

-- both sets have the layouts that the options determine, and no step was made in them
pub record AreUntouched (options : Options) (sets : AloneSets) : Type 0 where
  pub ordinary_layout : IsLaidOut (options.depth - options.reserved) options (sets Ordinary).layout
  pub reserved_layout : IsLaidOut options.reserved options (sets Reserved).layout
  pub untouched : (kind : Kind) → sets kind ≡ untouched (sets kind).layout options.round_robin

-- the set continues with `depth` tags, all of them free; the shift and the hint stay
abbrev pub resized : ℕ → AloneSet → AloneSet
resized depth w = record (untouched (record { depth = depth; shift = w.layout.shift }) false) { hint = w.hint }

-- a resize to `total` tags in both sets
abbrev pub AloneResizes : ℕ → AloneSets → AloneSets → Type 0
AloneResizes total old = ChangesOne Ordinary (λ before after. after ≡ resized (total - split_in old) before) old
