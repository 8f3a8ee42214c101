-- A hand that waits in no set still waits in none after each call but those by which a hand waits.
use Rattle.std.specs.Prelude.{◌≡◌}
use Rattle.tag_queue.proofs.Uses.{ap, arith, Err, false, Hand, Kind, List, Ok, Ordinary, Pool, refl, Reserved, Result, subst, suc, sym, true, ℕ, ⊎_elim, ◌∙◌}
use Rattle.std.specs.Prelude.{[], ◌∷◌, Bool, Option, ⊤}
use Rattle.tag_layout.specs.Layout.{Layout}
use Rattle.tag_core.specs.Callers.{IsAmongWaiters, record_of}
use Rattle.tag_core.specs.Records.{record_after}
use Rattle.tag_core.specs.Waits.{IsIn}
use Rattle.tag_core.specs.declared.caller.Caller.{Caller}
use Rattle.tag_core.specs.declared.record.Record.{Record}
use Rattle.tag_core.specs.declared.step.Step.TheVariants.{Word}
use Rattle.tag_core.specs.declared.word_step.WordStep.{WordStep}
use Rattle.tag_core.specs.declared.word_step.WordStep.TheVariants.{Look, LookAside}
use Rattle.tag_search.specs.Shared.{Makes, record_after_all}
use Rattle.tag_search.specs.declared.found.Found.{Found}
use Rattle.tag_pool.specs.Batches.{DoesClearBatch, DoesClearMask, GivesBack}
use Rattle.tag_pool.specs.Busy.{ListsBusy}
use Rattle.tag_pool.specs.Clears.{Clears, DoesClear}
use Rattle.tag_pool.specs.Gets.{DoesGet, DoesGetBatch, DoesGetReserved, DoesGetShallow}
use Rattle.tag_pool.specs.Hands.{back_of, Changes, hint_of, split_of}
use Rattle.tag_pool.specs.Holding.{IsUnchanged}
use Rattle.tag_pool.specs.Lending.{side_of}
use Rattle.tag_pool.specs.Looks.{looks_from}
use Rattle.tag_pool.specs.Placing.{IsPlaced}
use Rattle.tag_pool.specs.Runs.{record_after_runs, Run}
use Rattle.tag_pool.specs.Sets.{kind_of}
use Rattle.tag_pool.specs.Shows.{LooksAround}
use Rattle.tag_pool.specs.Sides as side
use Rattle.tag_pool.specs.Slots.{DoesPost, DoesRead, DoesReadNote, DoesTake, DoesWrite, Reads, Writes}
use Rattle.tag_pool.specs.declared.fault.TagFault.{TagFault}
use Rattle.tag_pool.specs.declared.side.Side.{Side}
use Rattle.tag_queue.specs.Bell.{WaitsNowhere}

-- by steps on words nobody begins to wait
on_words : {R : Type 0} (steps : List WordStep) (r : Record R) → IsIn (record_after_all steps r).steps → IsIn r.steps
on_words [] r now = now
on_words (w ∷ steps) r now = on_words steps (record_after (Word w) r) now

on_runs : {R : Type 0} (runs : List Run) (r : Record R) → IsIn (record_after_runs runs r).steps → IsIn r.steps
on_runs [] r now = now
on_runs (run ∷ runs) r now = on_runs runs r now

module _ {R : Type 0} where
  -- whoever waits now waited before
  abbrev WaitedBefore : Caller R → Caller R → Type 0
  WaitedBefore old new = IsAmongWaiters new → IsAmongWaiters old

  -- what is known of a caller tells whether it waits
  of_known : (old new : Caller R) (r : Record R) → record_of new ≡ r → (IsIn r.steps → IsIn (record_of old).steps)
      → WaitedBefore old new
  of_known old new r known same now = same (subst (λ (s : Record R). IsIn s.steps) known now)

  of_made : (fact : List WordStep → Type 0) (old new : Caller R) → Makes old new fact → WaitedBefore old new
  of_made fact old new made = of_known old new (record_after_all made.steps (record_of old)) made.added.known
      (on_words made.steps (record_of old))

  -- a change of one side by which its caller does not begin to wait
  abbrev KeepsUp : (Side R → Side R → Type 0) → Type 0
  KeepsUp change = (a b : Side R) → change a b → WaitedBefore (side.caller_of a) (side.caller_of b)

  other : (a b : Side R) → a ≡ b → ¬ IsAmongWaiters (side.caller_of b) → ¬ IsAmongWaiters (side.caller_of a)
  other a b same = subst (λ (s : Side R). ¬ IsAmongWaiters (side.caller_of s)) (sym same)

  by_side : (change : Side R → Side R → Type 0) → KeepsUp change → (kind : Kind) (old new : Hand R)
      → Changes kind change old new → WaitsNowhere old → WaitsNowhere new
  by_side change keeps Ordinary old new c up Ordinary = λ now.
      up Ordinary (keeps old.ordinary new.ordinary c.changed now)
  by_side change keeps Ordinary old new c up Reserved = other new.reserved old.reserved c.other (up Reserved)
  by_side change keeps Reserved old new c up Ordinary = other new.ordinary old.ordinary c.other (up Ordinary)
  by_side change keeps Reserved old new c up Reserved = λ now.
      up Reserved (keeps old.reserved new.reserved c.changed now)

  writes : (number : ℕ) (value : R) → KeepsUp (side.Writes number value)
  writes number value a b w = of_known a.caller b.caller (record_of a.caller) w.known (λ now. now)

  pub read_up : (tag : ℕ) (value : R) (old new : Hand R) → Reads tag value old new → WaitsNowhere old → WaitsNowhere new
  read_up tag value old new r = by_side _ (writes _ value) (kind_of (split_of old) tag) old new r.set

  pub write_up : (tag : ℕ) (value : R) (old new : Hand R) → Writes tag value old new → WaitsNowhere old → WaitsNowhere new
  write_up tag value old new w = by_side _ (writes _ value) (kind_of (split_of old) tag) old new w.set

  pub clear_up : (pool : Pool R) (tag : ℕ) (old new : Hand R) → Clears pool tag old new → WaitsNowhere old
      → WaitsNowhere new
  clear_up pool tag old new c = by_side _ (λ a b p. of_known a.caller b.caller _ p.put.known (λ now. now))
      (kind_of (split_of old) tag) old new c.set

  pub give_up : (pool : Pool R) (list : List ℕ) (old new : Hand R) → GivesBack pool list old new → WaitsNowhere old
      → WaitsNowhere new
  give_up pool list old new g = by_side _
      (λ a b c. of_known a.caller b.caller _ c.gives.known (on_runs c.gives.runs (record_of a.caller)))
      Ordinary old new g.set

  pub look_up : (l : Layout) (kind : Kind) (found : List (ℕ × ℕ)) (old new : Hand R) → LooksAround l kind found old new
      → WaitsNowhere old → WaitsNowhere new
  look_up l kind found old new looks = by_side _
      (λ a b m. of_known a.caller b.caller _ m.known (on_words (looks_from 0 found) (record_of a.caller)))
      kind old new looks.looks

  pub busy_up : (pool : Pool R) (bits : List ℕ) (count : ℕ) (old new : Hand R) → ListsBusy pool bits count old new
      → WaitsNowhere old → WaitsNowhere new
  busy_up pool bits count old new lists up = look_up _ Ordinary _ lists.between new lists.second
      (look_up _ Reserved _ old lists.between lists.first up)

  -- looks give nothing back
  back_on : (word : ℕ) (found : List (ℕ × ℕ)) (r : Record R) → (record_after_all (looks_from word found) r).back ≡ r.back
  back_on word [] r = refl
  back_on word (pair ∷ found) r =
      let rest = back_on (suc word) found
      (record_after (Word (LookAside word pair.1)) (record_after (Word (Look word pair.0)) r)) in
      omega arith

  pub look_back : (l : Layout) (kind : Kind) (found : List (ℕ × ℕ)) (old new : Hand R) → LooksAround l kind found old new
      → back_of new Ordinary ≡ back_of old Ordinary
  look_back l Ordinary found old new looks = ap (λ (r : Record R). r.back) looks.looks.changed.known
      ∙ back_on 0 found (record_of old.ordinary.caller)
  look_back l Reserved found old new looks = ap (λ (s : Side R). (record_of s.caller).back) looks.looks.other

  pub busy_back : (pool : Pool R) (bits : List ℕ) (count : ℕ) (old new : Hand R) → ListsBusy pool bits count old new
      → back_of new Ordinary ≡ back_of old Ordinary
  busy_back pool bits count old new lists = look_back _ Ordinary _ lists.between new lists.second
      ∙ look_back _ Reserved _ old lists.between lists.first

  pub unchanged_up : (old new : Hand R) → IsUnchanged old new → WaitsNowhere old → WaitsNowhere new
  unchanged_up old new same up kind = λ now. up kind (of_known (side.caller_of (side_of old kind))
      (side.caller_of (side_of new kind)) _ (same.sets kind).caller.known (λ was. was) now)

  pub placed_up : (pool : Pool R) (old new : Hand R) → IsPlaced pool old new → WaitsNowhere old → WaitsNowhere new
  placed_up pool old new placed up kind = subst (λ (c : Caller R). ¬ IsIn (record_of c).steps)
      (sym (placed.sides kind).caller) (up kind)

  -- a refused call leaves the hand
  pub still : (old new : Hand R) → new ≡ old → WaitsNowhere old → WaitsNowhere new
  still old new same = subst WaitsNowhere (sym same)

  module _ (pool : Pool R) (old new : Hand R) where
    pub reads_up : (tag : ℕ) (r : Result R TagFault) → DoesRead tag pool r old new → WaitsNowhere old → WaitsNowhere new
    reads_up tag (Ok value) d = read_up tag value old new d.reads
    reads_up tag (Err f) d = still old new d.refusals.same

    pub writes_up : (tag : ℕ) (value : R) (r : Result R TagFault) → DoesWrite tag value pool r old new → WaitsNowhere old
        → WaitsNowhere new
    writes_up tag value (Ok former) d = write_up tag value old new d.writes
    writes_up tag value (Err f) d = still old new d.refusals.same

    pub posts_up : (tag note : ℕ) (r : Result ⊤ TagFault) → DoesPost tag note pool r old new → WaitsNowhere old
        → WaitsNowhere new
    posts_up tag note (Ok done) d = by_side _ (λ a b p. of_known a.caller b.caller _ p.step.known (λ now. now))
        (kind_of (split_of old) tag) old new d.posts.set
    posts_up tag note (Err f) d = still old new d.refusals.same

    pub notes_up : (tag : ℕ) (r : Result (Option ℕ) TagFault) → DoesReadNote tag pool r old new → WaitsNowhere old
        → WaitsNowhere new
    notes_up tag (Ok answer) d = by_side _ (λ a b p. of_known a.caller b.caller _ p.step.known (λ now. now))
        (kind_of (split_of old) tag) old new d.reads.set
    notes_up tag (Err f) d = still old new d.refusals.same

    pub takes_up : (tag : ℕ) (r : Result ⊤ TagFault) → DoesTake tag pool r old new → WaitsNowhere old → WaitsNowhere new
    takes_up tag (Ok done) d = by_side _ (λ a b p. of_known a.caller b.caller _ p.step.known (λ now. now))
        (kind_of (split_of old) tag) old new d.takes.set
    takes_up tag (Err f) d = ⊎_elim (λ none. still old new none.1)
        (λ misses. by_side _ (λ a b p. of_known a.caller b.caller _ p.step.known (λ now. now))
        (kind_of (split_of old) tag) old new misses.1.set) d.refuses

    pub clears_up : (tag : ℕ) (r : Result Kind TagFault) → DoesClear tag pool r old new → WaitsNowhere old
        → WaitsNowhere new
    clears_up tag (Ok kind) d = clear_up pool tag old new d.clears
    clears_up tag (Err f) d = still old new d.refusals.same

    pub batch_up : (list : List ℕ) (r : Result ⊤ TagFault) → DoesClearBatch list pool r old new → WaitsNowhere old
        → WaitsNowhere new
    batch_up list (Ok done) d = give_up pool list old new d.gives
    batch_up list (Err f) d = still old new d.refusals.same

    pub mask_up : (first mask : ℕ) (r : Result ⊤ TagFault) → DoesClearMask first mask pool r old new → WaitsNowhere old
        → WaitsNowhere new
    mask_up first mask (Ok done) d = give_up pool _ old new d.gives
    mask_up first mask (Err f) d = still old new d.refusals.same

    pub gets_up : (r : Result (Found ℕ) TagFault) → DoesGet pool r old new → WaitsNowhere old → WaitsNowhere new
    gets_up (Ok found) d = by_side _ (λ a b s. of_made _ a.caller b.caller s.searches.steps) Ordinary old new d.gets.set
    gets_up (Err f) d = still old new d.refusals.same

    pub shallow_up : (depth : ℕ) (r : Result (Found ℕ) TagFault) → DoesGetShallow depth pool r old new → WaitsNowhere old
        → WaitsNowhere new
    shallow_up depth (Ok found) d = by_side _ (λ a b s. of_made _ a.caller b.caller s.searches.steps) Ordinary old new
        d.gets.set
    shallow_up depth (Err f) d = still old new d.refusals.same

    pub get_batch_up : (n : ℕ) (r : Result (Found (ℕ × ℕ)) TagFault) → DoesGetBatch n pool r old new → WaitsNowhere old
        → WaitsNowhere new
    get_batch_up n (Ok found) d = by_hint (hint_of old Ordinary).round_robin refl
      where
        by_hint : (b : Bool) → (hint_of old Ordinary).round_robin ≡ b → WaitsNowhere old → WaitsNowhere new
        by_hint true is = still old new (d.round_robin d.refusals.passes.0 is).1
        by_hint false is = by_side _ (λ a b s. of_made _ a.caller b.caller s.steps) Ordinary old new (d.gets is).set
    get_batch_up n (Err f) d = still old new d.refusals.same

    pub reserved_up : (r : Result (Found ℕ) TagFault) → DoesGetReserved pool r old new → WaitsNowhere old
        → WaitsNowhere new
    reserved_up (Ok found) d = by_side _ (λ a b s. of_made _ a.caller b.caller s.searches.steps) Reserved old new d.gets.set
    reserved_up (Err f) d = still old new d.refusals.same
