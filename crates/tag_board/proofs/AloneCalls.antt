-- If a hand is the only one, what its call does to its sides decides what becomes of both sets.
use Rattle.std.proofs.Common.{◌≡◌, ℕ, ◌+◌, ◌-◌, ◌<◌, ◌≤◌, Bool, true, false, ◌&&◌, cond, if◌then◌else◌, nat_lt, List, map, Option, None, Ok, Err, refl, sym, ap, ◌∙◌, subst, arith}
use Rattle.tag_board.proofs.Uses.{Side, IsAlone, caller_in, lt-ltb, le-ltb, ltb-true, ltb-false, own_found, pow_pos, Visit, NotPosted, Hand, Kind, Layout, Ordinary, Reserved, Shown, Pool, IsPoolHandOf, caller_of, side_of, hint_of, layout_of, place_of, record_in, reserved_of, split_of, kind_of, number_in_set, other_kind, word_bits, word_bits-le, word_of, AloneSet, AloneSets, AloneGets, AloneBatch, AloneClearsList, AloneTakes, AloneListsBusy, AloneShows, AloneDumps, ChangesOne, count_below-same, first_of, is_busy_in, is_busy_tag, Record, Shape, Step, put_back, post_in, give_back, set_left, sets_in, take_in, ChangesTag}
use Rattle.tag_search.proofs.AloneCallers.{own_put}
use Rattle.tag_search.proofs.AloneFacts.{EachFound}
use Rattle.tag_pool.specs.Batches as batches
use Rattle.tag_pool.specs.Busy as busy
use Rattle.tag_pool.specs.Clears as clears
use Rattle.tag_pool.specs.Dumps as dumps
use Rattle.tag_pool.specs.Gets as gets
use Rattle.tag_pool.specs.Looks as looks
use Rattle.tag_pool.specs.Shows as shows
use Rattle.tag_pool.specs.Sides as side
use Rattle.tag_pool.specs.Slots as slots
use Rattle.tag_board.proofs.Only.{Alters, AreAlone, both_same, narrow, set_of}
use Rattle.tag_board.proofs.AloneSteps as steps
use Rattle.tag_board.proofs.AloneRuns.{give}
use Rattle.tag_board.proofs.AloneLooks.{looked, seen}
use Rattle.tag_board.proofs.Ranges.{shape_there}

-- a tag is below the total exactly if its number is below the depth of the ordinary set
above_split : (split depth tag : ℕ) → split ≤ tag → nat_lt tag (split + depth) ≡ nat_lt (tag - split) depth
above_split split depth tag high = elim (nat_lt (tag - split) depth) as
    (λ (b : Bool). nat_lt (tag - split) depth ≡ b → nat_lt tag (split + depth) ≡ b) [
      | true ↦ (λ t. let low = ltb-true (tag - split) depth t in lt-ltb tag (split + depth) (omega arith))
      | false ↦ (λ f. let past = ltb-false (tag - split) depth f in le-ltb tag (split + depth) (omega arith))
    ] refl

module _ (pool : Pool ℕ) (old new : Hand ℕ) where
  -- the search of a get, whose visits follow from the set, is the choice
  pub finds : (kind : Kind) (visits : AloneSet → List Visit) (number answer : Option ℕ)
      → answer ≡ gets.whole (first_of (layout_of pool Reserved).depth kind) number
      → side.Searches (layout_of pool kind) (visits (sets_in pool old kind)) number
      (caller_of old kind) (caller_of new kind) (hint_of old kind) (hint_of new kind)
      → side_of new (other_kind kind) ≡ side_of old (other_kind kind)
      → Alters pool (AloneGets kind visits answer) old new
  finds kind visits number answer whole s other before after = let c = s.alone (before kind) in (
    number,
    whole,
    (
      record { layout = refl; choice = c.choice; posted = λ j. λ tag. c.posted tag j; hint = s.hint },
      ap (set_of _) other,
    ),
  )

  pub finds_run : (n : ℕ) (answer : Option (ℕ × ℕ))
      → ((hint_of old Ordinary).round_robin ≡ true → (answer ≡ None) × (new ≡ old))
      → ((hint_of old Ordinary).round_robin ≡ false → gets.GetsBatch pool n answer old new)
      → Alters pool (AloneBatch n answer) old new
  finds_run n answer around straight before after = record {
    around = λ t. let none = around t in (none.0, ap (sets_in pool) none.1);
    choice = λ f. let g = straight f in let s = g.set.changed in let c = s.alone (before Ordinary) in (
      g.number,
      g.answer_is ∙ ap (λ (r : ℕ). gets.whole_run r g.number) (sym pool.reserved_is),
      (
        record { layout = refl; choice = c.choice; posted = λ j. λ tag. c.posted tag j; hint = s.hint },
        ap (set_of _) g.set.other,
      ),
    );
  }

  -- what the looks of a set found is what there is
  pub counts : (kind : Kind) (shown : Shown) → shows.Shows pool kind shown old new
      → Alters pool (λ v. AloneShows kind v shown) old new
  counts kind shown s before after =
      let depth : ℕ = (layout_of pool kind).depth in let at = seen pool kind s.found old new s.around (after kind) in
      let inside : (f : ℕ → Bool) (k : ℕ) → k < depth → f k ≡ (nat_lt k depth && f k) =
      λ f k low. ap (λ (b : Bool). b && f k) (sym (lt-ltb k depth low)) in record {
        busy = ap (λ (x : Shown). x.busy) s.shown_is
            ∙ count_below-same _ _ depth (λ k low. inside (looks.is_busy_in (layout_of pool kind) s.found) k low ∙ at.busy k);
        cleared = ap (λ (x : Shown). x.cleared) s.shown_is
            ∙ count_below-same _ _ depth (λ k low. inside (looks.is_aside_in (layout_of pool kind) s.found) k low ∙ at.aside k);
        same = looked pool kind s.found old new s.around (after kind);
      }

  pub packs : (kind : Kind) (bytes : List ℕ) → dumps.Packs (layout_of pool kind) kind bytes old new
      → Alters pool (λ v. AloneDumps kind v bytes) old new
  packs kind bytes p before after = record {
    bits_are = λ tag. p.bits_are tag
        ∙ ap (λ (b : Bool). cond b 1 0) ((seen pool kind p.found old new p.around (after kind)).busy tag);
    same = looked pool kind p.found old new p.around (after kind);
  }

pub gives : (pool : Pool ℕ) (old new : Hand ℕ) → IsPoolHandOf pool old → (list : List ℕ)
    → batches.GivesBack pool list old new → Alters pool (AloneClearsList list) old new
gives pool old new own list g before after = let numbers : ℕ → List ℕ = λ r. map (λ (tag : ℕ). tag - r) list in
    subst (λ (r : ℕ). ChangesOne Ordinary (λ v w. w ≡ give_back (numbers r) v) (sets_in pool old) (sets_in pool new))
    (sym pool.reserved_is) (
      give old.ordinary new.ordinary (numbers (reserved_of pool)) (after Ordinary) (layout_of pool Ordinary)
          (ap (λ (k : Shape). k.layout) (shape_there pool old own Ordinary)) (narrow pool Ordinary) g.set.changed,
      ap (set_of _) g.set.other,
    )

module _ (pool : Pool ℕ) (old new : Hand ℕ) (own : IsPoolHandOf pool old) (tag : ℕ) where
  abbrev kind : Kind
  kind = kind_of (split_of old) tag

  abbrev number : ℕ
  number = number_in_set (split_of old) tag

  abbrev l : Layout
  l = layout_of pool kind

  abbrev older : List (Step ℕ)
  older = (record_in old kind).steps

  -- the number of reserved tags, as the hand knows it and as the reserved set has it
  split : split_of old ≡ (layout_of pool Reserved).depth
  split = own.2 ∙ sym pool.reserved_is

  -- the tag's set changed so, and the other is unchanged
  there : (change : ℕ → AloneSet → AloneSet) → sets_in pool new kind ≡ change number (sets_in pool old kind)
      → side_of new (other_kind kind) ≡ side_of old (other_kind kind)
      → ChangesTag change tag (sets_in pool old) (sets_in pool new)
  there change here other = subst (λ (r : ℕ). ChangesOne (kind_of r tag) (λ v w. w ≡ change (number_in_set r tag) v)
      (sets_in pool old) (sets_in pool new)) split (here, ap (set_of _) other)

  pub puts : clears.Clears pool tag old new → Alters pool (ChangesTag put_back tag) old new
  puts c before after = let p = c.set.changed in let few = word_bits-le l (narrow pool kind) in
      let some : 0 < word_bits l = pow_pos l.shift in let low : place_of l number < 64 = omega arith in
      let left = own_put (caller_of old kind) (caller_of new kind) (word_of l number)
      (place_of l number) p.found low p.put in
      there put_back (λ j. record {
        layout = l;
        pool = left.pool_is j;
        posted = λ other. left.posted other j;
        hint = record { at = p.hint.at j; round_robin = p.hint.round_robin j };
      }) c.set.other

  pub posts : slots.Posts tag 0 old new → Alters pool (ChangesTag post_in tag) old new
  posts p before after = let posted = p.set.changed in there post_in
      ((λ j. set_left l (posted.step.known j).steps (posted.hint j))
      ∙ steps.post l (hint_of old kind) older number 0 posted.value) p.set.other

  -- each step found what the older ones left
  found_there : AreAlone new → (newer : List (Step ℕ)) → (record_in new kind).steps ≡ newer → EachFound newer
  found_there after newer is =
      subst (λ (s : List (Step ℕ)). EachFound s) is (own_found (caller_of new kind) (after kind))

  pub takes : slots.Takes tag old new → Alters pool (λ v. AloneTakes tag v (Ok tt)) old new
  takes t before after = let taken = t.set.changed in let known = taken.step.known in
      let took = steps.take l (hint_of old kind) older number taken.value
      (found_there after _ (ap (λ (r : Record ℕ). r.steps) known)) in (
        subst (λ (r : ℕ). (sets_in pool old (kind_of r tag)).posted (number_in_set r tag) ≡ true) split took.0,
        there take_in ((λ j. set_left l (known j).steps (taken.hint j)) ∙ took.1) t.set.other,
      )

  pub misses : slots.Misses tag old new → Alters pool (λ v. AloneTakes tag v (Err NotPosted)) old new
  misses m before after = let missed = m.set.changed in let known = missed.step.known in (
    subst (λ (r : ℕ). (sets_in pool old (kind_of r tag)).posted (number_in_set r tag) ≡ false) split
        (steps.miss l (hint_of old kind) older number (found_there after _ (ap (λ (r : Record ℕ). r.steps) known))),
    both_same kind ((λ j. set_left l (known j).steps (missed.hint j)), ap (set_of _) m.set.other),
  )

module _ (pool : Pool ℕ) (bits : List ℕ) (count : ℕ) (old new : Hand ℕ) (l : busy.ListsBusy pool bits count old new)
    (after : AreAlone new) where
  abbrev sets : AloneSets
  sets = sets_in pool old

  abbrev depth : Kind → ℕ
  depth kind = (layout_of pool kind).depth

  alone_between : IsAlone (caller_of l.between Reserved)
  alone_between = subst (λ (s : Side ℕ). IsAlone (caller_in s)) l.second.looks.other (after Reserved)

  first : sets_in pool l.between ≡ sets
  first = looked pool Reserved l.reserved old l.between l.first alone_between

  busy_ordinary : (number : ℕ) → (nat_lt number (depth Ordinary)
      && looks.is_busy_in (layout_of pool Ordinary) l.ordinary number) ≡ is_busy_in (sets Ordinary) number
  busy_ordinary number = (seen pool Ordinary l.ordinary l.between new l.second (after Ordinary)).busy number
      ∙ (λ j. is_busy_in (first j Ordinary) number)

  -- a tag is found busy exactly if it is busy
  seen_tag : (tag : ℕ) → busy.is_busy_tag pool l.reserved l.ordinary tag ≡ is_busy_tag sets tag
  seen_tag tag = subst (λ (r : ℕ). (if nat_lt tag r then looks.is_busy_in (layout_of pool Reserved) l.reserved tag
      else (nat_lt tag (r + depth Ordinary) && looks.is_busy_in (layout_of pool Ordinary) l.ordinary (tag - r)))
      ≡ is_busy_tag sets tag) pool.reserved_is
      (elim (nat_lt tag (depth Reserved)) as (λ (b : Bool). nat_lt tag (depth Reserved) ≡ b
      → (if b then looks.is_busy_in (layout_of pool Reserved) l.reserved tag
      else (nat_lt tag (depth Reserved + depth Ordinary)
      && looks.is_busy_in (layout_of pool Ordinary) l.ordinary (tag - depth Reserved)))
      ≡ is_busy_in (sets (if b then Reserved else Ordinary)) (if b then tag else (tag - depth Reserved))) [
        | true ↦ (λ low. ap (λ (b : Bool). b && looks.is_busy_in (layout_of pool Reserved) l.reserved tag) (sym low)
            ∙ (seen pool Reserved l.reserved old l.between l.first alone_between).busy tag)
        | false ↦ (λ high. ap (λ (b : Bool). b && looks.is_busy_in (layout_of pool Ordinary) l.ordinary (tag - depth Reserved))
            (above_split (depth Reserved) (depth Ordinary) tag (ltb-false tag (depth Reserved) high))
            ∙ busy_ordinary (tag - depth Reserved))
      ] refl)

  -- so are the tags of both sets, of which the reserved ones are looked at first
  pub lists : AloneListsBusy sets bits (sets_in pool new)
  lists = record {
    bits_are = λ tag low. l.bits_are tag low ∙ ap (λ (b : Bool). cond b 1 0) (seen_tag tag);
    same = looked pool Ordinary l.ordinary l.between new l.second (after Ordinary) ∙ first;
  }
