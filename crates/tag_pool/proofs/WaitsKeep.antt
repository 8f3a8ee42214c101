-- What gets and sleeps keep while a hand waits: as what it waits, which tags it holds, its room, and where its next get
-- begins.
use Rattle.std.specs.Prelude.{◌+◌, ◌^◌, ◌∷◌, ◌≡◌, ◌≤◌, ◌⊎◌}
use Rattle.tag_pool.proofs.Uses.{[], ap, arith, Changes, false, first_of, Gets, Hand, HoldsMore, HoldsSame, inl, inr, Kind, Layout, layout_of, List, None, Option, place_of, Pool, Record, record_after, record_of, refl, reserved_of, Shape, side_of, Some, subst, suc, sym, whole, Word, WordStep, zero, ℕ, ⊎_elim, ◌∙◌}
use Rattle.std.proofs.Math.Nat.{zero-mod}
use Rattle.tag_core.specs.declared.berth.Waiter.{Waiter}
use Rattle.tag_core.specs.Waits.{waits_as}
use Rattle.tag_bell.specs.Callers.{IsUp, OwesNothing, WaitsAsBefore}
use Rattle.tag_bell.specs.declared.told.Told.{Told}
use Rattle.tag_bell.specs.declared.waiting.Turn.{Turn}
use Rattle.tag_search.specs.Hints.{reduced}
use Rattle.tag_search.specs.Shared.{record_after_all}
use Rattle.tag_search.specs.Vain.{MaySleep, TriesAll}
use Rattle.tag_search.specs.declared.hint.Hint.{Hint}
use Rattle.tag_model.proofs.HoldingFacts.{more_then_same, same_itself, same_then_more, same_then_same}
use Rattle.tag_pool.proofs.Lifting.{same}
use Rattle.tag_pool.specs.Bell.{ListsSelf}
use Rattle.tag_pool.specs.Gets.{IsAnswer, IsTagIn}
use Rattle.tag_pool.specs.Hands.{caller_of, HasRoom, hint_of}
use Rattle.tag_pool.specs.Sides as side
use Rattle.tag_pool.specs.Waits.{AreSleeps, Beside, CanWait, EndsSo, GetsUntil, SleepsForOne, UntilTold, WinsAtOnce}

-- steps on words list nobody
waits_on : {R : Type 0} (ws : List WordStep) (r : Record R) → waits_as (record_after_all ws r).steps ≡ waits_as r.steps
waits_on [] r = refl
waits_on (w ∷ ws) r = waits_on ws (record_after (Word w) r)

-- a hint of 0 is at the first place of a word
zero_stays : (depth : ℕ) → reduced depth 0 ≡ 0
zero_stays zero = refl
zero_stays (suc depth) = zero-mod (suc depth)

begins_whole : (l : Layout) (at : ℕ) → at ≡ 0 → place_of l (reduced l.depth at) ≡ 0
begins_whole l at e = ap (λ (n : ℕ). place_of l (reduced l.depth n)) e ∙ ap (λ (n : ℕ). place_of l n) (zero_stays l.depth)
    ∙ zero-mod (2 ^ l.shift)

-- no tag of the pool answers for no number of the set
no_number : (first : ℕ) (number : Option ℕ) → None ≡ whole first number → number ≡ None
no_number first None e = refl
no_number first (Some n) e = absurd cc

module _ {R : Type 0} (pool : Pool R) (kind : Kind) where
  -- the next get of a hand that can wait tries each tag
  tries_each : (hand : Hand R) → CanWait kind hand → TriesAll (layout_of pool kind) (hint_of hand kind)
  tries_each hand can = ⊎_elim (λ rr. inl rr)
      (λ begins. inr (begins_whole (layout_of pool kind) (hint_of hand kind).at begins)) can.begins

  -- a get lists nobody
  pub waits_there : (answer : Option ℕ) (old new : Hand R) → Gets pool kind answer old new
      → WaitsAsBefore (caller_of old kind) (caller_of new kind)
  waits_there answer old new got = let makes = got.set.changed.searches.steps in
      ap (λ (r : Record R). waits_as r.steps) makes.added.known ∙ waits_on makes.steps (record_of (caller_of old kind))

  -- what a get comes to that found none
  pub record FoundNone (old new : Hand R) : Type 0 where
    pub again : HasRoom old kind 1 → CanWait kind new
    pub may : CanWait kind old → MaySleep (caller_of new kind)
    pub same : HoldsSame old new

  pub found_none : (old new : Hand R) → Gets pool kind None old new → FoundNone old new
  found_none old new got =
      let l = layout_of pool kind in
      let plain : side.GetsPlain l None (side_of old kind) (side_of new kind) =
      subst (λ (n : Option ℕ). side.GetsPlain l n (side_of old kind) (side_of new kind))
      (no_number (first_of (reserved_of pool) kind) got.number got.answer_is) got.set.changed in record {
        again = λ room. record {
          room = let gains = plain.searches.gains in
              let life = ap (λ (k : Shape). k.life) gains.shape in let count = gains.count in omega arith;
          begins = inr plain.searches.hint.at;
        };
        may = λ can. plain.vain (tries_each old can);
        same = record {
          kept = got.more.kept;
          none_else = λ tag has. ⊎_elim (λ before. before) (λ wrong. absurd wrong) (got.more.none_else tag has);
        };
      }

  module _ (waiter : Waiter) (turn : Turn) (old new : Hand R) (lists : Changes kind (ListsSelf waiter turn) old new) where
    -- to list itself leaves a hand as much room, and its hint
    listed_room : HasRoom old kind 1 → HasRoom new kind 1
    listed_room = subst (λ (r : Record R). r.won + 1 ≤ r.shape.life) (sym lists.changed.lists.only.known)

    pub listed_can : CanWait kind old → CanWait kind new
    listed_can can = record {
      room = listed_room can.room;
      begins = subst (λ (h : Hint). (h.round_robin ≡ false) ⊎ (h.at ≡ 0)) (sym lists.changed.hint) can.begins;
    }

  -- to sleep until it is told leaves a hand as much room, and its hint
  module _ (old new : Hand R) (slept : UntilTold kind old new) where
    pub rested_can : CanWait kind old → CanWait kind new
    rested_can can = record {
      room = subst (λ (r : Record R). r.won + 1 ≤ r.shape.life) (sym slept.changed.sleeps.looks.known) can.room;
      begins = subst (λ (h : Hint). (h.round_robin ≡ false) ⊎ (h.at ≡ 0)) (sym slept.changed.stays.hint) can.begins;
    }

  -- each way to sleep keeps the hand's tags
  pub beside_keeps : (old new : Hand R) → Beside old new → HoldsSame old new
  beside_keeps old new is = subst (HoldsSame old) (sym is) (same_itself old)

  pub told_keeps : (old new : Hand R) → UntilTold kind old new → HoldsSame old new
  told_keeps old new slept = same old new kind slept.other slept.split slept.changed.stays.holds

  module _ (so : Hand R → Hand R → Type 0) (keeps : (old new : Hand R) → so old new → HoldsSame old new) where
    -- so do sleeps and the rounds between them
    sleeps_keep : (sleeps : ℕ) (old new : Hand R) → AreSleeps sleeps pool kind so old new → HoldsSame old new
    sleeps_keep zero old new is = beside_keeps old new is
    sleeps_keep (suc sleeps) old new slept = same_then_same (sleeps_keep sleeps old slept.0 slept.2)
        (same_then_same slept.3.same (keeps slept.1 new slept.4))

  -- what the last round of a wait comes to, after which the hand is up
  record Ended (answer : Option ℕ) (old new : Hand R) : Type 0 where
    pub more : HoldsMore (IsAnswer answer) old new
    pub tag : (tag : ℕ) → IsAnswer answer tag → IsTagIn pool kind tag
    pub done : (waiter : Waiter) → OwesNothing waiter (caller_of new kind)
    pub up : IsUp (caller_of new kind)

  ended : (sleeps : ℕ) (answer : Option ℕ) (told : Told) (old new : Hand R) → EndsSo pool kind sleeps answer told old new
      → Ended answer old new
  ended sleeps (Some tag) told old new wins = record {
    more = wins.more;
    tag = wins.wins.tag;
    done = wins.ends.sees.set.changed.done;
    up = wins.ends.up;
  }
  ended sleeps None told old new ends = record {
    more = record {
      fresh = λ tag no. absurd no;
      joined = λ tag no. absurd no;
      kept = ends.same.kept;
      none_else = λ tag has. inl (ends.same.none_else tag has);
    };
    tag = λ tag no. absurd no;
    done = ends.sees.set.changed.done;
    up = ends.up;
  }

  -- a hand that won a tag at once, and then saw to all tags, got it
  pub at_once : (so : Hand R → Hand R → Type 0) (over : Type 0) (answer : Option ℕ) (told : Told) (old new : Hand R)
      → WinsAtOnce pool kind answer told old new → GetsUntil pool kind so over answer told old new
  at_once so over answer told old new wins = record {
    how = inl wins;
    comes = record {
      more = more_then_same wins.wins.more
          (same wins.won new kind wins.sees.set.other wins.sees.set.split wins.sees.set.changed.holds);
      tag = wins.wins.tag;
      done = wins.sees.set.changed.done;
      waits = inr (wins.sees.set.changed.waits ∙ waits_there answer old wins.won wins.wins);
    };
  }

  -- so did one that slept for it
  pub asleep : (so : Hand R → Hand R → Type 0) → ((old new : Hand R) → so old new → HoldsSame old new)
      → (over : Type 0) (answer : Option ℕ) (told : Told) (old new : Hand R)
      → SleepsForOne pool kind so over answer told old new → GetsUntil pool kind so over answer told old new
  asleep so keeps over answer told old new waits =
      let rest = waits.sleeps in
      let same = same_then_same (found_none old waits.tried waits.none).same
      (sleeps_keep so keeps rest.sleeps waits.tried rest.last rest.slept) in
      let end = ended rest.sleeps answer told rest.last new rest.ends in record {
        how = inr waits;
        comes = record { more = same_then_more same end.more; tag = end.tag; done = end.done; waits = inl end.up };
      }
