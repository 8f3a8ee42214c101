-- A first try, and what follows it, are together a get.
use Rattle.std.specs.Prelude.{◌+◌, ◌<◌, ◌≡◌, ◌≤◌}
use Rattle.tag_pool.proofs.Uses.{ap, arith, Caller, Err, Found, Hand, IfErr, IfOk, IfSome, IsHandOf, Makes, Map, None, Ok, Option, Ordinary, Pool, record_of, refl, reserved_of, Result, Shape, Side, Some, split_of, subst, sym, whole, ℕ, ℕ_set, ◌∙◌}
use Rattle.tag_core.specs.Callers as core
use Rattle.tag_search.specs.declared.hint.Hint.{Hint}
use Rattle.tag_search.specs.declared.search.Unfinished.{Unfinished}
use Rattle.tag_search.specs.declared.search.Unfinished.TheVariants.{NotBegun, Full, Lost}
use Rattle.tag_search.specs.Begun.{CanFinish, IsBegun, IsRestOfGet, IsWonAtOnce}
use Rattle.tag_search.specs.Follows.{HintFollows}
use Rattle.tag_search.specs.Freed.{left_free}
use Rattle.tag_search.specs.Gains as gains
use Rattle.tag_search.proofs.BegunFacts.{GaveNone, begun_frees_none, begun_same}
use Rattle.tag_search.proofs.FreedFacts.{freed_same, none_left, left_since}
use Rattle.tag_search.proofs.MapGets.{won_got, rest_got}
use Rattle.tag_search.proofs.VainGets.{none_found}
use Rattle.tag_pool.specs.Sides as side
use Rattle.tag_pool.specs.FirstTry.{BeginsGet, TriesFirst, TriesFirstIn}
use Rattle.tag_pool.specs.Gets.{DoesGet}
use Rattle.tag_pool.proofs.Getting.{few_steps, gets_of}

-- a get in a set for which there was room, with this answer, and this many tags freed and left
pub record GetsIn {R : Type 0} (map : Map R) (found : Found ℕ) (old new : Side R) : Type 0 where
  pub room : side.HasRoom old 1
  pub gets : side.GetsPlain (core.layout_of map) found.answer old new
  pub left : found.left ≡ left_free (side.caller_of old) (side.caller_of new)
  pub bound : side.step_count new ≤ side.most_steps (core.layout_of map) + side.step_count old

-- a side with its own caller and its own hint is the same side
pub same_side : {R : Type 0} (side : Side R) (caller : Caller R) (hint : Hint) (numbers : (record_of caller).number ≡ side.number)
    → caller ≡ side.caller → hint ≡ side.hint
    → record { hint = hint; number = side.number; caller = caller; numbers = numbers } ≡ side
same_side {R} side caller hint numbers is at = subst
    (λ (a : Caller R). (n : (record_of a).number ≡ side.number)
    → record { hint = hint; number = side.number; caller = a; numbers = n } ≡ side) (sym is)
    (λ n j. record { hint = at j; number = side.number; caller = side.caller; numbers = ℕ_set _ _ n side.numbers j })
    numbers

-- a caller that makes a first try gives nothing back
pub begin_same : {R : Type 0} (map : Map R) (old new : Caller R) (hint : Hint) (answer : Result ℕ Unfinished)
    → core.IsCallerOf map old → IfOk answer (λ tag. Makes old new (IsWonAtOnce (core.layout_of map) hint tag))
    → IfErr answer (λ rest. Makes old new (IsBegun (core.layout_of map) hint rest)) → GaveNone old new
begin_same map old new hint (Ok tag) own won begun =
    let got = won_got map old new own hint tag won in
    record { number = got.gains.number; shape = got.gains.shape; back = got.gains.back }
begin_same map old new hint (Err rest) own won begun = begun_same (core.layout_of map) hint rest old new begun

-- a number found is one of the set
found_in : {R : Type 0} (map : Map R) (old new : Caller R) (answer : Option ℕ) → core.IsCallerOf map new
    → gains.Gains (core.layout_of map) answer old new → IfSome answer (λ n. n < (core.layout_of map).depth)
found_in map old new None still got = tt
found_in map old new (Some n) still got = subst (λ (k : Shape). n < k.layout.depth) still.1 (got.acquires.joined n refl).0

pub won_low : {R : Type 0} (map : Map R) (old new : Caller R) (hint : Hint) (number : ℕ) → core.IsCallerOf map old
    → core.IsCallerOf map new → Makes old new (IsWonAtOnce (core.layout_of map) hint number)
    → number < (core.layout_of map).depth
won_low map old new hint number own still won =
    found_in map old new (Some number) still (won_got map old new own hint number won).gains

module _ {R : Type 0} (map : Map R) (old middle : Side R) (rest : Unfinished) (answer : Option ℕ)
    (tried : TriesFirstIn map rest old middle) (new : Caller R)
    (finished : Makes (side.caller_of middle) new (IsRestOfGet (core.layout_of map) (side.hint_of middle) rest answer)) where
  -- what follows the try follows it from its hint
  rest_from : Makes (side.caller_of middle) new (IsRestOfGet (core.layout_of map) (side.hint_of old) rest answer)
  rest_from = subst
      (λ (h : Hint). Makes (side.caller_of middle) new (IsRestOfGet (core.layout_of map) h rest answer)) tried.hint finished

  -- nor does a caller give anything back by what follows the try
  pub rest_same : GaveNone (side.caller_of middle) new
  rest_same =
      let begun = begun_same (core.layout_of map) (side.hint_of old) rest (side.caller_of old) (side.caller_of middle)
      tried.steps in
      let got = rest_got map (side.caller_of old) new tried.side (side.caller_of middle) (side.hint_of old) rest answer
      tried.steps rest_from in record {
        number = got.gains.number ∙ sym begun.number;
        shape = got.gains.shape ∙ sym begun.shape;
        back = got.gains.back ∙ sym begun.back;
      }

  pub rest_low : core.IsCallerOf map new → IfSome answer (λ n. n < (core.layout_of map).depth)
  rest_low still = found_in map (side.caller_of old) new answer still (rest_got map (side.caller_of old) new tried.side
      (side.caller_of middle) (side.hint_of old) rest answer tried.steps rest_from).gains

module _ {R : Type 0} (map : Map R) (old new : Side R) where
  -- a first try that won a tag is the get
  pub won_gets : (number : ℕ) → side.IsSideOf map old → side.HasRoom old 1
      → Makes (side.caller_of old) (side.caller_of new) (IsWonAtOnce (core.layout_of map) (side.hint_of old) number)
      → HintFollows (core.layout_of map).depth (side.hint_of old) (side.hint_of new) (Some number)
      → GetsIn map (record { answer = Some number; left = 0 }) old new
  won_gets number own room won hint =
      let got = won_got map (side.caller_of old) (side.caller_of new) own (side.hint_of old) number won in record {
        room = room;
        gets = record {
          searches = record { gains = got.gains; steps = got.steps; alone = got.alone; hint = hint };
          vain = tt;
        };
        left = none_left (side.caller_of old) (side.caller_of new)
            (freed_same (side.caller_of old) (side.caller_of new) won.steps won.added won.holds.freed);
        bound = few_steps (side.most_steps (core.layout_of map)) (λ steps h. h.bound) got.steps;
      }

  -- what follows a first try that won none finishes the get
  pub rest_gets : (middle : Side R) (rest : Unfinished) (found : Found ℕ) → TriesFirstIn map rest old middle
      → Makes (side.caller_of middle) (side.caller_of new)
      (IsRestOfGet (core.layout_of map) (side.hint_of middle) rest found.answer)
      → HintFollows (core.layout_of map).depth (side.hint_of middle) (side.hint_of new) found.answer
      → found.left ≡ left_free (side.caller_of middle) (side.caller_of new) → GetsIn map found old new
  rest_gets middle rest found tried finished hint left =
      let l = core.layout_of map in let a = side.caller_of old in let b = side.caller_of middle in
      let c = side.caller_of new in let from = side.hint_of old in
      let none = begun_frees_none l from rest tried.steps.steps tried.steps.holds in
      let got = rest_got map a c tried.side b from rest found.answer tried.steps
      (rest_from map old middle rest found.answer tried c finished) in record {
        room = tried.room.0;
        gets = record {
          searches = record {
            gains = got.gains;
            steps = got.steps;
            alone = got.alone;
            hint = subst (λ (h : Hint). HintFollows l.depth h (side.hint_of new) found.answer) tried.hint hint;
          };
          vain = none_found map a c tried.side from found.answer got.steps;
        };
        left = left ∙ left_since a b c (freed_same a b tried.steps.steps tried.steps.added none);
        bound = few_steps (side.most_steps l) (λ steps h. h.bound) got.steps;
      }

module _ {R : Type 0} (pool : Pool R) (hand : Hand R) (own : IsHandOf pool hand) (new : Side R)
    (still : side.IsSideOf pool.ordinary new) where
  -- what the ordinary side gets the hand gets
  pub does_get : (number : Option ℕ) (left : ℕ) → GetsIn pool.ordinary (record { answer = number; left = left }) hand.ordinary new
      → DoesGet pool (Ok (record { answer = whole (reserved_of pool) number; left = left })) hand (record hand { ordinary = new })
  does_get number left got = record {
    refusals = record { first = tt; passes = (got.room, tt); same = tt };
    gets = gets_of pool hand own Ordinary new still number got.gets;
    left = got.left;
    bound = let few = got.bound in omega arith;
  }

  -- the same of a tag that is counted from the first ordinary one as the hand knows it
  pub does_get_own : (number : ℕ) → GetsIn pool.ordinary (record { answer = Some number; left = 0 }) hand.ordinary new
      → DoesGet pool (Ok (record { answer = Some (split_of hand + number); left = 0 })) hand (record hand { ordinary = new })
  does_get_own number got = subst
      (λ (first : ℕ). DoesGet pool (Ok (record { answer = Some (first + number); left = 0 })) hand (record hand { ordinary = new }))
      (sym own.2) (does_get (Some number) 0 got)

  -- a first try of the ordinary side that won nothing began the hand's get
  pub begins : (rest : Unfinished) → side.HasRoom hand.ordinary 1 → side.HasRoom new 1
      → CanFinish (core.layout_of pool.ordinary) (side.hint_of hand.ordinary) rest
      → Makes (side.caller_of hand.ordinary) (side.caller_of new)
      (IsBegun (core.layout_of pool.ordinary) (side.hint_of hand.ordinary) rest)
      → side.hint_of new ≡ side.hint_of hand.ordinary → (rest ≡ NotBegun → new ≡ hand.ordinary)
      → BeginsGet pool rest hand (record hand { ordinary = new })
  begins rest room left can steps hint same = of rest can steps same
    where
      first : (r : Unfinished) → CanFinish (core.layout_of pool.ordinary) (side.hint_of hand.ordinary) r
          → Makes (side.caller_of hand.ordinary) (side.caller_of new)
          (IsBegun (core.layout_of pool.ordinary) (side.hint_of hand.ordinary) r)
          → TriesFirst pool r hand (record hand { ordinary = new })
      first r can steps = record {
        hand = own;
        set = record {
          changed = record { side = own.1; room = (room, left); can = can; steps = steps; hint = hint };
          other = refl;
          split = refl;
        };
      }

      of : (r : Unfinished) → CanFinish (core.layout_of pool.ordinary) (side.hint_of hand.ordinary) r
          → Makes (side.caller_of hand.ordinary) (side.caller_of new)
          (IsBegun (core.layout_of pool.ordinary) (side.hint_of hand.ordinary) r) → (r ≡ NotBegun → new ≡ hand.ordinary)
          → BeginsGet pool r hand (record hand { ordinary = new })
      of NotBegun can steps same = ap (λ (s : Side R). record hand { ordinary = s }) (same refl)
      of Full can steps same = first Full can steps
      of (Lost from found) can steps same = first (Lost from found) can steps

-- what finishes the get of the ordinary side finishes that of the hand
module _ {R : Type 0} (pool : Pool R) (before hand : Hand R) (rest : Unfinished) (tried : TriesFirst pool rest before hand)
    (new : Side R) where
  same_hand : record before { ordinary = new } ≡ record hand { ordinary = new }
  same_hand j = record {
    reserved_count = sym tried.set.split j;
    reserved = sym tried.set.other j;
    ordinary = new;
  }

  pub finishes : (number answer : Option ℕ) (left : ℕ) → side.IsSideOf pool.ordinary new
      → answer ≡ whole (reserved_of pool) number
      → GetsIn pool.ordinary (record { answer = number; left = left }) before.ordinary new
      → DoesGet pool (Ok (record { answer = answer; left = left })) before (record hand { ordinary = new })
  finishes number answer left still is got =
      subst (λ (h : Hand R). DoesGet pool (Ok (record { answer = answer; left = left })) before h) same_hand
      (subst (λ (a : Option ℕ). DoesGet pool (Ok (record { answer = a; left = left })) before (record before { ordinary = new }))
      (sym is) (does_get pool before tried.hand new still number left got))
