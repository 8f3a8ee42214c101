-- What a round gives a hand, also after a get that it made first.
use Rattle.std.specs.Prelude.{◌<◌, ◌↔◌, ◌≡◌, ◌≢◌, ◌≤◌}
use Rattle.tag_c.proofs.Uses.{arith, Bool, Err, false, Found, Hand, IfOk, inl, inr, IsTrue, MAX_DEPTH, None, Ok, Option, Pool, RefusesBy, refl, Result, Some, subst, sym, TagFault, total_of, ℕ, ⊎_elim}
use Rattle.tag_core.specs.declared.berth.Waiter.{Waiter}
use Rattle.tag_bell.specs.declared.told.Told.{Told}
use Rattle.tag_bell.specs.declared.waiting.Turn.{Turn}
use Rattle.tag_model.proofs.HoldingFacts.{more_then_same, same_itself, same_then_more, same_then_same}
use Rattle.tag_model.specs.Holding as holding
use Rattle.tag_pool.proofs.WaitsKeep.{found_none}
use Rattle.tag_pool.specs.Gets as hand_gets
use Rattle.tag_pool.specs.Gets.{IsAnswer}
use Rattle.tag_pool.specs.Hands.{HasRoom, layout_of}
use Rattle.tag_pool.specs.Holding as hand_holding
use Rattle.tag_pool.specs.Refusals.{reserved_checks}
use Rattle.tag_pool.specs.Waits as hands
use Rattle.tag_pool.specs.declared.gets.rounds.Next.{Next}
use Rattle.tag_pool.specs.declared.gets.rounds.Next.TheVariants.{Won, Over, Sleep}
use Rattle.tag_pool.specs.declared.kind.Kind.{Kind}
use Rattle.tag_pool.specs.declared.kind.Kind.TheVariants.{Ordinary, Reserved}
use Rattle.tag_cache.proofs.Carrying.{keeps_twice, same_user}
use Rattle.tag_cache.proofs.SameWindows.{window_twice}
use Rattle.tag_cache.proofs.Tallying.{tallies_on, unchanged_tallies}
use Rattle.tag_cache.specs.declared.cache.Cache.{Cache}
use Rattle.tag_cache.specs.Caches.{KeepsNone}
use Rattle.tag_cache.specs.Changes.{IsUnchanged, SameHand}
use Rattle.tag_cache.specs.Gets as gets
use Rattle.tag_cache.specs.Holding as user_holding
use Rattle.tag_cache.specs.Refusals.{get_checks}
use Rattle.tag_cache.specs.Waits as caches
use Rattle.tag_c.specs.Rounds.{Begins, BeginsOver, get_checks_over, GetsOver, GoesOn, GoesOnOver, IfWon, IsWon, MakesRound, MakesRoundOver, round_checks_over}

-- to gain no tag is to hold the same ones
module _ {Owner Value : Type 0} {by : holding.Holding Owner Value} {a b : Owner} {named : ℕ → Type 0}
    (none : (tag : ℕ) → ¬ (named tag)) where
  gains_none : holding.HoldsSame by a b → holding.HoldsMore by named a b
  gains_none same = record {
    fresh = λ tag is. absurd (none tag is);
    joined = λ tag is. absurd (none tag is);
    kept = same.kept;
    none_else = λ tag has. inl (same.none_else tag has);
  }

  holds_same : holding.HoldsMore by named a b → holding.HoldsSame by a b
  holds_same more = record {
    kept = more.kept;
    none_else = λ tag has. ⊎_elim (λ was. was) (λ is. absurd (none tag is)) (more.none_else tag has);
  }

-- a round that is no end of the wait answers none
pub not_over : (next : Next) → (next ≡ Over ↔ IsTrue false) → next ≢ Over
not_over next over is = let wrong = over.0 is in cc

-- what a get of a kind, and a round, are for the user of a cache: of an ordinary tag, and of a reserved one
module _ (pool : Pool ℕ) (old new : Cache ℕ) where
  over_more : (kind : Kind) (answer : Option ℕ) → GetsOver pool kind answer old new
      → user_holding.HoldsMore (IsAnswer answer) old new
  over_more Ordinary answer got = got.more
  over_more Reserved answer got = got.1

  over_low : (kind : Kind) (tag : ℕ) → GetsOver pool kind (Some tag) old new → tag < total_of pool
  over_low Ordinary tag got = (got.ordinary tag refl).0
  over_low Reserved tag got = (got.0.tag tag refl).0

  goes_more : (kind : Kind) (waiter : Waiter) (turn : Turn) (next : Next) (told : Told) → next ≢ Over
      → caches.Goes pool kind waiter turn next told old new → user_holding.HoldsMore (IsWon next) old new
  goes_more Ordinary waiter turn (Won tag) told ne goes = goes.more
  goes_more Ordinary waiter turn Over told ne goes = absurd (ne refl)
  goes_more Ordinary waiter turn Sleep told ne goes = gains_none (λ tag no. no) goes.1.same.held
  goes_more Reserved waiter turn (Won tag) told ne goes = goes.more
  goes_more Reserved waiter turn Over told ne goes = absurd (ne refl)
  goes_more Reserved waiter turn Sleep told ne goes = goes.more

  goes_low : (kind : Kind) (waiter : Waiter) (turn : Turn) (tag : ℕ) (told : Told)
      → caches.Goes pool kind waiter turn (Won tag) told old new → tag < total_of pool
  goes_low Ordinary waiter turn tag told goes = goes.ordinary.0
  goes_low Reserved waiter turn tag told goes = (goes.hand.wins.tag tag refl).0

module _ (pool : Pool ℕ) (kind : Kind) (waiter : Waiter) (turn : Turn) (over : Bool) (told : Told) where
  module _ (old ready new : Hand ℕ) where
    -- a hand that can wait holds what it held
    ready_same : Begins pool kind over None old ready → hand_holding.HoldsSame old ready
    ready_same begins = ⊎_elim
        (λ same. subst (λ (h : Hand ℕ). hand_holding.HoldsSame old h) (sym same) (same_itself old))
        (λ none. (found_none pool kind old ready none).same) begins.2

    -- the round gives it the tag won
    pub gains_by : (next : Next) → Begins pool kind over None old ready → next ≢ Over
        → hands.Goes pool kind waiter turn next told ready new → hand_holding.HoldsMore (IsWon next) old new
    gains_by (Won tag) begins ne goes = same_then_more (ready_same begins) goes.more
    gains_by Over begins ne goes = absurd (ne refl)
    gains_by Sleep begins ne goes = gains_none (λ tag no. no) (same_then_same (ready_same begins) goes.1.same)

    -- so does the get that ended its wait
    pub gains_at_once : (end : Next) → Begins pool kind over (Some end) old ready
        → hands.EndsWait pool kind told ready new → hand_holding.HoldsMore (IsWon end) old new
    gains_at_once (Won tag) begins ends = more_then_same begins.1.more ends.same
    gains_at_once Over begins ends = gains_none (λ tag no. no)
        (subst (λ (h : Hand ℕ). hand_holding.HoldsSame h new) begins.1 ends.same)
    gains_at_once Sleep begins ends = absurd begins

  module _ (old ready new : Cache ℕ) where
    -- the same over a cache
    ready_same_over : BeginsOver pool kind over None old ready → user_holding.HoldsSame old ready
    ready_same_over begins = ⊎_elim
        (λ same. subst (λ (c : Cache ℕ). user_holding.HoldsSame old c) (sym same) (same_itself old))
        (λ none. holds_same (λ tag no. no) (over_more pool old ready kind None none)) begins.2

    pub gains_by_over : (next : Next) → BeginsOver pool kind over None old ready → next ≢ Over
        → caches.Goes pool kind waiter turn next told ready new → user_holding.HoldsMore (IsWon next) old new
    gains_by_over next begins ne goes = same_then_more (ready_same_over begins)
        (goes_more pool ready new kind waiter turn next told ne goes)

    pub gains_at_once_over : (end : Next) → BeginsOver pool kind over (Some end) old ready
        → caches.EndsWait pool kind told ready new → user_holding.HoldsMore (IsWon end) old new
    gains_at_once_over (Won tag) begins ends =
        more_then_same (over_more pool old ready kind (Some tag) begins.1) ends.same.held
    gains_at_once_over Over begins ends = gains_none (λ tag no. no)
        (subst (λ (c : Cache ℕ). user_holding.HoldsSame c new) begins.1 ends.same.held)
    gains_at_once_over Sleep begins ends = absurd begins

    -- the wait of a cache that is as it was ends for the former one
    pub ends_unchanged : IsUnchanged old ready → caches.EndsWait pool kind told ready new
        → caches.EndsWait pool kind told old new
    ends_unchanged u ends = let same : SameHand old ready = record { hand = u.hand; kept = u.kept } in record {
      hand = subst (λ (h : Hand ℕ). hands.EndsWait pool kind told h new.hand) u.hand ends.hand;
      same = record {
        held = same_then_same (same_user old ready same) ends.same.held;
        kept = keeps_twice old ready new u.kept ends.same.kept;
        window = window_twice old ready new u.window ends.same.window;
        tally = tallies_on 0 0 old ready new (unchanged_tallies old ready same) ends.same.tally;
      };
    }

module _ (pool : Pool ℕ) (old new : Cache ℕ) where
  -- after a get that found no tag the hand can wait
  waits_of : (kind : Kind) → ((kind ≡ Ordinary → KeepsNone old) → HasRoom old.hand kind 1) → GetsOver pool kind None old new
      → hands.CanWait kind new.hand
  waits_of Ordinary room got = ⊎_elim
      (λ (kept : gets.FromKept None old new). absurd (let no = kept.answer_is in cc))
      (λ won. (found_none pool Ordinary old.hand new.hand won.gets).again (room (λ is. won.none))) got.source
  waits_of Reserved room got = (found_none pool Reserved old.hand new.hand got.0).again (room (λ is. absurd (let no = is in cc)))

  pub waits_after : (kind : Kind) (answer : Option ℕ) → answer ≡ None
      → ((kind ≡ Ordinary → KeepsNone old) → HasRoom old.hand kind 1) → GetsOver pool kind answer old new
      → hands.CanWait kind new.hand
  waits_after kind None is room got = waits_of kind room got
  waits_after kind (Some tag) is room got = absurd (let no = is in cc)

  -- where a get is refused the hand can't wait
  pub refused_first : {A B : Type 0} (kind : Kind) (over : Bool) (fault : TagFault) → over ≡ false
      → 1 ≤ (layout_of pool kind).depth
      → RefusesBy {Answer = A} (get_checks_over kind old) (IsUnchanged old new) (Err fault)
      → RefusesBy {Answer = B} (round_checks_over kind over pool old) (IsUnchanged old new) (Err fault)
  refused_first kind over fault goes_on some refuses = record {
    first = inr (some, ⊎_elim (λ spent. inl ((λ all. spent.0 (all goes_on)), spent.1)) (λ no. absurd no.1) refuses.first);
    passes = tt;
    same = refuses.same;
  }

  -- a get of an ordinary tag is refused where none is kept and the hand's life is used up
  pub ordinary_refuses : {A : Type 0} (r : Result A TagFault) → RefusesBy (get_checks old) (IsUnchanged old new) r
      → RefusesBy (get_checks_over Ordinary old) (IsUnchanged old new) r
  ordinary_refuses (Ok x) refuses = record { first = tt; passes = ((λ all. refuses.passes.0 (all refl)), tt); same = tt }
  ordinary_refuses (Err fault) refuses = record {
    first = ⊎_elim (λ spent. inl ((λ all. spent.0 (λ none. all (λ is. none))), spent.1)) (λ no. absurd no.1) refuses.first;
    passes = tt;
    same = refuses.same;
  }

  -- a get of a reserved one, of which there are some, whatever is kept
  pub reserved_refuses : {A : Type 0} → 1 ≤ (layout_of pool Reserved).depth → (r : Result A TagFault)
      → RefusesBy (reserved_checks pool old.hand) (IsUnchanged old new) r
      → RefusesBy (get_checks_over Reserved old) (IsUnchanged old new) r
  reserved_refuses some (Ok x) refuses = record { first = tt; passes = ((λ all. refuses.passes.1.0), tt); same = tt }
  reserved_refuses some (Err fault) refuses = record {
    first = ⊎_elim
        (λ none. absurd (none.0 (let is = pool.reserved_is in omega (arith, some))))
        (λ rest. ⊎_elim (λ spent. inl ((λ all. spent.0 (all (λ is. absurd (let no = is in cc)))), spent.1))
        (λ no. absurd no.1) rest.1)
        refuses.first;
    passes = tt;
    same = refuses.same;
  }

  -- what a get of a reserved tag gives the user
  pub reserved_gets : (r : Result (Found ℕ) TagFault)
      → IfOk r (λ found. hand_gets.Gets pool Reserved found.answer old.hand new.hand)
      → IfOk r (λ found. user_holding.HoldsMore (IsAnswer found.answer) old new)
      → IfOk r (λ found. GetsOver pool Reserved found.answer old new)
  reserved_gets (Ok found) got more = (got, more)
  reserved_gets (Err fault) got more = tt

-- a tag of the pool has a number that fits
low : (pool : Pool ℕ) (tag : ℕ) → tag < total_of pool → tag ≤ MAX_DEPTH
low pool tag below = let fits = pool.fits in let is = pool.total_is in omega arith

module _ (pool : Pool ℕ) (kind : Kind) (waiter : Waiter) (turn : Turn) (over : Bool) (told : Told) (tag : ℕ) where
  -- so has the one that a round won
  won_low : (old ready new : Hand ℕ) (end : Option Next) → Begins pool kind over end old ready
      → GoesOn pool kind waiter turn end (Won tag) told ready new → tag < total_of pool
  won_low old ready new None begins goes = (goes.1.wins.tag tag refl).0
  won_low old ready new (Some end) begins goes = (
      (subst (λ (e : Next). Begins pool kind over (Some e) old ready) (sym goes.0) begins).1.tag tag refl
      ).0

  won_low_over : (old ready new : Cache ℕ) (end : Option Next) → BeginsOver pool kind over end old ready
      → GoesOnOver pool kind waiter turn end (Won tag) told ready new → tag < total_of pool
  won_low_over old ready new None begins goes = goes_low pool ready new kind waiter turn tag told goes.1
  won_low_over old ready new (Some end) begins goes = over_low pool old ready kind tag
      (subst (λ (e : Next). BeginsOver pool kind over (Some e) old ready) (sym goes.0) begins).1

module _ (pool : Pool ℕ) (kind : Kind) (waiter : Waiter) (turn : Turn) (over : Bool) (told : Told) where
  pub round_fits : (answer : Result Next TagFault) (old new : Hand ℕ)
      → IfOk answer (λ next. MakesRound pool kind waiter turn over next told old new)
      → IfOk answer (IfWon (λ tag. tag ≤ MAX_DEPTH))
  round_fits (Ok (Won tag)) old new makes =
      low pool tag (won_low pool kind waiter turn over told tag old makes.ready new makes.end makes.begins makes.goes)
  round_fits (Ok Over) old new makes = tt
  round_fits (Ok Sleep) old new makes = tt
  round_fits (Err fault) old new makes = tt

  pub round_fits_over : (answer : Result Next TagFault) (old new : Cache ℕ)
      → IfOk answer (λ next. MakesRoundOver pool kind waiter turn over next told old new)
      → IfOk answer (IfWon (λ tag. tag ≤ MAX_DEPTH))
  round_fits_over (Ok (Won tag)) old new makes =
      low pool tag
      (won_low_over pool kind waiter turn over told tag old makes.ready new makes.end makes.begins makes.goes)
  round_fits_over (Ok Over) old new makes = tt
  round_fits_over (Ok Sleep) old new makes = tt
  round_fits_over (Err fault) old new makes = tt
