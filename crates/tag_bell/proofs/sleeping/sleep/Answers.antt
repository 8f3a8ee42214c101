-- Each turn is one look more. The caller sleeps only after a look in which it found itself listed.
use Rattle.std.specs.Prelude.{◌∷◌, ◌≡◌}
use Rattle.std.proofs.lemmas.Bool.{false≢true}
use Rattle.tag_bell.proofs.Uses.{[], Adds, AgreesWith, ap, Bell, Berth, Caller, IsListed, IsTold, List, Listed, LookAt, OnlyAdds, Record, record_of, refl, Sleeper, Step, subst, sym, Told, true, Up, waits_as, ℕ, ◌∙◌}
use mathlib.Core.Option.{some, some-ne-none}
use Rattle.std.proofs.lemmas.List.Elements.{All-cons, All-nil}
use Rattle.tag_model.proofs.HoldingFacts.{same_itself, same_then_same}
use Rattle.tag_bell.specs.Sleeping.{looks_at}
use Rattle.tag_bell.proofs.Looking.{looks_owe, looks_try, looks_wait}
use Rattle.tag_bell.proofs.Rung.{added_after, rung, steps_added}
use Rattle.tag_bell.proofs.sleeping.sleep.Goals as goal

-- one look after others
module _ {R : Type 0} (seen : List Berth) (found : Berth) (first old new : Caller R)
    (before : OnlyAdds (looks_at (record_of first).number seen) first old)
    (look : Adds (Bell (LookAt (record_of old).number found)) old new) where
  one_more : OnlyAdds (looks_at (record_of first).number (found ∷ seen)) first new
  one_more = added_after (looks_at (record_of first).number seen) (Bell (LookAt (record_of first).number found) ∷ []) first
      old new before (subst (λ (n : ℕ). OnlyAdds (Bell (LookAt n found) ∷ []) old new)
      (ap (λ (r : Record R). r.number) before.known) (rung (LookAt (record_of old).number found) old new look))

-- a caller that waits, and does not find itself listed, was told
was_told : {R : Type 0} (own : List (Step R)) (b : Berth) → AgreesWith own b → waits_as own ≡ some Sleeper
    → ¬ IsListed (λ waiter. true) b → IsTold (λ waiter. true) b
was_told own Up is waits not = absurd (some-ne-none Sleeper (sym waits ∙ is))
was_told own (Listed waiter turn) is waits not = absurd (not refl)
was_told own (Told waiter turn) is waits not = refl

pub loop-init : goal.loop-init
loop-init g c = record {
  turns = (tt, tt);
  own = c.requires.caller;
  seen = [];
  looks = record { known = refl; same_map = refl };
  listed = All-nil _;
  kept = same_itself c.args.caller.now;
}

pub returns-then-not-is_listed-clause-sleeps : goal.returns-then-not-is_listed-clause-sleeps
returns-then-not-is_listed-clause-sleeps g c =
    let inv = c.loop.invariant in let look = c.look_at_own-berth in let first = c.args.caller.now in
    let at = c.loop.caller in record {
      seen = inv.seen;
      found = look.result;
      looks = one_more inv.seen look.result first at look.new.caller inv.looks look.ensures.step;
      listed = inv.listed;
      told = was_told (record_of at).steps look.result look.ensures.own
          (looks_wait (record_of first).number inv.seen first at inv.looks ∙ c.requires.waiting)
          (λ listed. false≢true (sym c.if-not-is_listed.true ∙ c.is_listed.ensures.1 listed));
    }

pub returns-then-not-is_listed-clause-waits : goal.returns-then-not-is_listed-clause-waits
unfolding returns-then-not-is_listed-clause-sleeps
returns-then-not-is_listed-clause-waits g c = let is = returns-then-not-is_listed-clause-sleeps g c in
    looks_wait (record_of c.args.caller.now).number (is.found ∷ is.seen) c.args.caller.now c.look_at_own-berth.new.caller
    is.looks

pub returns-then-not-is_listed-clause-tried : goal.returns-then-not-is_listed-clause-tried
unfolding returns-then-not-is_listed-clause-sleeps
returns-then-not-is_listed-clause-tried g c = let is = returns-then-not-is_listed-clause-sleeps g c in
    looks_try (record_of c.args.caller.now).number (is.found ∷ is.seen) c.args.caller.now c.look_at_own-berth.new.caller
    is.looks

pub returns-then-not-is_listed-clause-owes : goal.returns-then-not-is_listed-clause-owes
unfolding returns-then-not-is_listed-clause-sleeps
returns-then-not-is_listed-clause-owes g c = let is = returns-then-not-is_listed-clause-sleeps g c in
    looks_owe (record_of c.args.caller.now).number (is.found ∷ is.seen) c.args.caller.now c.look_at_own-berth.new.caller
    is.looks

pub returns-then-not-is_listed-clause-kept : goal.returns-then-not-is_listed-clause-kept
returns-then-not-is_listed-clause-kept g c = same_then_same c.loop.invariant.kept c.look_at_own-berth.ensures.kept

pub sleep-requires-clause-looked : goal.sleep-requires-clause-looked
sleep-requires-clause-looked g c = let look = c.look_at_own-berth in let at = c.loop.caller in
    let only = rung (LookAt (record_of at).number look.result) at look.new.caller look.ensures.step in record {
      older = (record_of at).steps;
      look = subst (λ (n : ℕ). (record_of look.new.caller).steps ≡ Bell (LookAt n look.result) ∷ (record_of at).steps)
          (sym (ap (λ (r : Record g.row.R.Denot). r.number) only.known))
          (steps_added (Bell (LookAt (record_of at).number look.result) ∷ []) at look.new.caller only);
      listed = c.is_listed.ensures.0 c.if-not-is_listed.false;
    }

pub loop-preserved : goal.loop-preserved
loop-preserved g c =
    let inv = c.loop.invariant in let look = c.look_at_own-berth in let first = c.args.caller.now in
    let at = c.loop.caller in record {
      turns = (tt, tt);
      own = look.ensures.caller;
      seen = look.result ∷ inv.seen;
      looks = one_more inv.seen look.result first at look.new.caller inv.looks look.ensures.step;
      listed = All-cons (IsListed (λ waiter. true)) look.result inv.seen
          (c.is_listed.ensures.0 c.if-not-is_listed.false) inv.listed;
      kept = same_then_same inv.kept look.ensures.kept;
    }
