-- What a get gives the user where nothing is kept.
use Rattle.tag_cache.proofs.Uses.{answered, Cache, Found, Gets, GetsAndLooks, GetsBy, Hand, IfOk, IfOk-weaker, inl, inr, IsAnswer, IsHandOf, IsTagIn, KeepsNone, KeepsSame, Option, Ordinary, Pool, refl, Result, Reuses, Some, subst, sym, TagFault, Tallies, Woken, ℕ}
use Rattle.tag_pool.specs.Gets as hand_gets
use Rattle.tag_pool.specs.declared.gets.Got.{Got}
use Rattle.tag_cache.proofs.Carrying.{more}
use Rattle.tag_cache.proofs.Gaining.{Gains, looked_gains, plain_gains}
use Rattle.tag_cache.proofs.Reusing.{reuse_ordinary, taken}
use Rattle.tag_cache.proofs.Tallying.{moves_tallies}

-- nothing is kept, so the hand makes the get
module _ {R : Type 0} (pool : Pool R) (old new : Cache R) (keeps : KeepsSame old new) (none : KeepsNone old) where
  by_hand : (Search : Hand R → Hand R → Type 0) (answer : Option ℕ)
      → Gains (IsAnswer answer) (answered answer) old.hand new.hand
      → ((tag : ℕ) → IsAnswer answer tag → IsTagIn pool Ordinary tag) → Search old.hand new.hand
      → GetsBy Search pool answer old new
  by_hand Search answer gains ordinary gets = record {
    more = more old new keeps (IsAnswer answer) gains.more;
    ordinary = ordinary;
    source = inr (record { none = none; gets = gets; same = keeps });
  }

  looked : (answer : Option ℕ) (woken : Woken)
      → hand_gets.GetsAndLooks Ordinary (hand_gets.Gets pool Ordinary answer) woken old.hand new.hand
      → Gains (IsAnswer answer) (answered answer) old.hand new.hand
  looked answer woken x = looked_gains Ordinary (IsAnswer answer) (answered answer) woken (hand_gets.Gets pool Ordinary answer)
      old.hand new.hand (λ h. plain_gains pool Ordinary answer old.hand h) x

  pub gets_after : (r : Result (Got (Option ℕ)) TagFault)
      → IfOk r (λ got. hand_gets.GetsAndLooks Ordinary (hand_gets.Gets pool Ordinary got.answer) got.woken old.hand new.hand)
      → record {
        gets : IfOk r (λ got. GetsAndLooks pool got.answer got.woken old new);
        tally : IfOk r (λ got. Tallies (answered got.answer) 0 old new);
      }
  gets_after r got = record {
    gets = IfOk-weaker r _ _ (λ found
        (x : hand_gets.GetsAndLooks Ordinary (hand_gets.Gets pool Ordinary found.answer) found.woken old.hand new.hand). record {
          gets = by_hand (hand_gets.GetsAndLooks Ordinary (hand_gets.Gets pool Ordinary found.answer) found.woken) found.answer
              (looked found.answer found.woken x) x.gets.tag x;
          quiet = λ some. absurd (some none);
        }) got;
    tally = IfOk-weaker r _ _ (λ found
        (x : hand_gets.GetsAndLooks Ordinary (hand_gets.Gets pool Ordinary found.answer) found.woken old.hand new.hand).
        moves_tallies (answered found.answer) 0 old new keeps (looked found.answer found.woken x).moves) got;
  }

  pub gets_quietly_after : (r : Result (Found ℕ) TagFault)
      → IfOk r (λ found. hand_gets.Gets pool Ordinary found.answer old.hand new.hand) → record {
        gets : IfOk r (λ found. Gets pool found.answer old new);
        tally : IfOk r (λ found. Tallies (answered found.answer) 0 old new);
      }
  gets_quietly_after r found = record {
    gets = IfOk-weaker r _ _ (λ found (x : hand_gets.Gets pool Ordinary found.answer old.hand new.hand). by_hand
        (hand_gets.Gets pool Ordinary found.answer) found.answer (plain_gains pool Ordinary found.answer _ _ x) x.tag x)
        found;
    tally = IfOk-weaker r _ _ (λ found (x : hand_gets.Gets pool Ordinary found.answer old.hand new.hand).
        moves_tallies (answered found.answer) 0 old new keeps (plain_gains pool Ordinary found.answer _ _ x).moves) found;
  }

-- a kept tag is handed out by no get of the hand
pub gets_kept : {R : Type 0} (gets : Hand R → Hand R → Type 0) (pool : Pool R) (old new : Cache R) (tag : ℕ)
    → IsHandOf pool old.hand → Reuses tag old new → GetsBy gets pool (Some tag) old new
gets_kept gets pool old new tag own r = record {
  more = taken old new tag r.hands_out.takes;
  ordinary = λ t e. subst (λ (x : ℕ). IsTagIn pool Ordinary x) (sym e) (reuse_ordinary pool old new tag own r.hands_out.takes);
  source = inl (record { tag = tag; answer_is = refl; reuses = r });
}
