-- A tag that is posted changes nothing of what the hand won and gave back.
use Rattle.std.specs.Prelude.{◌+◌, ◌≡◌}
use Rattle.tag_cache.proofs.Uses.{ap, arith, back_of, Cache, Changes, Err, Forgets, Hand, HoldsSame, IsKnown, IsLast, KeepsNone, KeepsSame, Kind, kind_of, Ok, OnErr, OnOk, Ordinary, Passes, PassesAlone, Pool, Posts, PostsLast, Record, record_of, refl, Reserved, Result, SameTerms, SameWindow, Side}
use Rattle.tag_cache.proofs.Uses.{split_of, subst, TagFault, Tallies, ℕ}
use Rattle.tag_pool.specs.Sides as side
use Rattle.tag_model.proofs.HoldingFacts.{same_then_less}
use Rattle.tag_cache.proofs.Carrying.{keeps_twice, less, none_after, same_user, terms_twice}
use Rattle.tag_cache.proofs.SameWindows.{knows_less_then_same, same_then_knows_less, unknown_less}
use Rattle.tag_cache.proofs.Reusing.{last_unknown}
use Rattle.tag_cache.proofs.Tallying.{Moves, MovesSide, moves_in, moves_tallies, unchanged_tallies}

module _ {R : Type 0} where
  posts_side : (number note : ℕ) (a b : Side R) → side.Posts number note a b → MovesSide 0 0 a b
  posts_side number note a b x = record {
    won_is = ap (λ (r : Record R). r.won) x.step.known;
    back_is = ap (λ (r : Record R). r.back) x.step.known;
  }

  pub posts_moves : (tag note : ℕ) (a b : Hand R) → Posts tag note a b → Moves 0 0 a b
  posts_moves tag note a b p = moves_in (kind_of (split_of a) tag) 0 0 _ a b (λ c d x. posts_side _ note c d x) p.set

  -- nor of the ordinary tags that it gave back
  back_in : (kind : Kind) (change : Side R → Side R → Type 0) (a b : Hand R)
      → ((c d : Side R) → change c d → MovesSide 0 0 c d) → Changes kind change a b
      → back_of b Ordinary ≡ back_of a Ordinary
  back_in Ordinary change a b moves c = let m = moves a.ordinary b.ordinary c.changed in let k = m.back_is in omega arith
  back_in Reserved change a b moves c = ap (λ (x : Side R). (record_of (side.caller_of x)).back) c.other

  pub posts_back : (tag note : ℕ) (a b : Hand R) → Posts tag note a b → back_of b Ordinary ≡ back_of a Ordinary
  posts_back tag note a b p = back_in (kind_of (split_of a) tag) _ a b (λ c d x. posts_side _ note c d x) p.set

  pub posts_none_back : (tag note : ℕ) (a b : Hand R) → (r : Result (Unit {0}) TagFault) → OnOk r (Posts tag note a b)
      → OnOk r (back_of b Ordinary ≡ back_of a Ordinary + 0)
  posts_none_back tag note a b (Ok u) p = let same = posts_back tag note a b p in omega arith
  posts_none_back tag note a b (Err fault) p = tt

  -- the tallies of a cache that keeps the same tags, whatever the post answers
  pub posted_tallies : (tag note : ℕ) (old new : Cache R) → KeepsSame old new → (r : Result (Unit {0}) TagFault)
      → OnOk r (Posts tag note old.hand new.hand) → OnErr r (new.hand ≡ old.hand) → Tallies 0 0 old new
  posted_tallies tag note old new keeps (Ok u) p e =
      moves_tallies 0 0 old new keeps (posts_moves tag note old.hand new.hand p)
  posted_tallies tag note old new keeps (Err x) p e = unchanged_tallies old new (record { hand = e; kept = keeps })

  -- where nothing is kept, nothing has to go back first
  pub last_on : (pool : Pool R) (tag note : ℕ) (old new : Cache R) → KeepsNone old → (r : Result (Unit {0}) TagFault)
      → OnOk r (Posts tag note old.hand new.hand) → OnOk r (PostsLast pool tag note old new)
  last_on pool tag note old new none (Ok u) p = record {
    between = old.hand;
    gives = record { none = λ _. refl; some = λ s. absurd (s none) };
    posts = p;
  }
  last_on pool tag note old new none (Err e) p = tt

-- what a post is for the user
module _ {R : Type 0} (tag note : ℕ) where
  -- if the tag may be the last one known only where nothing is kept
  pub passes : (old new : Cache R) → PassesAlone tag note old new → (IsLast tag old → KeepsNone old) → Passes tag note old new
  passes old new a none = record {
    less = a.less;
    posts = λ n. a.posts;
    kept = λ n. a.kept;
    last = λ l. none_after old new (none l) a.kept;
    terms = a.kept.terms;
    knows = a.knows;
  }

  -- if all kept tags went back before, as the tag is the last one known
  pub passes_last : (old mid new : Cache R) → IsLast tag old → HoldsSame old mid → KeepsNone mid → SameTerms old mid
      → SameWindow old mid → PassesAlone tag note mid new → Passes tag note old new
  passes_last old mid new last same none terms window a = record {
    less = same_then_less same a.less;
    posts = λ n. absurd (n last);
    kept = λ n. absurd (n last);
    last = λ l. none_after mid new none a.kept;
    terms = terms_twice terms a.kept.terms;
    knows = same_then_knows_less tag old mid new window.knows a.knows;
  }

  -- if it was forgotten before
  pub forgotten_passes : (old mid new : Cache R) → Forgets tag old mid → KeepsSame mid new → SameWindow mid new
      → Posts tag note mid.hand new.hand → PassesAlone tag note old new
  forgotten_passes old mid new f keeps window p = record {
    less = same_then_less (same_user old mid f.same)
        (less mid new keeps (λ other. other ≡ tag) p.less);
    posts = subst (λ (h : Hand R). Posts tag note h new.hand) f.same.hand p;
    kept = keeps_twice old mid new f.same.kept keeps;
    knows = knows_less_then_same tag old mid new f.knows window.knows;
  }

  -- if it was not known to be the user's
  pub unknown_passes : (old new : Cache R) → KeepsSame old new → SameWindow old new → ¬ (IsKnown old tag)
      → (r : Result (Unit {0}) TagFault) → OnOk r (Posts tag note old.hand new.hand) → OnOk r (Passes tag note old new)
  unknown_passes old new keeps window out (Ok u) p = passes old new (record {
    less = less old new keeps (λ other. other ≡ tag) p.less;
    posts = p;
    kept = keeps;
    knows = unknown_less tag old new out window.knows;
  }) (last_unknown old tag out)
  unknown_passes old new keeps window out (Err e) p = tt
