-- What a call of the hand leaves as it is that neither wins tags nor gives any back.
use Rattle.std.specs.Prelude.{◌≡◌}
use Rattle.tag_cache.proofs.Uses.{AreOwn, arith, Cache, Hand, IsIn, KeepsSame, Pool, SameTags, SameWindow, subst, sym, ℕ}
use Rattle.tag_pool.specs.Hands as hands
use Rattle.tag_model.proofs.HoldingFacts.{same_itself, same_then_same}
use Rattle.tag_pool.specs.Holding.{HoldsSame}
use Rattle.tag_cache.proofs.Carrying.{Owns, same, own_after, owns}
use Rattle.tag_cache.proofs.Tallying.{Moves, moves_tallies}

-- the hand holds what it held, won nothing and gave nothing back
pub record Rests {R : Type 0} (old new : Hand R) : Type 0 where
  pub held : HoldsSame old new
  pub moves : Moves 0 0 old new

module _ {R : Type 0} where
  -- one after another
  pub rests_then : (a b c : Hand R) → Rests a b → Rests b c → Rests a c
  rests_then a b c r s = let rw = r.moves.won_is in let rb = r.moves.back_is in let sw = s.moves.won_is in
      let sb = s.moves.back_is in record {
        held = same_then_same r.held s.held;
        moves = record { won_is = omega arith; back_is = omega arith };
      }

  pub rests_unchanged : (a b : Hand R) → b ≡ a → Rests a b
  rests_unchanged a b e = subst (λ (x : Hand R). Rests a x) (sym e) (record {
    held = same_itself a;
    moves = record { won_is = omega arith; back_is = omega arith };
  })

  -- what is the cache's own stays so
  pub own_rests : (pool : Pool R) (first mask : ℕ) (a b : Hand R) → hands.IsHandOf pool a → hands.IsHandOf pool b
      → AreOwn a first mask → Rests a b → AreOwn b first mask
  own_rests pool first mask a b ha hb own r = own_after pool first mask a b ha hb own
      (λ tag h (i : IsIn first mask tag). (r.held.kept tag h).0)

  pub owns_rests : (pool : Pool R) (cache : Cache R) (b : Hand R) → hands.IsHandOf pool cache.hand
      → hands.IsHandOf pool b → Rests cache.hand b → Owns cache b
  owns_rests pool cache b ha hb r = owns pool cache b ha hb (λ tag h. (r.held.kept tag h).0)

  pub same_tags : (old new : Cache R) → KeepsSame old new → SameWindow old new → Rests old.hand new.hand
      → SameTags old new
  same_tags old new keeps window r = record {
    held = same old new keeps r.held;
    kept = keeps;
    window = window;
    tally = moves_tallies 0 0 old new keeps r.moves;
  }
