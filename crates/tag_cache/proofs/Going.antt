-- What becomes of a tag that is cleared, and what that is for the user and for the tallies.
use Rattle.std.specs.Prelude.{◌+◌, ◌<◌, ◌≡◌, ◌≤◌}
use Rattle.tag_cache.proofs.Uses.{ap, arith, back_in_both, back_of, Cache, GiveBack, GiveBackAll, GivesAlone, GivesKept, GivesOne, Goes, GoesBy, GoesOrdinary, Hand, HoldsLess, Keep, KeepInstead, KeepsNone, Kind, kind_of, Ordinary, ordinary_above, other_kind, Pool, record_of, Reserved, reserved_of, Side, side_of, split_of, subst, Tallies, Way, won_in_both, ℕ, ⊎_elim, ◌∙◌}
use Rattle.tag_pool.specs.Holding as hand_holding
use Rattle.tag_pool.specs.Sides as side
use Rattle.tag_cache.proofs.Carrying.{less, unchanged_hand}
use Rattle.tag_cache.proofs.Reusing.{keeping, no_count}
use Rattle.tag_cache.proofs.Giving.{kept_less, kept_moves, gives_moves}

module _ {R : Type 0} (pool : Pool R) where
  -- the kept tags went back and then named ones, and nothing is kept any more
  pub both_less : (old new : Cache R) (flushed : Hand R) (named : ℕ → Type 0) → GivesKept pool old old.hand flushed
      → hand_holding.HoldsLess named flushed new.hand → KeepsNone new → HoldsLess named old new
  both_less old new flushed named k l none = let given = kept_less pool old old.hand flushed k in record {
    gone = λ other n h. l.gone other n h.0;
    kept = λ other n h. let y = given.kept other h.1 h.0 in let z = l.kept other n y.0 in
        ((z.0, none other), z.1 ∙ y.1);
    none_else = λ other h. (
      given.none_else other (l.none_else other h.0),
      λ k. given.gone other k (l.none_else other h.0),
    );
  }

  -- what becomes of the tag on each way
  way_less : (way : Way) (tag : ℕ) (old new : Cache R) → GoesBy way pool tag old new
      → HoldsLess (λ other. other ≡ tag) old new
  way_less Keep tag old new g = keeping old new tag (unchanged_hand old.hand new.hand g.hand) g.also
  way_less KeepInstead tag old new g = let given = kept_less pool old old.hand new.hand g.gives in record {
    gone = λ other e h. h.1 ((g.only.only other).1 e);
    kept = λ other n h. let y = given.kept other h.1 h.0 in ((y.0, λ k. n ((g.only.only other).0 k)), y.1);
    none_else = λ other h. (given.none_else other h.0, λ k. given.gone other k h.0);
  }
  way_less GiveBack tag old new g = less old new g.kept (λ other. other ≡ tag) g.gives.clears.less
  way_less GiveBackAll tag old new g = both_less old new g.gives.between (λ other. other ≡ tag) g.gives.kept
      g.gives.gives.clears.less g.none

  pub goes_less : (tag : ℕ) (old new : Cache R) → Goes pool tag old new → HoldsLess (λ other. other ≡ tag) old new
  goes_less tag old new g = ⊎_elim
      (λ (o : (reserved_of pool ≤ tag) × GoesOrdinary pool tag old new). way_less o.1.way tag old new o.1.goes)
      (λ (r : (tag < reserved_of pool) × GivesAlone pool tag old new). way_less GiveBack tag old new r.1) g

  way_tallies : (way : Way) (tag : ℕ) (old new : Cache R) → GoesBy way pool tag old new → Tallies 0 1 old new
  way_tallies Keep tag old new g = let w = ap (λ (h : Hand R). won_in_both h) g.hand in
      let b = ap (λ (h : Hand R). back_in_both h) g.hand in
      let more = g.also.more in let reused = g.also.reused in record { handed = omega arith; taken = omega arith }
  way_tallies KeepInstead tag old new g = let k = kept_moves pool old old.hand new.hand g.gives in
      let kw = k.won_is in let kb = k.back_is in let one = g.only.one in let reused = g.only.reused in
      record { handed = omega arith; taken = omega arith }
  way_tallies GiveBack tag old new g = let m = gives_moves pool tag old.hand new.hand g.gives in
      let mw = m.won_is in let mb = m.back_is in let count = g.kept.count in let reused = g.kept.reused in
      record { handed = omega arith; taken = omega arith }
  way_tallies GiveBackAll tag old new g = let k = kept_moves pool old old.hand g.gives.between g.gives.kept in
      let kw = k.won_is in let kb = k.back_is in let m = gives_moves pool tag g.gives.between new.hand g.gives.gives in
      let mw = m.won_is in let mb = m.back_is in let zero = no_count new g.none in let reused = g.reused in
      record { handed = omega arith; taken = omega arith }

  pub goes_tallies : (tag : ℕ) (old new : Cache R) → Goes pool tag old new → Tallies 0 1 old new
  goes_tallies tag old new g = ⊎_elim
      (λ (o : (reserved_of pool ≤ tag) × GoesOrdinary pool tag old new). way_tallies o.1.way tag old new o.1.goes)
      (λ (r : (tag < reserved_of pool) × GivesAlone pool tag old new). way_tallies GiveBack tag old new r.1) g

  -- an ordinary tag that went back is one of those that did
  pub ordinary_back : (tag : ℕ) (a b : Hand R) → split_of a ≡ reserved_of pool → split_of a ≤ tag → GivesOne pool tag a b
      → back_of b Ordinary ≡ back_of a Ordinary + 1
  ordinary_back tag a b split above g =
      let kind = (ordinary_above (reserved_of pool) tag (subst (λ (n : ℕ). n ≤ tag) split above)).kind in
      subst (λ (k : Kind). back_of b k ≡ back_of a k + 1) kind g.back

  -- a reserved one is none of them
  pub reserved_back : (tag : ℕ) (a b : Hand R) → split_of a ≡ reserved_of pool → kind_of (reserved_of pool) tag ≡ Reserved
      → GivesOne pool tag a b → back_of b Ordinary ≡ back_of a Ordinary + 0
  reserved_back tag a b split kind g =
      let other = subst (λ (k : Kind). side_of b (other_kind k) ≡ side_of a (other_kind k))
      (ap (λ (s : ℕ). kind_of s tag) split ∙ kind) g.clears.set.other in
      let same = ap (λ (x : Side R). (record_of (side.caller_of x)).back) other in omega arith
