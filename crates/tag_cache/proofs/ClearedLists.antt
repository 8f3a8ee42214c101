-- What becomes of a list of tags that is cleared, and what that is for the user and for the tallies.
use Rattle.std.specs.Prelude.{◌<◌, ◌^◌, ◌↔◌, ◌≡◌, ◌+◌}
use Rattle.tag_cache.proofs.Uses.{All, AreHeldOnce, AreLast, arith, back_of, Cache, Contains, count_of, GivesKeptAndList, GivesList, GoesOn, Holds, HoldsLess, HoldsSame, inl, IsIn, IsKept, IsKnown, KeepsSame, KnowsNoneOf, LeavesNone, length, List, ListGoes, ListGoesAlone}
use Rattle.tag_cache.proofs.Uses.{Hand, Ordinary, Pool, subst, Tallies, ℕ, ⊎_elim}
use Rattle.tag_pool.specs.Lists as hand_lists
use Rattle.tag_cache.proofs.Carrying.{less, keeps_twice}
use Rattle.tag_cache.proofs.Giving.{kept_back, kept_moves, list_moves}
use Rattle.tag_cache.proofs.Going.{both_less}
use Rattle.tag_cache.proofs.Reusing.{no_count}
use Rattle.tag_cache.proofs.Windows.{none_in, emptied}

module _ {R : Type 0} where
  -- the user holds what the hand holds and does not keep
  pub hand_holds : (cache : Cache R) (list : List ℕ) → AreHeldOnce cache list
      → hand_lists.AreHeldOnce cache.hand list
  hand_holds cache list h = ((λ k d l. (h.0 k d l).0), h.1)

  pub user_holds : (cache : Cache R) (list : List ℕ) → hand_lists.AreHeldOnce cache.hand list
      → All (λ tag. ¬ (IsKept cache tag)) list → AreHeldOnce cache list
  user_holds cache list h none = ((λ k d l. (h.0 k d l, none k d l)), h.1)

  pub none_is_kept : (cache : Cache R) (list : List ℕ) → AreHeldOnce cache list
      → All (λ tag. ¬ (IsKept cache tag)) list
  none_is_kept cache list h = λ k d l. (h.0 k d l).1

  pub all_still : (old mid : Cache R) (list : List ℕ) → HoldsSame old mid → All (Holds old) list → All (Holds mid) list
  all_still old mid list s h = λ k d l. (s.kept _ (h k d l)).0

  pub not_listed : (cache : Cache R) (list : List ℕ) → All (Holds cache) list → (tag : ℕ) → Contains list tag
      → ¬ (IsKept cache tag)
  not_listed cache list h tag i = subst (λ (t : ℕ). ¬ (IsKept cache t)) i.2 (h i.0 tag i.1).1

module _ {R : Type 0} (pool : Pool R) (list : List ℕ) (left : ℕ) (old : Cache R) (fits : left < 2 ^ 64)
    (is : (other : ℕ) → IsIn old.first left other ↔ (IsKnown old other × ¬ (Contains list other))) where
  -- the tags are the last ones known exactly if the mask without them is 0
  pub last_one : LeavesNone left old → AreLast list old
  last_one l = (l.0, λ other n known. none_in old.first left other l.1 ((is other).1 (known, n)))

  one_last : AreLast list old → LeavesNone left old
  one_last l = (l.0, emptied old.first left fits (λ other i. let a = (is other).0 i in l.1 other a.1 a.0))

  -- where the kept tags may stay, the list goes alone
  pub goes_alone : (mid new : Cache R) → GoesOn left old mid → GivesList pool list mid.hand new.hand
      → KeepsSame mid new → ListGoes pool list old new
  goes_alone mid new o gives k = inl (record {
    more = λ last. o.more (one_last last);
    gives = subst (λ (h : Hand R). GivesList pool list h new.hand) o.same.hand gives;
    kept = keeps_twice old mid new o.same.kept k;
  })

  -- what the user is known to hold then
  pub learns_alone : (mid : Cache R) → GoesOn left old mid → KnowsNoneOf list old mid
  learns_alone mid o other = (
    (λ l. (is other).0 ((o.knows other).0 l)),
    (λ l. (o.knows other).1 ((is other).1 l)),
  )

module _ {R : Type 0} (pool : Pool R) where
  pub list_less : (list : List ℕ) (old new : Cache R) → ListGoes pool list old new → HoldsLess (Contains list) old new
  list_less list old new g = ⊎_elim
      (λ (a : ListGoesAlone pool list old new). less old new a.kept (Contains list) a.gives.gives.less)
      (λ (w : AreLast list old × GivesKeptAndList pool list old new). both_less pool old new w.1.between
      (Contains list) w.1.kept w.1.gives.gives.less w.1.none) g

  pub list_tallies : (list : List ℕ) (old new : Cache R) → ListGoes pool list old new → Tallies 0 (length list) old new
  list_tallies list old new g = ⊎_elim
      (λ (a : ListGoesAlone pool list old new). let m = list_moves pool list old.hand new.hand a.gives in
      let mw = m.won_is in let mb = m.back_is in let count = a.kept.count in let reused = a.kept.reused in
      record { handed = omega arith; taken = omega arith })
      (λ (w : AreLast list old × GivesKeptAndList pool list old new). let g = w.1 in
      let e = kept_moves pool old old.hand g.between g.kept in
      let m = list_moves pool list g.between new.hand g.gives in
      let ew = e.won_is in let eb = e.back_is in
      let mw = m.won_is in let mb = m.back_is in let zero = no_count new g.none in
      let reused = g.reused in record { handed = omega arith; taken = omega arith }) g

  -- the kept tags and the list went back, so many ordinary tags in all
  pub both_back : (list : List ℕ) (old new : Cache R) → GivesKeptAndList pool list old new
      → back_of new.hand Ordinary ≡ back_of old.hand Ordinary + (count_of old + length list)
  both_back list old new g = let kept = kept_back pool old old.hand g.between g.kept in let back = g.gives.back in
      omega arith
