-- What a change of the hand, or of the kept tags, is for the user of a cache.
use Rattle.tag_cache.proofs.Uses.{ap, AreOwn, Bool, Cache, count_ones, Err, false, false≢true, Hand, HoldsLess, HoldsMore, HoldsSame, IfErr, IfOk, inl, inr, IsIn, IsKept, IsKnown, IsLeftWith, IsOk, IsTrue, KeepsNone, KeepsSame, MOST_REUSED, NoSuchTag, NotPosted, Ok, OnErr, OnOk, refl, Result}
use Rattle.tag_cache.proofs.Uses.{SameHand, SameTerms, subst, sym, TagFault, Pool, true, WhileHolding, Writes, ℕ, ⊎_elim, ◌∙◌}
use Rattle.tag_model.proofs.HoldingFacts.{same_itself}
use Rattle.std.specs.Prelude.{◌+◌, ◌^◌, ◌<◌, ◌↔◌, ◌≡◌, ◌≢◌, ◌≤◌, Option}
use mathlib.Core.Bool.{not}
use Rattle.tag_pool.specs.Hands as hands
use Rattle.tag_pool.specs.Holding as hand_holding
use Rattle.tag_pool.specs.Slots as hand_slots

-- what a test that failed says
pub not_true : (b : Bool) (P : Type 0) → (IsTrue b ↔ P) → b ≡ false → ¬ P
not_true b P says f h = false≢true (sym f ∙ says.1 h)

-- what a test says of its opposite
pub is_not : (b : Bool) (P : Type 0) → (IsTrue b ↔ P) → ¬ P → IsTrue (not b)
is_not true P says n = absurd (n (says.0 refl))
is_not false P says n = refl

-- a call that was refused did not succeed
pub not_ok : {T : Type 0} (r : Result T TagFault) (fault : TagFault) → r ≡ Err fault → ¬ (IsOk r)
not_ok (Ok v) fault e ok = cc
not_ok (Err f) fault e ok = false≢true ok

module _ {R : Type 0} where
  -- kept tags that the hand still holds are still the cache's own
  pub own_after : (pool : Pool R) (first mask : ℕ) (a b : Hand R) → hands.IsHandOf pool a → hands.IsHandOf pool b
      → AreOwn a first mask → ((tag : ℕ) → hands.Holds a tag → IsIn first mask tag → hands.Holds b tag)
      → AreOwn b first mask
  own_after pool first mask a b ha hb own still = λ tag i. (
    still tag (own tag i).0 i,
    subst (λ (s : ℕ). s ≤ tag) (ha.2 ∙ sym hb.2) (own tag i).1,
  )

  -- what a cache owes of its own tags, with this hand
  abbrev pub Owns : Cache R → Hand R → Type 0
  Owns cache hand = record {
    own : AreOwn hand cache.first cache.kept;
    knows : AreOwn hand cache.first cache.known;
    apart : (tag : ℕ) → IsIn cache.first cache.kept tag → ¬ (IsIn cache.first cache.known tag);
    wide : (cache.kept < 2 ^ 64) × (cache.known < 2 ^ 64);
    low : cache.first < 2 ^ 31;
    few : (cache.room + count_ones cache.kept ≡ cache.most) × (cache.most ≤ 64);
    alive : cache.reused + count_ones cache.kept ≤ MOST_REUSED + 64;
    careful : cache.keeping ≡ WhileHolding → 0 < cache.kept → 0 < cache.known;
  }

  with_own : (cache : Cache R) (b : Hand R) → AreOwn b cache.first cache.kept → AreOwn b cache.first cache.known
      → Owns cache b
  with_own cache b own knows = record {
    own = own;
    knows = knows;
    apart = cache.apart;
    wide = cache.wide;
    low = cache.low;
    few = cache.few;
    alive = cache.alive;
    careful = cache.careful;
  }

  pub owns_unchanged : (cache : Cache R) (b : Hand R) → b ≡ cache.hand → Owns cache b
  owns_unchanged cache b e = with_own cache b
      (subst (λ (x : Hand R). AreOwn x cache.first cache.kept) (sym e) cache.own)
      (subst (λ (x : Hand R). AreOwn x cache.first cache.known) (sym e) cache.knows)

  -- another hand of the tags does, if it holds what the former one did
  module _ (pool : Pool R) (cache : Cache R) (b : Hand R) (ha : hands.IsHandOf pool cache.hand)
      (hb : hands.IsHandOf pool b) where
    pub owns : ((tag : ℕ) → hands.Holds cache.hand tag → hands.Holds b tag) → Owns cache b
    owns still = with_own cache b
        (own_after pool cache.first cache.kept cache.hand b ha hb cache.own (λ tag h k. still tag h))
        (own_after pool cache.first cache.known cache.hand b ha hb cache.knows (λ tag h l. still tag h))

    -- but for a tag that is neither kept nor known to be the user's
    pub owns_but : (tag : ℕ) → ¬ (IsKept cache tag) → ¬ (IsKnown cache tag)
        → ((other : ℕ) → other ≢ tag → hands.Holds cache.hand other → hands.Holds b other) → Owns cache b
    owns_but tag unkept unknown still = with_own cache b
        (own_after pool cache.first cache.kept cache.hand b ha hb cache.own
        (λ other h k. still other (λ e. unkept (subst (λ (t : ℕ). IsKept cache t) e k)) h))
        (own_after pool cache.first cache.known cache.hand b ha hb cache.knows
        (λ other h l. still other (λ e. unknown (subst (λ (t : ℕ). IsKnown cache t) e l)) h))

  -- a call that may have posted a tag leaves the hand the others
  pub post_still : (tag note : ℕ) (a b : Hand R) (r : Result (Unit {0}) TagFault) → OnOk r (hand_slots.Posts tag note a b)
      → OnErr r (b ≡ a) → (other : ℕ) → other ≢ tag → hands.Holds a other → hands.Holds b other
  post_still tag note a b (Ok u) p e other n h = (p.less.kept other n h).0
  post_still tag note a b (Err x) p e other n h = subst (λ (y : Hand R). hands.Holds y other) (sym e) h

  -- a call that was refused, or did what leaves the hand its tags, leaves it them
  pub still_on : {A : Type 0} (a b : Hand R) (r : Result A TagFault) (P : A → Type 0) → IfOk r P → OnErr r (b ≡ a)
      → ((v : A) → P v → (tag : ℕ) → hands.Holds a tag → hands.Holds b tag)
      → (tag : ℕ) → hands.Holds a tag → hands.Holds b tag
  still_on a b (Ok v) P p e does tag h = does v p tag h
  still_on a b (Err f) P p e does tag h = subst (λ (x : Hand R). hands.Holds x tag) (sym e) h

  pub unchanged_hand : (a b : Hand R) → b ≡ a → hand_holding.HoldsSame a b
  unchanged_hand a b e = subst (λ (x : Hand R). hand_holding.HoldsSame a x) (sym e)
      (same_itself a)

  module _ (old new : Cache R) (keeps : KeepsSame old new) where
    kept_before : (tag : ℕ) → IsKept new tag → IsKept old tag
    kept_before tag k = (keeps.kept tag).0 k

    kept_now : (tag : ℕ) → IsKept old tag → IsKept new tag
    kept_now tag k = (keeps.kept tag).1 k

    pub more : (named : ℕ → Type 0) → hand_holding.HoldsMore named old.hand new.hand → HoldsMore named old new
    more named m = record {
      fresh = λ tag n h. m.fresh tag n h.0;
      joined = λ tag n. (m.joined tag n, λ k. m.fresh tag n (old.own tag (kept_before tag k)).0);
      kept = λ tag h. let a = m.kept tag h.0 in ((a.0, λ k. h.1 (kept_before tag k)), a.1);
      none_else = λ tag h. ⊎_elim (λ (o : hands.Holds old.hand tag). inl (o, λ k. h.1 (kept_now tag k)))
          (λ (n : named tag). inr n) (m.none_else tag h.0);
    }

    pub less : (named : ℕ → Type 0) → hand_holding.HoldsLess named old.hand new.hand → HoldsLess named old new
    less named l = record {
      gone = λ tag n h. l.gone tag n h.0;
      kept = λ tag n h. let a = l.kept tag n h.0 in ((a.0, λ k. h.1 (kept_before tag k)), a.1);
      none_else = λ tag h. (l.none_else tag h.0, λ k. h.1 (kept_now tag k));
    }

    pub same : hand_holding.HoldsSame old.hand new.hand → HoldsSame old new
    same s = record {
      kept = λ tag h. let a = s.kept tag h.0 in ((a.0, λ k. h.1 (kept_before tag k)), a.1);
      none_else = λ tag h. (s.none_else tag h.0, λ k. h.1 (kept_now tag k));
    }

    pub writes : (tag : ℕ) (value : R) → hand_slots.Writes tag value old.hand new.hand → Writes tag value old new
    writes tag value w = record {
      put = w.put;
      others = λ other h ne. w.others other h.0 ne;
      kept = λ other h. (w.kept other h.0, λ k. h.1 (kept_before other k));
      none_else = λ other h. (w.none_else other h.0, λ k. h.1 (kept_now other k));
    }

    -- the same for what calls answer
    pub more_on : (tag : ℕ) (r : Result (Unit {0}) TagFault) → OnOk r (hand_slots.Takes tag old.hand new.hand)
        → OnOk r (HoldsMore (λ other. other ≡ tag) old new)
    more_on tag (Ok u) p = more (λ other. other ≡ tag) p.more
    more_on tag (Err e) p = tt

    pub same_err : (tag : ℕ) (r : Result (Unit {0}) TagFault)
        → IfErr r (λ fault. hand_slots.RefusesTake tag fault old.hand new.hand) → OnErr r (HoldsSame old new)
    same_err tag (Ok u) p = tt
    same_err tag (Err e) p = ⊎_elim
        (λ (a : (e ≡ NoSuchTag) × (new.hand ≡ old.hand)). same (unchanged_hand old.hand new.hand a.1))
        (λ (b : (e ≡ NotPosted) × hand_slots.Misses tag old.hand new.hand). same b.1.same) p

    pub same_on : (tag : ℕ) (r : Result R TagFault)
        → IfOk r (λ value. hand_slots.Reads tag value old.hand new.hand) → OnOk r (HoldsSame old new)
    same_on tag (Ok v) p = same p.same
    same_on tag (Err e) p = tt

    -- the load of a note leaves the user its tags, also where it is refused
    pub note_same : (tag : ℕ) (r : Result (Option ℕ) TagFault)
        → IfOk r (λ answer. hand_slots.ReadsNote tag answer old.hand new.hand) → OnErr r (new.hand ≡ old.hand)
        → HoldsSame old new
    note_same tag (Ok answer) p e = same p.same
    note_same tag (Err fault) p e = same (unchanged_hand old.hand new.hand e)

  -- the hand of a cache that keeps nothing holds what the user holds
  pub left_with : (old new : Cache R) → HoldsSame old new → KeepsNone new → IsLeftWith old new.hand
  left_with old new s none = record {
    kept = λ tag h. let a = s.kept tag h in (a.0.0, a.1);
    none_else = λ tag h. s.none_else tag (h, none tag);
  }

  -- what was empty stays empty if the same tags are kept
  pub none_after : (mid new : Cache R) → KeepsNone mid → KeepsSame mid new → KeepsNone new
  none_after mid new none keeps = λ tag k. none tag (kept_before mid new keeps tag k)

  -- what a cache that keeps the same tags, with the same hand, is for the user
  pub same_user : (old new : Cache R) → SameHand old new → HoldsSame old new
  same_user old new u = same old new u.kept (unchanged_hand old.hand new.hand u.hand)

  pub terms_twice : {a b c : Cache R} → SameTerms a b → SameTerms b c → SameTerms a c
  terms_twice s t = record { most = t.most ∙ s.most; keeping = t.keeping ∙ s.keeping }

  -- one change of the kept tags after another
  pub keeps_twice : (a b c : Cache R) → KeepsSame a b → KeepsSame b c → KeepsSame a c
  keeps_twice a b c s t = record {
    kept = λ tag. ((λ k. (s.kept tag).0 ((t.kept tag).0 k)), (λ k. (t.kept tag).1 ((s.kept tag).1 k)));
    count = t.count ∙ s.count;
    terms = terms_twice s.terms t.terms;
    reused = t.reused ∙ s.reused;
  }

  -- the same tags are kept if the fields that say so are the same
  pub same_fields : (old new : Cache R) → new.first ≡ old.first → new.kept ≡ old.kept → new.most ≡ old.most
      → new.keeping ≡ old.keeping → new.reused ≡ old.reused → KeepsSame old new
  same_fields old new first kept most keeping reused = record {
    kept = λ tag. (
      (λ k. subst (λ (m : ℕ). IsIn old.first m tag) kept (subst (λ (f : ℕ). IsIn f new.kept tag) first k)),
      (λ k. subst (λ (f : ℕ). IsIn f new.kept tag) (sym first)
          (subst (λ (m : ℕ). IsIn old.first m tag) (sym kept) k)),
    );
    count = ap count_ones kept;
    terms = record { most = most; keeping = keeping };
    reused = reused;
  }

  -- a take leaves the hand what it had, also where it is refused
  pub take_still : (tag : ℕ) (a b : Hand R) (r : Result (Unit {0}) TagFault) → OnOk r (hand_slots.Takes tag a b)
      → IfErr r (λ fault. hand_slots.RefusesTake tag fault a b)
      → (other : ℕ) → hands.Holds a other → hands.Holds b other
  take_still tag a b (Ok u) p e other h = (p.more.kept other h).0
  take_still tag a b (Err x) p e other h = ⊎_elim
      (λ (u : (x ≡ NoSuchTag) × (b ≡ a)). subst (λ (y : Hand R). hands.Holds y other) (sym u.1) h)
      (λ (m : (x ≡ NotPosted) × hand_slots.Misses tag a b). (m.1.same.kept other h).0) e
