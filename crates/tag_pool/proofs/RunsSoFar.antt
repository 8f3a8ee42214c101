-- How far a list of tags is freed, tag by tag.
use Rattle.std.specs.Prelude.{◌++◌, ◌+◌, ◌<◌, ◌^◌, ◌∷◌, ◌≡◌, ◌≢◌, ◌≤◌, ◌⊎◌}
use Rattle.tag_pool.proofs.Uses.{[], Adds, among_one, ap, append_assoc, arith, bit_or, Caller, Contains, Contains-append_left, Contains-append_right, Contains-push_cases, count_ones, count_ones-pow, count_ones-zero, EndsElsewhere, get_or, Give, GivesAll, HoldsOnce, inl, inr, is_in_mask}
use Rattle.tag_pool.proofs.Uses.{IsCallerOf, IsInMask, IsTrue, IsWithin, length, length-append, List, Map, or_lt, place_of, place_small, pow_below, pow_pos, Record, record_of, refl, small_word, subst, suc, sym, take, take_more, Word, word_depth, word_of, words, zero, ℕ, ⊎_elim, ◌∙◌}
use Rattle.tag_core.specs.Callers.{Holds}
use Rattle.tag_core.specs.Holding.{HoldsLess}
use Rattle.tag_pool.proofs.RunMasks.{IsMaskOf, ones_more, not_before, none_in, mask_of_none, mask_of_one, mask_of_more, bit_of_other, gives_more, gives_none}

-- of the first `count` tags, all are freed except those of the last run, which are still held and are in the mask of
-- their word
pub record SoFar {R : Type 0} (map : Map R) (tags : List ℕ) (count : ℕ) (old now : Caller R)
    (word mask : ℕ) : Type 0 where
  pub caller : IsCallerOf map now
  pub done : List ℕ
  pub run : List ℕ
  pub together : done ++ run ≡ take count tags
  pub given : GivesAll map.shape.layout done old now
  pub back : (record_of now).back ≡ (record_of old).back + length done
  pub elsewhere : EndsElsewhere word given.runs
  pub there : word < words map.shape.layout
  pub within : IsWithin map.shape.layout word mask
  pub mask_is : IsMaskOf map.shape map.small.1 run word mask
  pub ones : count_ones mask ≡ length run
  pub held : (t : ℕ) → Contains run t → Holds now t
  pub some : (1 ≤ length run) ⊎ ((count ≡ 0) × (word ≡ word_of map.shape.layout (get_or tags 0 0)))

take_all : (tags : List ℕ) (i : ℕ) → length tags ≤ i → take i tags ≡ tags
take_all [] zero h = refl
take_all [] (suc i) h = refl
take_all (x ∷ tags) zero h = absurd (omega arith)
take_all (x ∷ tags) (suc i) h = ap (λ (l : List ℕ). x ∷ l) (take_all tags i (omega arith))

-- before the first tag nothing is freed
pub begins : {R : Type 0} (map : Map R) (tags : List ℕ) (old : Caller R) (word : ℕ) → IsCallerOf map old
    → word < words map.shape.layout
    → word ≡ word_of map.shape.layout (get_or tags 0 0) → SoFar map tags 0 old old word 0
begins map tags old word own there is = record {
  caller = own;
  done = [];
  run = [];
  together = refl;
  given = gives_none map.shape.layout old;
  back = omega arith;
  elsewhere = tt;
  there = there;
  within = pow_pos (word_depth map.shape.layout word);
  mask_is = mask_of_none map.shape map.small.1 word;
  ones = count_ones-zero;
  held = λ t n. absurd (none_in t n);
  some = inr (refl, is);
}

module _ {R : Type 0} (map : Map R) (tags : List ℕ) (i : ℕ) (old now : Caller R) (word mask : ℕ)
    (so : SoFar map tags i old now word mask) where
  fits : mask < 2 ^ 64
  fits = small_word map.shape map.small.1 word mask so.within

  -- the tags in the mask are held, so the give is allowed
  pub gives_held : (t : ℕ) → t < map.shape.layout.depth → IsTrue (is_in_mask map.shape.layout word mask t) → Holds now t
  gives_held t l h = so.held t ((so.mask_is t).0 (among_one map.shape.layout word mask t h))

  -- once the last run is freed, all tags so far are
  module _ (next : Caller R) (found : ℕ) (adds : Adds (Word (Give word mask found)) now next)
      (less : HoldsLess (IsInMask map.shape.layout word mask) now next) (some : 1 ≤ length so.run) where
    abbrev all_gives : GivesAll map.shape.layout (so.done ++ so.run) old next
    all_gives = gives_more map old now next so.done so.run word mask found some so.mask_is
        so.given so.elsewhere adds less

    all_back : (record_of next).back ≡ (record_of old).back + length (so.done ++ so.run)
    all_back = let step = ap (λ (r : Record R). r.back) adds.known in let before = so.back in let ones = so.ones in
        let long = length-append so.done so.run in omega arith

    pub ends : length tags ≤ i → GivesAll map.shape.layout tags old next
        × ((record_of next).back ≡ (record_of old).back + length tags)
    ends past = let all : so.done ++ so.run ≡ tags = so.together ∙ take_all tags i past in
        subst (λ (l : List ℕ). GivesAll map.shape.layout l old next
        × ((record_of next).back ≡ (record_of old).back + length l)) all (all_gives, all_back)

  module _ (inside : i < length tags) (held : HoldsOnce old tags) (room : place_of map.shape.layout (get_or tags i 0)
      < word_depth map.shape.layout (word_of map.shape.layout (get_or tags i 0)))
      (near : word_of map.shape.layout (get_or tags i 0) < words map.shape.layout) where
    fresh : ¬ (Contains (take i tags) (get_or tags i 0))
    fresh = not_before tags i inside held.1

    not_done : ¬ (Contains so.done (get_or tags i 0))
    not_done d = fresh (subst (λ (l : List ℕ). Contains l (get_or tags i 0)) so.together
        (Contains-append_left so.done so.run (get_or tags i 0) d))

    not_run : ¬ (Contains so.run (get_or tags i 0))
    not_run r = fresh (subst (λ (l : List ℕ). Contains l (get_or tags i 0)) so.together
        (Contains-append_right so.done so.run (get_or tags i 0) r))

    still : Holds now (get_or tags i 0)
    still = (so.given.less.kept (get_or tags i 0) not_done (held.0 i 0 inside)).0

    low : place_of map.shape.layout (get_or tags i 0) < 64
    low = place_small map.shape map.small.1 (get_or tags i 0)

    bit_fits : IsWithin map.shape.layout (word_of map.shape.layout (get_or tags i 0))
        (2 ^ place_of map.shape.layout (get_or tags i 0))
    bit_fits = pow_below (place_of map.shape.layout (get_or tags i 0))
        (word_depth map.shape.layout (word_of map.shape.layout (get_or tags i 0))) room

    one_more : take (i + 1) tags ≡ take i tags ++ get_or tags i 0 ∷ []
    one_more = take_more tags i 0 inside

    -- a tag of the same word joins the last run
    pub joins_run : word ≡ word_of map.shape.layout (get_or tags i 0)
        → SoFar map tags (i + 1) old now word (bit_or mask (2 ^ place_of map.shape.layout (get_or tags i 0)))
    joins_run here = let u : ℕ = get_or tags i 0 in let l = map.shape.layout in record {
      caller = so.caller;
      done = so.done;
      run = so.run ++ u ∷ [];
      together = sym (append_assoc so.done so.run (u ∷ [])) ∙ ap (λ (l : List ℕ). l ++ u ∷ []) so.together
          ∙ sym one_more;
      given = so.given;
      back = so.back;
      elsewhere = so.elsewhere;
      there = so.there;
      within = or_lt (word_depth l word) mask (2 ^ place_of l u) so.within
          (subst (λ (w : ℕ). IsWithin l w (2 ^ place_of l u)) (sym here) bit_fits);
      mask_is = mask_of_more map.shape map.small.1 so.run word mask u here so.mask_is;
      ones = let one = ones_more mask (place_of l u) fits low
          (bit_of_other map.shape map.small.1 so.run word mask u here so.mask_is not_run) in
          let before = so.ones in let long = length-append so.run (u ∷ []) in omega arith;
      held = λ t n. ⊎_elim (λ (r : Contains so.run t). so.held t r) (λ (e : u ≡ t). subst (Holds now) e still)
          (Contains-push_cases so.run u t n);
      some = inl (let long = length-append so.run (u ∷ []) in omega arith);
    }

    -- a tag of another word begins the next run, once the last one is freed
    pub begins_run : (next : Caller R) (found : ℕ) → IsCallerOf map next → Adds (Word (Give word mask found)) now next
        → HoldsLess (IsInMask map.shape.layout word mask) now next
        → word ≢ word_of map.shape.layout (get_or tags i 0)
        → SoFar map tags (i + 1) old next (word_of map.shape.layout (get_or tags i 0))
        (2 ^ place_of map.shape.layout (get_or tags i 0))
    begins_run next found next_is adds less other = let u : ℕ = get_or tags i 0 in let l = map.shape.layout in
        let some : 1 ≤ length so.run =
        ⊎_elim (λ (h : 1 ≤ length so.run). h) (λ (first : (i ≡ 0) × (word ≡ word_of l (get_or tags 0 0))).
        absurd (other (first.1 ∙ ap (λ (j : ℕ). word_of l (get_or tags j 0)) (sym first.0)))) so.some in
        let all = all_gives next found adds less some in record {
          caller = next_is;
          done = so.done ++ so.run;
          run = u ∷ [];
          together = ap (λ (l : List ℕ). l ++ u ∷ []) so.together ∙ sym one_more;
          given = all;
          back = all_back next found adds less some;
          elsewhere = other;
          there = near;
          within = bit_fits;
          mask_is = mask_of_one map.shape map.small.1 u;
          ones = count_ones-pow (place_of l u);
          held = λ t n. ⊎_elim (λ (z : Contains [] t). absurd (none_in t z))
              (λ (e : u ≡ t). subst (Holds next) e (all.less.kept u
              (λ c. fresh (subst (λ (l : List ℕ). Contains l u) so.together c)) (held.0 i 0 inside)).0)
              (Contains-push_cases [] u t n);
          some = inl (omega arith);
        }
