-- What a get has done before it is finished.
use Rattle.std.specs.Prelude.{◌++◌, ◌+◌, ◌^◌, ◌∷◌, ◌≡◌, ◌≤◌}
use Rattle.tag_search.proofs.Uses.{[], AllSet, AllTaken, ap, append-nil, arith, bit_at, Caller, Claimed, Completes, Full, Give, given, Hint, IsBegun, IsFirstClear, IsFirstInRank, IsGet, IsMissed, IsRestOfGet, IsTries, Keep, Layout, List, Look, LookAside, loses, Lost, Makes, MissesFirst, NotBegun}
use Rattle.tag_search.proofs.Uses.{numbers, Option, pass, places_of, Put, Record, record_after, record_after_all, record_of, refl, scan_order, shape_after, Spill, subst, Swap, sym, total, true, Unfinished, visits_from, Word, word_depth, word_of, WordStep, ℕ, ◌∙◌}
use Rattle.tag_search.specs.declared.pass.Missed.TheVariants.{Full as NoneClear, Lost as LostIn}
use Rattle.tag_search.specs.declared.rank.Rank.{Rank}
use Rattle.tag_search.specs.Freed.{spilled}
use Rattle.tag_search.proofs.Passes.{full_pass}
use Rattle.tag_search.proofs.Orders.{numbers-at, all_numbers, order-split}

-- no tag was freed
pub begun_frees_none : (l : Layout) (hint : Hint) (rest : Unfinished) (steps : List WordStep)
    → IsBegun l hint rest steps → total spilled steps ≡ 0
begun_frees_none l hint NotBegun steps none = ap (λ (xs : List WordStep). total spilled xs) none
begun_frees_none l hint Full steps tried = tried.freed
begun_frees_none l hint (Lost from found) steps tried = tried.missed.freed

-- and none was given back
pub begun_gives_none : (l : Layout) (hint : Hint) (rest : Unfinished) (steps : List WordStep)
    → IsBegun l hint rest steps → total given steps ≡ 0
begun_gives_none l hint NotBegun steps none = ap (λ (xs : List WordStep). total given xs) none
begun_gives_none l hint Full steps tried = tried.kept
begun_gives_none l hint (Lost from found) steps tried = tried.missed.kept

-- the number of a caller stays, and what it gave back grows by what its steps give back
number_after : {R : Type 0} (steps : List WordStep) (r : Record R) → (record_after_all steps r).number ≡ r.number
number_after [] r = refl
number_after (step ∷ steps) r = number_after steps (record_after (Word step) r)

back_by_step : {R : Type 0} (step : WordStep) (r : Record R) → (record_after (Word step) r).back ≡ r.back + given step
back_by_step (Look i found) r = refl
back_by_step (LookAside i found) r = refl
back_by_step (Claimed i mask found) r = refl
back_by_step (Give i mask found) r = refl
back_by_step (Put i mask found) r = refl
back_by_step (Swap i found) r = refl
back_by_step (Keep i mask) r = refl
back_by_step (Spill i mask found) r = refl

back_after : {R : Type 0} (steps : List WordStep) (r : Record R)
    → (record_after_all steps r).back ≡ r.back + total given steps
back_after [] r = omega arith
back_after (step ∷ steps) r = let one = back_by_step step r in let more = back_after steps (record_after (Word step) r) in
    omega arith

-- a caller is the same but for the tags that it holds and has won
pub record GaveNone {R : Type 0} (old new : Caller R) : Type 0 where
  pub number : new.number ≡ old.number
  pub shape : new.shape.value ≡ old.shape.value
  pub back : new.back ≡ old.back

-- so it is after a first try
pub begun_same : {R : Type 0} (l : Layout) (hint : Hint) (rest : Unfinished) (old new : Caller R)
    → Makes old new (IsBegun l hint rest) → GaveNone old new
begun_same l hint rest old new made =
    let none = begun_gives_none l hint rest made.steps made.holds in let r = record_of old in
    let back = ap (λ (x : Record _). x.back) made.added.known ∙ back_after made.steps r in record {
      number = ap (λ (x : Record _). x.number) made.added.known ∙ number_after made.steps r;
      shape = ap (λ (x : Record _). x.shape) made.added.known ∙ shape_after made.steps r;
      back = omega arith;
    }

-- all places of a word, from the first on
whole_order : (n : ℕ) → scan_order 0 n true ≡ numbers 0 n
whole_order n = order-split 0 n (omega arith) ∙ append-nil (numbers 0 n)

-- the first clear one is the first of them in order, and the ones after it are left
pub first_whole : (found n place : ℕ) → IsFirstClear found 0 n place
    → IsFirstInRank found (scan_order 0 n true) place (numbers (place + 1) n)
first_whole found n place is = record {
  before = numbers 0 place;
  order = whole_order n ∙ numbers-at 0 place n is.behind is.within;
  taken = all_numbers (λ k. bit_at found k ≡ 1) 0 place is.first;
  clear = is.clear;
}

-- where no bit is clear, all are taken
pub whole_taken : (found n : ℕ) → AllSet found 0 n → AllTaken found (scan_order 0 n true)
whole_taken found n set = subst (λ (xs : List ℕ). AllTaken found xs) (sym (whole_order n))
    (all_numbers (λ k. bit_at found k ≡ 1) 0 n set)

-- the places of a rank without a second part
pub rank_places : (rest : Rank) → rest.then ≡ 0 → places_of rest ≡ numbers rest.from rest.limit
rank_places rest none = ap (λ (end : ℕ). numbers rest.from rest.limit ++ numbers 0 end) none
    ∙ append-nil (numbers rest.from rest.limit)

-- steps that complete a first try over a rank complete it for any rank with the same places left
pub rest_after_lost : (l : Layout) (hint : Hint) (from found : ℕ) (answer : Option ℕ) {rest : Rank}
    (steps : List WordStep)
    → Completes (MissesFirst l hint (LostIn rest found)) (IsGet l (visits_from l hint) answer) steps
    → rest.then ≡ 0 → rest.from ≡ from → rest.limit ≡ word_depth l (word_of l hint.at)
    → IsRestOfGet l hint (Lost from found) answer steps
rest_after_lost l hint from found answer {rest} steps done none first most before lost = done before (record {
  goes_on = λ more answer' tries. lost.missed.goes_on more answer'
      (subst (λ (xs : List ℕ). IsTries (word_of l hint.at) xs found more answer') same tries);
  freed = lost.missed.freed;
  kept = lost.missed.kept;
})
  where
    same : places_of rest ≡ places_of lost.rest
    same = rank_places rest none ∙ (λ j. numbers (first j) (most j)) ∙ sym lost.left

module _ (l : Layout) (hint : Hint) (word limit found : ℕ) (at : word ≡ word_of l hint.at)
    (most : limit ≡ word_depth l (word_of l hint.at)) where
  -- a get that has found its word full
  pub begun_full : AllSet found 0 limit → IsBegun l hint Full (Look word found ∷ [])
  begun_full set = subst (λ (x : ℕ × ℕ). IsMissed x.0 (scan_order 0 x.1 true) NoneClear (Look word found ∷ []))
      (λ z. (at z, most z)) (record {
        goes_on = full_pass word (scan_order 0 limit true) found (whole_taken found limit set);
        freed = refl;
        kept = refl;
      })

  -- a get that has lost its first claim
  pub begun_lost : (place next : ℕ) → limit ≤ 64 → IsFirstClear found 0 limit place → bit_at next place ≡ 1
      → IsBegun l hint (Lost (place + 1) next) (Look word found ∷ Claimed word (2 ^ place) next ∷ [])
  begun_lost place next small is taken =
      let rest : Rank = record { from = place + 1; limit = limit; then = 0; ends = small; wraps = omega arith } in
      let places : places_of rest ≡ numbers (place + 1) limit = rank_places rest refl in record {
        rest = rest;
        left = places ∙ ap (numbers (place + 1)) most;
        missed = subst (λ (x : ℕ × ℕ). IsMissed x.0 (scan_order 0 x.1 true) (LostIn rest next)
            (Look word found ∷ Claimed word (2 ^ place) next ∷ []))
            (λ z. (at z, most z)) (record {
              goes_on = λ more answer tries. pass (loses (first_whole found limit place is) taken
                  (subst (λ (xs : List ℕ). IsTries word xs next more answer) places tries));
              freed = refl;
              kept = refl;
            });
      }
