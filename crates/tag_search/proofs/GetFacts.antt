-- A search over all words is a get.
use Rattle.std.specs.Prelude.{◌<◌, ◌≡◌, ◌≤◌}
use Rattle.tag_search.proofs.Uses.{ap, arith, Bool, false, Hint, hint_after_get, IsGet, IsSearch, Layout, List, mod-eq_of_lt, Option, plain_reach, Reach, reach_of, reduced, refl, shallow_reach, subst, suc, sym, true, visits, visits_from, word-start, word_depth, word_of, words, WordStep, zero, ℕ}
use Rattle.tag_search.proofs.Uses.{◌∙◌}
use Rattle.tag_layout.proofs.ShareFacts.{shallow_limit-le}
use Rattle.tag_search.specs.Follows.{HintFollows}
use Rattle.tag_search.specs.declared.scan.Scan.{Scan}
use Rattle.tag_search.proofs.Choices.{search_chooses}
use Rattle.tag_search.proofs.Bounds.{search_bound, visits_bound}

-- a search whose limits are within the words has a bounded number of steps
pub get_of_search : (l : Layout) (first : ℕ) (reach : Reach) → l.shift ≤ 6 → first ≤ words l
    → ((i : ℕ) → i < words l → reach.limit i ≤ word_depth l i)
    → (answer : Option ℕ) (steps : List WordStep) → IsSearch l (visits l first reach) steps answer
    → IsGet l (visits l first reach) answer steps
get_of_search l first reach narrow h within answer steps search =
    record {
      search = search;
      alone = search_chooses l first reach narrow h within answer steps search;
      bound = let a = search_bound search in let b = visits_bound l first reach h within in omega arith;
    }

-- a hint below the depth is reduced already
pub reduced_below : (depth at : ℕ) → at < depth → reduced depth at ≡ at
reduced_below zero at low = absurd (omega arith)
reduced_below (suc depth) at low = mod-eq_of_lt low

-- a plain search has no place past a word's depth
pub plain_within : (l : Layout) (round_robin : Bool) (hint i : ℕ) → i < words l
    → (plain_reach l round_robin hint).limit i ≤ word_depth l i
plain_within l true hint i h = omega arith
plain_within l false hint i h = omega arith

-- a shallow search has none either
pub shallow_within : (l : Layout) (depth hint i : ℕ) → i < words l → (shallow_reach l depth hint).limit i
    ≤ word_depth l i
shallow_within l depth hint i h = let start = word-start l i h in shallow_limit-le l depth i (omega arith)

-- the same, with equal layouts, first words and reaches
get_at : (l sizes : Layout) (first word : ℕ) (reach wanted : Reach) → l ≡ sizes → first ≡ word → reach ≡ wanted
    → l.shift ≤ 6 → first ≤ words l → ((i : ℕ) → i < words sizes → wanted.limit i ≤ word_depth sizes i)
    → (answer : Option ℕ) (steps : List WordStep) → IsSearch l (visits l first reach) steps answer
    → IsGet sizes (visits sizes word wanted) answer steps
get_at l sizes first word reach wanted e f r narrow h within answer steps search =
    let low = subst (λ (x : Layout × ℕ). (x.0.shift ≤ 6) × (x.1 ≤ words x.0)) (λ z. (e z, f z)) (narrow, h) in
    get_of_search sizes word wanted low.0 low.1 within answer steps
    (subst (λ (x : Layout × ℕ × Reach). IsSearch x.0 (visits x.0 x.1 x.2) steps answer) (λ z. (e z, f z, r z)) search)

-- the search of a scan from a reduced hint is a get, whose visits its reach determines
pub scan_get : (scan : Scan) (l sizes : Layout) (reach : Layout → ℕ → Reach) (at depth from : ℕ) → l ≡ sizes
    → depth ≡ l.depth → from ≡ reduced depth at → scan.layout ≡ l → l.shift ≤ 6
    → (scan.first ≡ word_of l from) × (scan.first ≤ words l) → reach_of scan ≡ reach l from
    → let hint = reduced sizes.depth at in ((i : ℕ) → i < words sizes → (reach sizes hint).limit i ≤ word_depth sizes i)
    → (answer : Option ℕ) (steps : List WordStep)
    → IsSearch scan.layout (visits scan.layout scan.first (reach_of scan)) steps answer
    → IsGet sizes (visits sizes (word_of sizes hint) (reach sizes hint)) answer steps
scan_get scan l sizes reach at depth from same deep start own narrow first is within =
    let hint : from ≡ reduced sizes.depth at = start
    ∙ ap (λ (d : ℕ). reduced d at) (deep ∙ ap (λ (x : Layout). x.depth) same) in
    let low = subst (λ (x : Layout). (x.shift ≤ 6) × (scan.first ≤ words x)) (sym own) (narrow, first.1) in
    get_at scan.layout sizes scan.first (word_of sizes (reduced sizes.depth at)) (reach_of scan)
    (reach sizes (reduced sizes.depth at)) (own ∙ same) (first.0 ∙ (λ z. word_of (same z) (hint z)))
    (is ∙ (λ z. reach (same z) (hint z))) low.0 low.1 within

-- a get without round robin from a hint below the depth
module _ (l sizes : Layout) (hint : Hint) (same : l ≡ sizes) (low : hint.at < sizes.depth) where
  from-is : hint.at ≡ reduced sizes.depth hint.at
  from-is = sym (reduced_below sizes.depth hint.at low)

  -- a search of whole words from the hint's word is the get
  pub plain_get : (word : ℕ) → word ≡ word_of l hint.at → hint.round_robin ≡ false → l.shift ≤ 6 → word ≤ words l
      → (answer : Option ℕ) (steps : List WordStep) → IsSearch l (visits l word (plain_reach l false 0)) steps answer
      → IsGet sizes (visits_from sizes hint) answer steps
  plain_get word is plain narrow below =
      let from : ℕ = reduced sizes.depth hint.at in let rr = hint.round_robin in
      get_at l sizes word (word_of sizes from) (plain_reach l false 0) (plain_reach sizes rr from) same
      (is ∙ (λ z. word_of (same z) (from-is z))) (λ z. plain_reach (same z) (sym plain z) from) narrow below
      (plain_within sizes rr from)

  -- and the hint follows its answer from where it is
  pub plain_follows : (depth at : ℕ) (answer : Option ℕ) → depth ≡ l.depth
      → at ≡ hint_after_get depth hint.round_robin hint.at answer
      → HintFollows sizes.depth hint (record { at = at; round_robin = hint.round_robin }) answer
  plain_follows depth at answer deep is = record {
    at = is ∙ (λ z. hint_after_get ((deep ∙ ap (λ (x : Layout). x.depth) same) z) hint.round_robin (from-is z) answer);
    round_robin = refl;
  }
