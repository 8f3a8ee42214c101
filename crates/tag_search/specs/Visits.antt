-- The visits of a search: the order of the words, and the order of the places of each word.
use Rattle.tag_search.specs.Uses.{Bool, cond, false, Layout, List, map, nat_eq, Option, place_of, shallow_limit, true, word_depth, word_of, words, WordStep, ℕ}
use Rattle.tag_search.specs.Order.{scan_order}
use Rattle.tag_search.specs.Search.{Visit, IsSearch, most_turns}

-- the first place of the first word, the number of places of each word that may be taken, and whether the places before
-- the start follow
pub record Reach : Type 0 where
  pub start : ℕ
  pub limit : ℕ → ℕ
  pub wrap : Bool

-- a plain search allows every place of a word; under round robin it begins at the hint and tries no place before it
abbrev pub plain_reach : Layout → Bool → ℕ → Reach
plain_reach l false hint = record { start = 0; limit = word_depth l; wrap = true }
plain_reach l true hint = record { start = place_of l hint; limit = word_depth l; wrap = false }

-- a shallow search allows each word's share of its depth, from the hint on and then the places before it
abbrev pub shallow_reach : Layout → ℕ → ℕ → Reach
shallow_reach l depth hint = record { start = place_of l hint; limit = λ i. shallow_limit l i depth; wrap = true }

-- the visit of a word: it begins at `start` in the first word, with the most turns, and at place 0 in every other, with
-- one
abbrev pub visit_of : ℕ → Reach → ℕ → Visit
visit_of first reach i = record {
  word = i;
  rank = scan_order (cond (nat_eq i first) reach.start 0) (reach.limit i) reach.wrap;
  turns = cond (nat_eq i first) most_turns 1;
}

-- a visit of each word, in cyclic order from the first
abbrev pub visits : Layout → ℕ → Reach → List Visit
visits l first reach = map (visit_of first reach) (scan_order first (words l) true)

-- all places of a word, in order
abbrev pub places_in : Layout → ℕ → List ℕ
places_in l word = scan_order 0 (word_depth l word) true

-- the steps of a search of all places of each word, from this word on, and its answer
abbrev pub IsPlainSearch : Layout → ℕ → Option ℕ → List WordStep → Type 0
IsPlainSearch l first answer steps = IsSearch l (visits l first (plain_reach l false 0)) steps answer

-- the visits of a plain search from this hint
abbrev pub plain_visits : Layout → Bool → ℕ → List Visit
plain_visits l round_robin hint = visits l (word_of l hint) (plain_reach l round_robin hint)

-- the visits of a search of this depth from this hint
abbrev pub shallow_visits : Layout → ℕ → ℕ → List Visit
shallow_visits l depth hint = visits l (word_of l hint) (shallow_reach l depth hint)
