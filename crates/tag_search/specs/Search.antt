-- Which steps are a search: passes over the places of a word, visits of words, and their answers.
use Rattle.std.specs.Prelude.{◌++◌, ◌<◌, ◌^◌, ◌∷◌, ◌≡◌, ◌≢◌, ◌≤◌}
use Rattle.tag_search.specs.Uses.{[], All, bit_at, Claimed, Keep, Layout, List, Look, LookAside, None, Option, Some, Spill, suc, Swap, tag_at, without, WordStep, ℕ}
use Rattle.tag_core.specs.Keeping.{IsLeastIn}

-- each of the places is taken in the word
abbrev pub AllTaken : ℕ → List ℕ → Type 0
AllTaken word places = All (λ place. bit_at word place ≡ 1) places

-- the place is the first of the rank that is clear in the word, and `behind` are the places after it
pub record IsFirstInRank (word : ℕ) (rank : List ℕ) (place : ℕ) (behind : List ℕ) : Type 0 where
  pub before : List ℕ
  pub order : rank ≡ before ++ place ∷ behind
  pub taken : AllTaken word before
  pub clear : bit_at word place ≡ 0

-- claims of one place each, after a step that found this word: each claims the first place that is clear in the word
-- found last, among those after the places claimed before, and the first claim that wins is the last
pub data IsTries (i : ℕ) : List ℕ → ℕ → List WordStep → Option ℕ → Type 0 where
  none_left : {rank : List ℕ} {found : ℕ} → AllTaken found rank → IsTries i rank found [] None
  wins :
      {rank behind : List ℕ} {found next place : ℕ}
      → IsFirstInRank found rank place behind → bit_at next place ≡ 0
      → IsTries i rank found (Claimed i (2 ^ place) next ∷ []) (Some place)
  loses :
      {rank behind : List ℕ} {found next place : ℕ} {rest : List WordStep} {answer : Option ℕ}
      → IsFirstInRank found rank place behind → bit_at next place ≡ 1 → IsTries i behind next rest answer
      → IsTries i rank found (Claimed i (2 ^ place) next ∷ rest) answer

-- a load of the word, and the claims that follow it
pub data IsPass (i : ℕ) (rank : List ℕ) : List WordStep → Option ℕ → Type 0 where
  pass :
      {found : ℕ} {tries : List WordStep} {answer : Option ℕ}
      → IsTries i rank found tries answer → IsPass i rank (Look i found ∷ tries) answer

-- a load of the cleared set; if anything was set aside, the set is swapped with 0, and the mask that it had by then, if
-- any, is removed from the word
pub data IsSweep (i : ℕ) : ℕ → List WordStep → Type 0 where
  unseen : IsSweep i 0 (LookAside i 0 ∷ [])
  empty : {seen : ℕ} → seen ≢ 0 → IsSweep i 0 (LookAside i seen ∷ Swap i 0 ∷ [])
  spilled :
      {seen mask found : ℕ}
      → seen ≢ 0 → mask ≢ 0 → mask < 2 ^ 64 → IsSweep i mask (LookAside i seen ∷ Swap i mask ∷ Spill i mask found ∷ [])

-- the same where something was set aside at the swap: one place of the mask stays with the caller, and the rest, if any,
-- is removed from the word
pub data IsKeepingSweep (i : ℕ) : ℕ → ℕ → List WordStep → Type 0 where
  kept_alone :
      {seen mask place : ℕ}
      → seen ≢ 0 → mask < 2 ^ 64 → without mask (2 ^ place) ≡ 0
      → IsKeepingSweep i mask place (LookAside i seen ∷ Swap i mask ∷ Keep i (2 ^ place) ∷ [])
  kept_one :
      {seen mask place found : ℕ}
      → seen ≢ 0 → mask < 2 ^ 64 → without mask (2 ^ place) ≢ 0
      → IsKeepingSweep i mask place
      (LookAside i seen ∷ Swap i mask ∷ Keep i (2 ^ place) ∷ Spill i (without mask (2 ^ place)) found ∷ [])

-- a sweep that kept the least place that it swept
pub record IsLeastKept (i place : ℕ) (steps : List WordStep) : Type 0 where
  pub mask : ℕ
  pub least : IsLeastIn mask place
  pub sweep : IsKeepingSweep i mask place steps

-- the place is the first of the rank that is in the mask
pub record IsFirstSwept (mask : ℕ) (rank : List ℕ) (place : ℕ) : Type 0 where
  pub before : List ℕ
  pub behind : List ℕ
  pub order : rank ≡ before ++ place ∷ behind
  pub others : All (λ other. bit_at mask other ≡ 0) before
  pub is : bit_at mask place ≡ 1

-- at most so many turns, each a sweep and a pass, up to the first pass that wins, or the first sweep that keeps a place
pub data IsRetry (i : ℕ) (rank : List ℕ) : ℕ → List WordStep → Option ℕ → Type 0 where
  no_turn : IsRetry i rank 0 [] None
  turn_won :
      {turns mask place : ℕ} {sweep second : List WordStep}
      → IsSweep i mask sweep → IsPass i rank second (Some place)
      → IsRetry i rank (suc turns) (sweep ++ second) (Some place)
  turn_kept :
      {turns mask place : ℕ} {sweep : List WordStep}
      → IsKeepingSweep i mask place sweep → IsFirstSwept mask rank place
      → IsRetry i rank (suc turns) sweep (Some place)
  turn_passed :
      {turns mask : ℕ} {sweep second rest : List WordStep} {answer : Option ℕ}
      → IsSweep i mask sweep → IsPass i rank second None → IsRetry i rank turns rest answer
      → IsRetry i rank (suc turns) ((sweep ++ second) ++ rest) answer

-- turns of the visit of the hint's word: one is not enough, since between the two steps of another caller's sweep
-- neither the word nor its cleared set shows the tags swept
abbrev pub most_turns : ℕ
most_turns = 4

-- a pass and, if it wins nothing, some turns
pub data IsVisit (i : ℕ) (rank : List ℕ) (turns : ℕ) : List WordStep → Option ℕ → Type 0 where
  at_once : {steps : List WordStep} {place : ℕ} → IsPass i rank steps (Some place)
      → IsVisit i rank turns steps (Some place)
  retried :
      {first rest : List WordStep} {answer : Option ℕ}
      → 1 ≤ turns → IsPass i rank first None → IsRetry i rank turns rest answer
      → IsVisit i rank turns (first ++ rest) answer

-- a word, the places to try in it, in order, and how many turns at most
pub record Visit : Type 0 where
  pub word : ℕ
  pub rank : List ℕ
  pub turns : ℕ

-- the visits in order, up to the first that wins; the answer is its tag, or none after the last visit
pub data IsSearch (l : Layout) : List Visit → List WordStep → Option ℕ → Type 0 where
  over : IsSearch l [] [] None
  won :
      {visit : Visit} {visits : List Visit} {steps : List WordStep} {place : ℕ}
      → IsVisit visit.word visit.rank visit.turns steps (Some place)
      → IsSearch l (visit ∷ visits) steps (Some (tag_at l visit.word place))
  passed :
      {visit : Visit} {visits : List Visit} {steps rest : List WordStep} {answer : Option ℕ}
      → IsVisit visit.word visit.rank visit.turns steps None → IsSearch l visits rest answer
      → IsSearch l (visit ∷ visits) (steps ++ rest) answer
