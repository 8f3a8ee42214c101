-- The answer of a search if no other caller steps, and the pool after it: a choice over free and aside places.
use Rattle.std.specs.Prelude.{◌++◌, ◌+◌, ◌<◌, ◌↔◌, ◌∷◌, ◌≡◌, ◌≤◌}
use Rattle.tag_search.specs.Uses.{All, bit_at, false, Layout, List, map, None, Option, place_of, Some, tag_at, true, word_depth, word_of, ℕ}
use Rattle.tag_search.specs.Pool.{Pool, is_available, freed_in, taken_at, taken_from}
use Rattle.tag_search.specs.Search.{Visit}

-- the place is free
abbrev pub IsFree : Pool → ℕ → ℕ → Type 0
IsFree p word place = p.free word place ≡ true

-- the place is not free
abbrev pub IsSet : Pool → ℕ → ℕ → Type 0
IsSet p word place = p.free word place ≡ false

-- the place is set aside
abbrev pub IsAside : Pool → ℕ → ℕ → Type 0
IsAside p word place = p.aside word place ≡ true

-- the place is free or set aside
abbrev pub IsAvailable : Pool → ℕ → ℕ → Type 0
IsAvailable p word place = is_available p word place ≡ true

-- the place is neither free nor set aside
abbrev pub IsBusy : Pool → ℕ → ℕ → Type 0
IsBusy p word place = is_available p word place ≡ false

-- the tag is neither free nor set aside
abbrev pub IsHeld : Layout → Pool → ℕ → Type 0
IsHeld l p tag = IsBusy p (word_of l tag) (place_of l tag)

-- each tag of a run, which is its first tag and a mask whose lowest bit is that tag, is neither free nor set aside
abbrev pub HoldsRun : Layout → Pool → ℕ × ℕ → Type 0
HoldsRun l p run = (k : ℕ) → bit_at run.1 k ≡ 1 → IsHeld l p (run.0 + k)

-- the place is in the rank, `This` holds of it, and `Others` of each place before it
pub record IsFirst (This Others : ℕ → Type 0) (rank : List ℕ) (place : ℕ) : Type 0 where
  pub before : List ℕ
  pub behind : List ℕ
  pub order : rank ≡ before ++ place ∷ behind
  pub others : All Others before
  pub is : This place

-- no place of this visit's rank is free or set aside
abbrev pub IsFull : Pool → Visit → Type 0
IsFull p visit = All (IsBusy p visit.word) visit.rank

-- the words that are visited
abbrev pub words_in : List Visit → List ℕ
words_in visits = map (λ visit. visit.word) visits

-- the first word with a free or aside place in its rank decides: the answer is its first free place or, if it has none,
-- its first aside place; there is no answer if no word has one. The aside places of each word passed over are freed,
-- and those of the deciding word if its answer was aside; the place answered is no longer free
pub data IsChoice (l : Layout) (old : Pool) : List Visit → Option ℕ → Pool → Type 0 where
  nothing : {visits : List Visit} → All (IsFull old) visits
      → IsChoice l old visits None (freed_in (words_in visits) old)
  chosen_free : (full behind : List Visit) (visit : Visit) {place : ℕ} → All (IsFull old) full
      → IsFirst (IsFree old visit.word) (IsSet old visit.word) visit.rank place
      → IsChoice l old (full ++ visit ∷ behind) (Some (tag_at l visit.word place))
      (taken_at visit.word place (freed_in (words_in full) old))
  chosen_aside : (full behind : List Visit) (visit : Visit) {place : ℕ} → All (IsFull old) full
      → All (IsSet old visit.word) visit.rank
      → IsFirst (IsAside old visit.word) (IsBusy old visit.word) visit.rank place
      → IsChoice l old (full ++ visit ∷ behind) (Some (tag_at l visit.word place))
      (taken_at visit.word place (freed_in (visit.word ∷ words_in full) old))

-- the place is the least below a bound that is free or set aside
pub record IsLeastAvailable (p : Pool) (word depth place : ℕ) : Type 0 where
  pub within : place < depth
  pub is : IsAvailable p word place
  pub least : (other : ℕ) → other < place → IsBusy p word other

-- the word has no available place, or fewer than n places from its least available one on
abbrev pub HasNoRun : Layout → ℕ → Pool → ℕ → Type 0
HasNoRun l n p word = (place : ℕ) → IsLeastAvailable p word (word_depth l word) place → word_depth l word < place + n

-- the word's n places from its least available one on, and the mask of those among them that are available
pub record IsAvailableRun (l : Layout) (n : ℕ) (p : Pool) (word place bits : ℕ) : Type 0 where
  pub least : IsLeastAvailable p word (word_depth l word) place
  pub fits : place + n ≤ word_depth l word
  pub won : (k : ℕ) → bit_at bits k ≡ 1 ↔ (k < n) × IsAvailable p word (place + k)

-- the first word with n places from its least available one on answers those among them that are available; there is no
-- answer if there is no such word. The aside places of each word up to the answer's are freed, and the n places are no
-- longer free
pub data IsBatchChoice (l : Layout) (n : ℕ) (old : Pool) : List ℕ → Option (ℕ × ℕ) → Pool → Type 0 where
  no_batch : {words : List ℕ} → All (HasNoRun l n old) words → IsBatchChoice l n old words None (freed_in words old)
  batch : (passed behind : List ℕ) (word : ℕ) {place bits : ℕ} → All (HasNoRun l n old) passed
      → IsAvailableRun l n old word place bits
      → IsBatchChoice l n old (passed ++ word ∷ behind) (Some (tag_at l word place, bits))
      (taken_from word place n (freed_in (word ∷ passed) old))
