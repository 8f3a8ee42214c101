-- What a call finds that loads the words of a set.
use Rattle.std.specs.Prelude.{◌&&◌, ◌∷◌, ◌≡◌}
use Rattle.std.specs.Prelude.{Bool, List, [], nat_eq, slice_index_or, suc, ℕ}
use Rattle.tag_pool.specs.declared.side.Side.{Side}
use Rattle.std.specs.Int.{bit_at}
use Rattle.tag_pool.specs.Sides.{Holds, caller_of, hint_of}
use Rattle.tag_layout.specs.Layout.{Layout, place_of, word_of}
use Rattle.tag_core.specs.Callers.{SameMap, record_of}
use Rattle.tag_core.specs.declared.word_step.WordStep.{WordStep}
use Rattle.tag_core.specs.declared.word_step.WordStep.TheVariants.{Look, LookAside}
use Rattle.tag_search.specs.Shared.{record_after_all}

-- the pair found for this word: its bits (1 is taken) and its cleared set (1 is set aside)
abbrev pub word_in : List (ℕ × ℕ) → ℕ → ℕ × ℕ
word_in found word = slice_index_or found word (0, 0)

-- the looks that found these pairs, from this word on, oldest first: each word, and then its cleared set
abbrev pub looks_from : ℕ → List (ℕ × ℕ) → List WordStep
looks_from word [] = []
looks_from word (pair ∷ found) = Look word pair.0 ∷ LookAside word pair.1 ∷ looks_from (suc word) found

-- the tag was found taken and then not set aside
abbrev pub is_busy_in : Layout → List (ℕ × ℕ) → ℕ → Bool
is_busy_in l found tag =
    nat_eq (bit_at (word_in found (word_of l tag)).0 (place_of l tag)) 1
    && nat_eq (bit_at (word_in found (word_of l tag)).1 (place_of l tag)) 0

-- the tag was found set aside
abbrev pub is_aside_in : Layout → List (ℕ × ℕ) → ℕ → Bool
is_aside_in l found tag = nat_eq (bit_at (word_in found (word_of l tag)).1 (place_of l tag)) 1

-- the side made these looks one after another, and nothing else of it changed
pub record MakesLooks {R : Type 0} (steps : List WordStep) (old new : Side R) : Type 0 where
  pub known : record_of (caller_of new) ≡ record_after_all steps (record_of (caller_of old))
  pub same_map : SameMap (caller_of old) (caller_of new)
  pub hint : hint_of new ≡ hint_of old

-- each tag of this word that the side holds was found taken and not set aside
abbrev pub FindsHeld : {R : Type 0} → Layout → Side R → ℕ → ℕ × ℕ → Type 0
FindsHeld l side word pair = (tag : ℕ) → Holds side tag → word_of l tag ≡ word
    → (bit_at pair.0 (place_of l tag) ≡ 1) × (bit_at pair.1 (place_of l tag) ≡ 0)
