-- Two lists with one mark for each tag, as a pool. The reference search scans them.
use Rattle.std.specs.Prelude.{◌≡◌, ℕ, ◌+◌, Bool, false, not, ◌&&◌, ◌||◌, nat_eq, nat_lt, nat_le, List, length, slice_index_or}
use Rattle.tag_layout.specs.Layout.{Layout, word_depth, tag_at}
use Rattle.tag_search.specs.Pool.{Pool, is_in}

-- each list has one mark for each tag
pub record AreMarks (l : Layout) (free aside : List Bool) : Type 0 where
  pub free_count : length free ≡ l.depth
  pub aside_count : length aside ≡ l.depth

-- the mark of a place, or false if it is past the word's depth
abbrev pub mark_at : Layout → List Bool → ℕ → ℕ → Bool
mark_at l marks word place = nat_lt place (word_depth l word) && slice_index_or marks (tag_at l word place) false

-- the pool that the marks describe
abbrev pub pool_of_marks : Layout → List Bool → List Bool → Pool
pool_of_marks l free aside = record { free = mark_at l free; aside = mark_at l aside }

-- whether a tag is free after these words are swept and these places are taken
abbrev pub free_then : Layout → List Bool → List Bool → List ℕ → ℕ → ℕ → ℕ → ℕ → ℕ → ℕ → Bool
free_then l free aside swept word place n tag i k =
    (slice_index_or free tag false || (is_in i swept && slice_index_or aside tag false))
    && not (nat_eq i word && (nat_le place k && nat_lt k (place + n)))

-- whether a tag is set aside after these words are swept
abbrev pub aside_then : List Bool → List ℕ → ℕ → ℕ → Bool
aside_then aside swept tag i = not (is_in i swept) && slice_index_or aside tag false
