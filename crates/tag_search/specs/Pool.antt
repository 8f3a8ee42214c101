-- The tags of a map as two sets of places: those that are free, and those that are set aside.
use Rattle.std.specs.Prelude.{◌&&◌, ◌+◌, ◌||◌, ◌≡◌}
use Rattle.tag_search.specs.Uses.{bit_at, Bool, false, List, list_any, nat_eq, nat_le, nat_lt, not, Words, ℕ}

-- the places that are free, and those that were given back for a sweep to free
pub record Pool : Type 0 where
  pub free : ℕ → ℕ → Bool
  pub aside : ℕ → ℕ → Bool

-- the pool of 64 places for each word: a clear bit is free, and a bit of the cleared set is aside
abbrev pub pool_of : Words → Pool
pool_of w = record {
  free = λ word place. nat_lt place 64 && nat_eq (bit_at (w.word word) place) 0;
  aside = λ word place. nat_lt place 64 && nat_eq (bit_at (w.aside word) place) 1;
}

-- the place is free, or will be once its word is swept
abbrev pub is_available : Pool → ℕ → ℕ → Bool
is_available p word place = p.free word place || p.aside word place

-- the place is neither free nor set aside: a caller holds it, or it is posted
abbrev pub is_busy : Pool → ℕ → ℕ → Bool
is_busy p word place = not (is_available p word place)

-- no place is both free and set aside
abbrev pub IsApart : Pool → Type 0
IsApart p = (word place : ℕ) → (p.free word place && p.aside word place) ≡ false

-- the number is in the list
abbrev pub is_in : ℕ → List ℕ → Bool
is_in n list = list_any (nat_eq n) list

-- in these words, what is set aside becomes free
abbrev pub freed_in : List ℕ → Pool → Pool
freed_in words p = record {
  free = λ word place. p.free word place || (is_in word words && p.aside word place);
  aside = λ word place. not (is_in word words) && p.aside word place;
}

-- these places of the word are no longer free
abbrev pub taken_in : ℕ → (ℕ → Bool) → Pool → Pool
taken_in word these p = record p { free = λ other place. p.free other place && not (nat_eq other word && these place) }

-- this place of the word is no longer free
abbrev pub taken_at : ℕ → ℕ → Pool → Pool
taken_at word place p = taken_in word (nat_eq place) p

-- n places of the word, from one on, are no longer free
abbrev pub taken_from : ℕ → ℕ → ℕ → Pool → Pool
taken_from word place n p = taken_in word (λ other. nat_le place other && nat_lt other (place + n)) p

-- this place of the word is set aside
abbrev pub set_aside : ℕ → ℕ → Pool → Pool
set_aside word place p = record p { aside = λ other at. p.aside other at || (nat_eq other word && nat_eq at place) }

-- the places of the mask are free in the word
abbrev pub free_at : ℕ → ℕ → Pool → Pool
free_at word mask p = record p {
  free = λ other place. p.free other place
      || (nat_eq other word && nat_lt place 64 && nat_eq (bit_at mask place) 1);
}
