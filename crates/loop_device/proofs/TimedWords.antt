-- What a line with a time says, by its first word and what follows it.
use Rattle.loop_device.proofs.Uses.{ap, arith, behind, entry_of, false, first_part, has_gap, length, line_words, List, nat_tests, number_below, parts_of, sym, timed_entry, ℕ, ◌∙◌}
use Rattle.std.proofs.Common.{◌≡◌, ◌<◌, ◌^◌, ◌||◌, ◌==◌, ◌∷◌}

-- a line without an empty part, its first word and what follows it
module _ (line word plain : List ℕ) (full : has_gap (parts_of line) ≡ false) (cut : parts_of line ≡ word ∷ parts_of plain) where
  both_full : ((length word == 0) || has_gap (parts_of plain)) ≡ false
  both_full = sym (ap has_gap cut) ∙ full

  -- the first word is not empty
  pub word_full : 0 < length word
  word_full = let both = both_full in grind (arith, nat_tests)

  -- neither is any other
  plain_full : has_gap (parts_of plain) ≡ false
  plain_full = let both = both_full in grind (arith, nat_tests)

  -- the line says what it says without its time, if the time is one that may stand there
  pub timed_says : (last : ℕ) (names : List (List ℕ)) (number : ℕ) → timed_entry last names number (line_words line)
      ≡ behind last (number_below (2 ^ 64) word) (entry_of names number (line_words plain))
  timed_says last names number = rw (full, cut, plain_full, first_part plain)
