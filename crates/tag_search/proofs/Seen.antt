-- The fields of a plain port as contracts see them, and what a call reads in them.
use Rattle.std.specs.Prelude.{◌<◌, ◌≡◌}
use Rattle.tag_search.proofs.Uses.{get_or, get_or_read, IsTidy, length, List, Plain, subst, sym, words, ℕ}
use Rattle.tag_search.specs.declared.plain.PlainPort.TheInside.{Inside}

-- what contracts see of a port
abbrev pub seen : Inside → Plain
seen port = record { layout = port.layout; word = port.word.items; aside = port.cleared.items }

-- the list has this entry, and the number is what stands there
pub record Reads (xs : List ℕ) (i found : ℕ) : Type 0 where
  pub within : i < length xs
  pub is : found ≡ get_or xs i 0

module _ (p q : Plain) (same : p ≡ q) (tidy : IsTidy p) (i : ℕ) (near : i < words q.layout) where
  here : i < words p.layout
  here = subst (λ (x : Plain). i < words x.layout) (sym same) near

  -- a read of a word
  pub reads_word : (found : ℕ) → found ≡ get_or p.word i found → Reads p.word i found
  reads_word found is = let within : i < length p.word = rw tidy.word_count here in
      record { within = within; is = get_or_read p.word i found within is 0 }

  -- and one of a cleared set
  pub reads_aside : (found : ℕ) → found ≡ get_or p.aside i found → Reads p.aside i found
  reads_aside found is = let within : i < length p.aside = rw tidy.aside_count here in
      record { within = within; is = get_or_read p.aside i found within is 0 }
