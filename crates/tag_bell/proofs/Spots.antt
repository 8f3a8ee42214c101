-- What a step on words does to a spot: where it shuts one, no tag is free there afterwards, and where a tag is free
-- then, one was before or the step opened the spot.
use Rattle.std.specs.Prelude.{◌≡◌, ◌≢◌, ◌⊎◌}
use Rattle.tag_bell.proofs.Uses.{ap, arith, bit_at, bit_at-lt, bit_at-zero, bit_at_or, bit_or, changed_at, Claimed, dite, Finds, Give, inl, inr, IsCleared, IsOpen, Keep, Look, LookAside, Opens, Put, Shuts, Spill, Spot, Swap, sym, without, Words, words_after, WordStep, ℕ, ℕ_discrete, ◌∙◌}
use Rattle.tag_bell.specs.declared.spot.Spot.TheVariants.{InWord, InAside}
use Rattle.tag_core.proofs.ListedBits.{changed_at-here, changed_at-else}

-- a bit of a changed function
changed_bit : (f : ℕ → ℕ) (at value word bit : ℕ) → word ≡ at
    → bit_at (changed_at f at value word) bit ≡ bit_at value bit
changed_bit f at value word bit e = ap (λ (v : ℕ). bit_at v bit) (changed_at-here f at value word e)

kept_bit : (f : ℕ → ℕ) (at value word bit : ℕ) → word ≢ at
    → bit_at (changed_at f at value word) bit ≡ bit_at (f word) bit
kept_bit f at value word bit ne = ap (λ (v : ℕ). bit_at v bit) (changed_at-else f at value word ne)

-- a bit of what was found, in the word where it stands
found_bit : (f : ℕ → ℕ) (i found word bit : ℕ) → found ≡ f i → word ≡ i → bit_at found bit ≡ bit_at (f word) bit
found_bit f i found word bit is e = ap (λ (v : ℕ). bit_at v bit) (is ∙ ap f (sym e))

-- where a step shut a spot, no tag is free
pub shut : (step : WordStep) (w : Words) (spot : Spot) → Finds step w → Shuts step spot
    → ¬ IsOpen (words_after step w) spot
shut (Look i found) w (InWord word bit) is shuts free =
    let same = found_bit w.word i found word bit is shuts.0 in let set = shuts.1 in omega arith
shut (Look i found) w (InAside word bit) is shuts free = shuts
shut (LookAside i found) w (InWord word bit) is shuts free = shuts
shut (LookAside i found) w (InAside word bit) is shuts free =
    let same = found_bit w.aside i found word bit is shuts.0 in let clear = shuts.1 in omega arith
shut (Claimed i mask found) w (InWord word bit) is shuts free = either shuts.1
  where
    or : bit_at (bit_or (w.word i) mask) bit ≡ 0
    or = sym (changed_bit w.word i (bit_or (w.word i) mask) word bit shuts.0) ∙ free

    either : (bit_at found bit ≡ 1) ⊎ (bit_at mask bit ≡ 1) → ⊥
    either (inl set) = let same = ap (λ (v : ℕ). bit_at v bit) is in let both = bit_at_or (w.word i) mask bit in
        let clear = or in omega arith
    either (inr set) = let both = bit_at_or (w.word i) mask bit in let clear = or in omega arith
shut (Claimed i mask found) w (InAside word bit) is shuts free = shuts
shut (Give i mask found) w spot is shuts free = shuts
shut (Put i mask found) w spot is shuts free = shuts
shut (Swap i found) w (InWord word bit) is shuts free = shuts
shut (Swap i found) w (InAside word bit) is shuts free =
    let none = changed_bit w.aside i 0 word bit shuts.0 in let zero = bit_at-zero bit in omega arith
shut (Keep i mask) w spot is shuts free = shuts
shut (Spill i mask found) w spot is shuts free = shuts

-- a word less a mask: where the bit is 0 then, it was 0 before, or it was cleared
cleared : (i mask found : ℕ) (w : Words) (word bit : ℕ) → found ≡ w.word i
    → bit_at (changed_at w.word i (without (w.word i) mask) word) bit ≡ 0
    → (bit_at (w.word word) bit ≡ 0)
    ⊎ ((word ≡ i) × IsCleared found mask bit)
cleared i mask found w word bit is free = dite (ℕ_discrete word i)
    (λ (e : word ≡ i). let same = found_bit w.word i found word bit is e in dite (ℕ_discrete (bit_at found bit) 1)
    (λ (set : bit_at found bit ≡ 1). inr (
      e,
      (
        set,
        ap (λ (v : ℕ). bit_at (without v mask) bit) is
            ∙ sym (changed_bit w.word i (without (w.word i) mask) word bit e) ∙ free,
      ),
    ))
    (λ (clear : bit_at found bit ≢ 1). let low = bit_at-lt found bit in inl (omega arith)))
    (λ (ne : word ≢ i). inl (sym (kept_bit w.word i (without (w.word i) mask) word bit ne) ∙ free))

-- where a tag is free after a step, it was before, or the step opened the spot
pub opened : (step : WordStep) (w : Words) (spot : Spot) → Finds step w → IsOpen (words_after step w) spot
    → IsOpen w spot ⊎ Opens step spot
opened (Look i found) w spot is free = inl free
opened (LookAside i found) w spot is free = inl free
opened (Claimed i mask found) w (InWord word bit) is free = dite (ℕ_discrete word i)
    (λ (e : word ≡ i). let new = changed_bit w.word i (bit_or (w.word i) mask) word bit e in
    let both = bit_at_or (w.word i) mask bit in let same = ap (λ (j : ℕ). bit_at (w.word j) bit) e in inl (omega arith))
    (λ (ne : word ≢ i). inl (sym (kept_bit w.word i (bit_or (w.word i) mask) word bit ne) ∙ free))
opened (Claimed i mask found) w (InAside word bit) is free = inl free
opened (Give i mask found) w (InWord word bit) is free = cleared i mask found w word bit is free
opened (Give i mask found) w (InAside word bit) is free = inl free
opened (Put i mask found) w (InWord word bit) is free = inl free
opened (Put i mask found) w (InAside word bit) is free = dite (ℕ_discrete word i)
    (λ (e : word ≡ i). let new = changed_bit w.aside i (bit_or (w.aside i) mask) word bit e in
    let both = bit_at_or (w.aside i) mask bit in let same = ap (λ (j : ℕ). bit_at (w.aside j) bit) e in
    dite (ℕ_discrete (bit_at mask bit) 1)
    (λ (set : bit_at mask bit ≡ 1). inr (e, set))
    (λ (clear : bit_at mask bit ≢ 1). let low = bit_at-lt mask bit in inl (omega arith)))
    (λ (ne : word ≢ i). inl (sym (kept_bit w.aside i (bit_or (w.aside i) mask) word bit ne) ∙ free))
opened (Swap i found) w (InWord word bit) is free = inl free
opened (Swap i found) w (InAside word bit) is free = dite (ℕ_discrete word i)
    (λ (e : word ≡ i).
    let none = changed_bit w.aside i 0 word bit e in let zero = bit_at-zero bit in absurd (omega arith))
    (λ (ne : word ≢ i). inl (sym (kept_bit w.aside i 0 word bit ne) ∙ free))
opened (Keep i mask) w spot is free = inl free
opened (Spill i mask found) w (InWord word bit) is free = cleared i mask found w word bit is free
opened (Spill i mask found) w (InAside word bit) is free = inl free
