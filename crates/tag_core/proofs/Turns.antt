-- What each event does to what one tag's place shows.
use Rattle.std.specs.Prelude.{◌-◌, ◌<◌, ◌≡◌, ◌≢◌}
use Rattle.tag_core.proofs.Uses.{ap, arith, aside, aside_bit, eq-eqb, free, held, held_bit, max, min, nat_eq, ne_eqb, one_if, one_if-le, Place, posted, posted_bit, refl, sweep, sweep_bit, sym, word_bit, ℕ}
use Rattle.tag_core.proofs.Picks.{pick}

same : (c : ℕ) → one_if (nat_eq c c) ≡ 1
same c = ap one_if (eq-eqb c c refl)

apart : (c a : ℕ) → a ≢ c → one_if (nat_eq c a) ≡ 0
apart c a n = ap one_if (ne_eqb c a (λ e. n (sym e)))

-- what a place shows is 0 or 1: in the word
pub word_small : (q : Place) → word_bit q < 2
word_small q = grind arith

-- in the cleared set
pub aside_small : (q : Place) → aside_bit q < 2
aside_small q = grind arith

-- in the state
pub posted_small : (q : Place) → posted_bit q < 2
posted_small q = grind arith

-- in a held set
pub held_small : (a : ℕ) (q : Place) → held_bit a q < 2
held_small a q = grind (arith, one_if-le)

-- in a sweep
pub sweep_small : (a : ℕ) (q : Place) → sweep_bit a q < 2
sweep_small a q = grind (arith, one_if-le)

-- a tag whose bit in the word is 0 is free
pub free_from : (q : Place) → word_bit q ≡ 0 → q ≡ free
free_from q e = grind arith

-- a tag whose state is 1 is posted
pub posted_from : (q : Place) → posted_bit q ≡ 1 → q ≡ posted
posted_from q e = grind arith

-- a tag whose bit in a caller's held set is 1 is held by that caller
pub held_from : (c : ℕ) (q : Place) → held_bit c q ≡ 1 → q ≡ held c
held_from c q e = grind (arith, ne_eqb)

-- a tag whose bit in a caller's sweep is 1 was swept by that caller
pub swept_from : (c : ℕ) (q : Place) → sweep_bit c q ≡ 1 → q ≡ sweep c
swept_from c q e = grind (arith, ne_eqb)

-- What a place shows after a move from q to p, by the caller c: the word's bit, the cleared bit, the state,
-- and the bits of c's held and swept masks
pub record Shows (c : ℕ) (q p : Place) (w a s h v : ℕ) : Type 0 where
  pub word : word_bit p ≡ w
  pub aside : aside_bit p ≡ a
  pub posted : posted_bit p ≡ s
  pub held : held_bit c p ≡ h
  pub swept : sweep_bit c p ≡ v
  pub others_hold : (b : ℕ) → b ≢ c → held_bit b p ≡ held_bit b q
  pub others_sweep : (b : ℕ) → b ≢ c → sweep_bit b p ≡ sweep_bit b q

-- what a place shows is read off where it stays
pub unchanged : (c : ℕ) (q : Place) (w a s h v : ℕ) → word_bit q ≡ w → aside_bit q ≡ a → posted_bit q ≡ s
    → held_bit c q ≡ h → sweep_bit c q ≡ v → Shows c q q w a s h v
unchanged c q w a s h v ew ea es eh ev = grind arith

-- what tells of bits
ruleset bits = (same, apart, word_small, aside_small, posted_small, held_small, sweep_small)

-- bit x of a claim's mask, where the place shows w
pub claims : (c : ℕ) (q : Place) (x : ℕ) → x < 2 →
    Shows c q (pick (min x (1 - word_bit q)) (held c) q) (max (word_bit q) x) (aside_bit q) (posted_bit q)
    (max (held_bit c q) (min x (1 - word_bit q))) (sweep_bit c q)
claims c q x h = grind (arith, bits)

-- bit x of a mask of held tags that are given back
pub gives : (c : ℕ) (q : Place) (x : ℕ) → x < 2 → (x ≡ 1 → q ≡ held c) →
    Shows c q (pick x free q) (min (word_bit q) (1 - x)) (aside_bit q) (posted_bit q)
    (min (held_bit c q) (1 - x)) (sweep_bit c q)
gives c q x h mine = grind (arith, bits)

-- a held tag is set aside
pub puts : (c : ℕ) (q : Place) (x : ℕ) → x < 2 → (x ≡ 1 → q ≡ held c)
    → Shows c q (pick x aside q) (word_bit q) (max (aside_bit q) x) (posted_bit q)
    (min (held_bit c q) (1 - x)) (sweep_bit c q)
puts c q x h mine = grind (arith, bits)

-- a held tag is posted
pub posts : (c : ℕ) (q : Place) (x : ℕ) → x < 2 → (x ≡ 1 → q ≡ held c)
    → Shows c q (pick x posted q) (word_bit q) (aside_bit q) (max (posted_bit q) x)
    (min (held_bit c q) (1 - x)) (sweep_bit c q)
posts c q x h mine = grind (arith, bits)

-- a posted tag is taken
pub takes : (c : ℕ) (q : Place) (x : ℕ) → x < 2 → (x ≡ 1 → q ≡ posted)
    → Shows c q (pick x (held c) q) (word_bit q) (aside_bit q) (min (posted_bit q) (1 - x))
    (max (held_bit c q) x) (sweep_bit c q)
takes c q x h its = grind (arith, bits)

-- a word's tags that are aside go into a sweep; x is 1 in the word
pub gathers : (c : ℕ) (q : Place) (x : ℕ) → x < 2 →
    Shows c q (pick x (pick (aside_bit q) (sweep c) q) q) (word_bit q) (min (aside_bit q) (1 - x)) (posted_bit q)
    (held_bit c q) (max (sweep_bit c q) (min x (aside_bit q)))
gathers c q x h = grind (arith, bits)

-- a swept tag is kept
pub keeps : (c : ℕ) (q : Place) (x : ℕ) → x < 2 → (x ≡ 1 → q ≡ sweep c)
    → Shows c q (pick x (held c) q) (word_bit q) (aside_bit q) (posted_bit q)
    (max (held_bit c q) x) (min (sweep_bit c q) (1 - x))
keeps c q x h mine = grind (arith, bits)

-- the sweep is freed
pub spills : (c : ℕ) (q : Place) (x : ℕ) → x < 2 →
    Shows c q (pick x (pick (sweep_bit c q) free q) q) (min (word_bit q) (1 - min x (sweep_bit c q))) (aside_bit q)
    (posted_bit q) (held_bit c q) (min (sweep_bit c q) (1 - x))
spills c q x h = grind (arith, bits)

-- the same, by equal numbers
pub reshow : {c : ℕ} {q p p' : Place} {w w' a a' s s' h h' v v' : ℕ} → Shows c q p w a s h v → p ≡ p' → w ≡ w' → a ≡ a'
    → s ≡ s' → h ≡ h' → v ≡ v' → Shows c q p' w' a' s' h' v'
reshow x ep ew ea es eh ev = grind (arith, x.others_hold, x.others_sweep)
