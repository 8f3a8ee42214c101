-- A claim of one place: what it found there, and what it leaves of its caller.
use Rattle.std.specs.Prelude.{◌%◌, ◌*◌, ◌+◌, ◌<◌, ◌^◌, ◌≡◌, ◌≢◌}
use Rattle.tag_core.proofs.Uses.{and_pow, ap, arith, bit_and, bit_at, bit_or, Caller, Claimed, count_ones, get_or, HoldsMore, inl, inr, IsCallerOf, joined, layout_of, List, Map, Me, one_shl, place_of, place_of-tag_at, pow_pos, record_of, refl, set, Shape, slice_set, Stepped, subst, sym, tag_at}
use Rattle.tag_core.proofs.Uses.{tag_at-below, View, Word, word_bits, word_bits-le, word_depth, word_of, word_of-tag_at, words, ℕ, ◌∙◌}
use Rattle.std.specs.Int.Bits.{or_zero_r}
use Rattle.std.proofs.lemmas.List.{set-get_or}
use lib.Count.{ones}
use Rattle.tag_core.specs.Claims.{ClaimsPlace}
use Rattle.tag_core.proofs.Asking.{Left, left, plus_none}
use Rattle.tag_core.proofs.Holdings.{adds_acquires_one}
use Rattle.tag_core.proofs.Marking.{mask_read}
use Rattle.tag_core.proofs.OneBit.{bit_is, count_ones-pow, count_ones-zero, won_where_clear, none_where_taken}

-- the bit of a place, by an and with its mask
module _ (found k : ℕ) (low : k < 64) where
  masked : bit_and found (1 * 2 ^ k % 2 ^ 64) ≡ bit_at found k * 2 ^ k
  masked = ap (bit_and found) (one_shl k 64 low) ∙ and_pow found k

  pub taken_by : bit_and found (1 * 2 ^ k % 2 ^ 64) ≢ 0 → bit_at found k ≡ 1
  taken_by some = elim (bit_is found k) [
    | inl taken ↦ taken
    | inr clear ↦ absurd (some (masked ∙ ap (λ (x : ℕ). x * 2 ^ k) clear ∙ omega arith))
  ]

  pub clear_by : bit_and found (1 * 2 ^ k % 2 ^ 64) ≡ 0 → bit_at found k ≡ 0
  clear_by none = elim (bit_is found k) [
    | inl taken ↦ absurd (let all = masked ∙ ap (λ (x : ℕ). x * 2 ^ k) taken in let some = pow_pos k in omega arith)
    | inr clear ↦ clear
  ]

-- a place of a word of the map is one of 64
pub place_low : {R : Type 0} (m : Map R) (i place : ℕ) → place < word_depth (layout_of m) i → place < 64
place_low m i place within = let most = word_bits-le m.shape.layout m.small.1 in omega arith

-- a mask is as it was where no bit joins it
pub same_mask : (masks : List ℕ) (i bits : ℕ) → bits ≡ 0 → joined masks i bits ≡ masks
same_mask masks i bits none = ap (joined masks i) none
    ∙ ap (set masks i) (or_zero_r (get_or masks i 0)) ∙ set-get_or masks i 0

module _ {R : Type 0} (w : Caller R) (me' : Me R (View R)) (i k n : ℕ) (low : k < 64) (fits : n < 2 ^ 64)
    (did : Stepped (Word (Claimed i (1 * 2 ^ k % 2 ^ 64) n)) (record_of w) w.seat.me me') where
  claims : Stepped (Word (Claimed i (2 ^ k) n)) (record_of w) w.seat.me me'
  claims = subst (λ (z : ℕ). Stepped (Word (Claimed i z n)) (record_of w) w.seat.me me') (one_shl k 64 low) did

  -- a claim that found its place taken leaves the caller's fields
  pub left_lost : bit_at n k ≡ 1 → Left w (Word (Claimed i (2 ^ k) n)) me' w.held.items w.won w.back
  left_lost taken = let none = none_where_taken n k fits low taken in
      left w claims (same_mask w.held.items i _ none) refl
      (ap (λ (x : ℕ). w.won + count_ones x) none ∙ ap (λ (x : ℕ). w.won + x) count_ones-zero ∙ plus_none w.won)
      (plus_none w.back)

  -- one that found it clear adds the place to its word of the mask, and 1 to what the caller won
  pub left_won : bit_at n k ≡ 0 → (was : ℕ) → i < words w.shape.value.layout → was ≡ get_or w.held.items i was
      → Left w (Word (Claimed i (2 ^ k) n)) me' (slice_set w.held.items i (bit_or was (1 * 2 ^ k % 2 ^ 64)))
      (w.won + 1) w.back
  left_won clear was inside found = let all = won_where_clear n k fits low clear in
      left w claims (ap (joined w.held.items i) all
      ∙ ap (λ (z : ℕ). slice_set w.held.items i (bit_or z (2 ^ k))) (sym (mask_read w i was inside found))
      ∙ ap (λ (z : ℕ). slice_set w.held.items i (bit_or was z)) (sym (one_shl k 64 low))) refl
      (ap (λ (x : ℕ). w.won + count_ones x) all ∙ ap (λ (x : ℕ). w.won + x) (count_ones-pow k)) (plus_none w.back)

-- a claim that found its place clear brings the tag there, and no other
pub won_tag : {R : Type 0} (m : Map R) (old new : Caller R) → IsCallerOf m old → (i place found : ℕ)
    → place < word_depth (layout_of m) i → bit_at found place ≡ 0 → ClaimsPlace (layout_of m) i place found old new
    → HoldsMore (λ t. t ≡ tag_at (layout_of m) i place) old new
won_tag m old new own i place found within clear claim =
    let l = layout_of m in let u : ℕ = tag_at l i place in let low = place_low m i place within in
    let short : place < word_bits l = omega arith in
    let word : word_of old.shape.value.layout u ≡ i =
    ap (λ (k : Shape). word_of k.layout u) own.1 ∙ word_of-tag_at l i place short in
    let at : place_of old.shape.value.layout u ≡ place =
    ap (λ (k : Shape). place_of k.layout u) own.1 ∙ place_of-tag_at l i place short in
    adds_acquires_one m old new own _ claim.step u
    (subst (λ (k : Shape). u < k.layout.depth) (sym own.1) (tag_at-below l i place within))
    (λ has. let one = claim.held u has (word_of-tag_at l i place short) in
    let zero_there = ap (bit_at found) (place_of-tag_at l i place short) ∙ clear in omega arith)
    (ap (joined old.held.items i) (won_where_clear found place claim.fits low clear)
    ∙ sym (λ j. joined old.held.items (word j) (2 ^ at j)))
