-- Freeing tags one after another, with one mask for neighbours in the same word.
use Rattle.tag_script.proofs.Uses.{[], ap, arith, bit_at, bit_at-lt, bit_at-pow_other, bit_at-pow_same, bit_at-zero, bit_at_or, bit_or, Bool, eq-eqb, false, false≢true, free_at, freed, get_or, get_or-take, get_or_default_zero, is_busy, is_named, IsTaken, IsWithin, Layout, length, length-take, List, lt-ltb, MatchBool, nat_eq, nat_lt, ne_eqb, not, or_right, Plain, Pool, refl, subst, sym, tag_at, tag_at-back, take, true, word_of, ℕ, ◌∙◌}
use Rattle.std.proofs.Common.{◌≡◌, ◌≢◌, ◌+◌, ◌^◌, ◌<◌, ◌≤◌, ◌&&◌, ◌||◌}
use mathlib.Core.Logic.{dite}
use native.Mathlib.Decide.{ℕ_discrete}
use Rattle.std.proofs.lemmas.List.Folds.{list_any_more, list_any_none}
use Rattle.tag_layout.specs.Layout.{place_of}
use Rattle.tag_search.proofs.Pools.{pool_ext, or_false, and_false}
use Rattle.tag_search.proofs.OneTag.{one_place}

-- one more place is free
abbrev pub with_place : ℕ → ℕ → Pool → Pool
with_place word place p = record p { free = λ other at. p.free other at || (nat_eq other word && nat_eq at place) }

-- a mask with one more place
bits_more : (mask place at : ℕ) → place < 64
    → (nat_lt at 64 && nat_eq (bit_at (bit_or mask (2 ^ place)) at) 1)
    ≡ ((nat_lt at 64 && nat_eq (bit_at mask at) 1) || nat_eq at place)
bits_more mask place at low =
    let both = bit_at_or mask (2 ^ place) at in let before = bit_at-lt mask at in
    let was : Bool = nat_lt at 64 && nat_eq (bit_at mask at) 1 in dite (ℕ_discrete at place)
    (λ (e : at ≡ place).
    let set : bit_at (2 ^ place) at ≡ 1 = ap (bit_at (2 ^ place)) e ∙ bit_at-pow_same place in
    let one : bit_at (bit_or mask (2 ^ place)) at ≡ 1 = omega arith in
    ap (λ (b : Bool). b && nat_eq (bit_at (bit_or mask (2 ^ place)) at) 1) (lt-ltb at 64 (omega arith))
    ∙ eq-eqb (bit_at (bit_or mask (2 ^ place)) at) 1 one ∙ sym (or_right was (nat_eq at place) (eq-eqb at place e)))
    (λ (ne : at ≢ place).
    let none = bit_at-pow_other place at ne in
    let same : bit_at (bit_or mask (2 ^ place)) at ≡ bit_at mask at = omega arith in
    ap (λ (x : ℕ). nat_lt at 64 && nat_eq x 1) same ∙ sym (or_false was)
    ∙ ap (λ (b : Bool). was || b) (sym (ne_eqb at place ne)))

either : (f t a b : Bool) → (f || (t && (a || b))) ≡ ((f || (t && a)) || (t && b))
either true t a b = refl
either false true a b = refl
either false false a b = refl

and_assoc : (a b c : Bool) → ((a && b) && c) ≡ (a && (b && c))
and_assoc true b c = refl
and_assoc false b c = refl

or_assoc : (a b c : Bool) → (a || (b || c)) ≡ ((a || b) || c)
or_assoc true b c = refl
or_assoc false b c = refl

-- a mask with one more place frees that place too
pub free_more : (p : Pool) (word mask place : ℕ) → place < 64
    → free_at word (bit_or mask (2 ^ place)) p ≡ with_place word place (free_at word mask p)
free_more p word mask place low = pool_ext (free_at word (bit_or mask (2 ^ place)) p)
    (with_place word place (free_at word mask p))
    (λ other at. ap (λ (b : Bool). p.free other at || b)
    (and_assoc (nat_eq other word) (nat_lt at 64) (nat_eq (bit_at (bit_or mask (2 ^ place)) at) 1))
    ∙ ap (λ (b : Bool). p.free other at || (nat_eq other word && b)) (bits_more mask place at low)
    ∙ either (p.free other at) (nat_eq other word) (nat_lt at 64 && nat_eq (bit_at mask at) 1) (nat_eq at place)
    ∙ ap (λ (b : Bool). (p.free other at || b) || (nat_eq other word && nat_eq at place))
    (sym (and_assoc (nat_eq other word) (nat_lt at 64) (nat_eq (bit_at mask at) 1)))) (λ other at. refl)

-- a mask of 0 frees no place
pub free_none : (p : Pool) (word : ℕ) → free_at word 0 p ≡ p
free_none p word = pool_ext (free_at word 0 p) p
    (λ other at. ap (λ (b : Bool). p.free other at || b)
    (and_assoc (nat_eq other word) (nat_lt at 64) (nat_eq (bit_at 0 at) 1))
    ∙ ap (λ (x : ℕ). p.free other at || (nat_eq other word && (nat_lt at 64 && nat_eq x 1))) (bit_at-zero at)
    ∙ ap (λ (b : Bool). p.free other at || (nat_eq other word && b)) (and_false (nat_lt at 64))
    ∙ ap (λ (b : Bool). p.free other at || b) (and_false (nat_eq other word)) ∙ or_false (p.free other at))
    (λ other at. refl)

-- a mask of one place frees that place only
pub free_one : (p : Pool) (word place : ℕ) → place < 64 → free_at word (2 ^ place) p ≡ with_place word place p
free_one p word place low = free_more p word 0 place low ∙ ap (with_place word place) (free_none p word)

-- an empty list frees nothing
pub freed_none : (l : Layout) (p : Pool) → freed l [] p ≡ p
freed_none l p = pool_ext (freed l [] p) p (λ other at. or_false (p.free other at)) (λ other at. refl)

module _ (l : Layout) (tags : List ℕ) (i : ℕ) (p : Pool) (within : i < length tags) where
  -- one more tag
  pub freed_more : freed l (take (i + 1) tags) p
      ≡ with_place (word_of l (get_or tags i 0)) (place_of l (get_or tags i 0)) (freed l (take i tags) p)
  freed_more =
      let tag = get_or tags i 0 in
      pool_ext (freed l (take (i + 1) tags) p) (with_place (word_of l tag) (place_of l tag) (freed l (take i tags) p))
      (λ other at. ap (λ (b : Bool). p.free other at || b)
      (list_any_more (λ (t : ℕ). nat_eq other (word_of l t) && nat_eq at (place_of l t)) tags i 0 within)
      ∙ or_assoc (p.free other at) (is_named l (take i tags) other at)
      (nat_eq other (word_of l tag) && nat_eq at (place_of l tag))) (λ other at. refl)

apart : (l : Layout) (a b : ℕ) → a ≢ b → (nat_eq (word_of l b) (word_of l a) && nat_eq (place_of l b) (place_of l a))
    ≡ false
apart l a b differ = dite (ℕ_discrete (word_of l b) (word_of l a))
    (λ (e : word_of l b ≡ word_of l a). dite (ℕ_discrete (place_of l b) (place_of l a))
    (λ (f : place_of l b ≡ place_of l a). absurd
    (differ (sym (tag_at-back l a) ∙ (λ z. tag_at l (sym e z) (sym f z)) ∙ tag_at-back l b)))
    (λ ne. ap (λ (t : Bool). nat_eq (word_of l b) (word_of l a) && t) (ne_eqb (place_of l b) (place_of l a) ne)
    ∙ and_false (nat_eq (word_of l b) (word_of l a))))
    (λ ne. ap (λ (t : Bool). t && nat_eq (place_of l b) (place_of l a)) (ne_eqb (word_of l b) (word_of l a) ne))

-- a tag that differs from the earlier ones is still held after they are freed
pub still_held : (l : Layout) (tags : List ℕ) (i : ℕ) (p : Pool) → i ≤ length tags → (tag : ℕ)
    → ((j : ℕ) → j < i → get_or tags j 0 ≢ tag)
    → is_busy p (word_of l tag) (place_of l tag) ≡ true
    → is_busy (freed l (take i tags) p) (word_of l tag) (place_of l tag) ≡ true
still_held l tags i p within tag differ held =
    let free = p.free (word_of l tag) (place_of l tag) in let aside = p.aside (word_of l tag) (place_of l tag) in
    let none : is_named l (take i tags) (word_of l tag) (place_of l tag) ≡ false =
    list_any_none (λ (t : ℕ). nat_eq (word_of l tag) (word_of l t) && nat_eq (place_of l tag) (place_of l t))
    (take i tags) (λ k d h.
    let less : k < i = omega (arith, length-take i tags) in
    ap (λ (t : ℕ). nat_eq (word_of l tag) (word_of l t) && nat_eq (place_of l tag) (place_of l t))
    (get_or-take i tags k d less ∙ get_or_default_zero tags k d (omega arith))
    ∙ apart l (get_or tags k 0) tag (differ k less)) in
    ap (λ (b : Bool). not ((free || b) || aside)) none ∙ ap (λ (b : Bool). not (b || aside)) (or_false free) ∙ held

less_free : (f x a : Bool) → not ((f || x) || a) ≡ true → not (f || a) ≡ true
less_free true x a h = h
less_free false true a h = absurd (false≢true h)
less_free false false a h = h

-- what is held after more places are freed was held before
pub held_before : (p : Pool) (word mask i k : ℕ) → is_busy (free_at word mask p) i k ≡ true → is_busy p i k ≡ true
held_before p word mask i k h = less_free (p.free i k) ((nat_eq i word && nat_lt k 64) && nat_eq (bit_at mask k) 1)
    (p.aside i k) h

module _ (q : Plain) (word place : ℕ) (here : IsTaken q word place) where
  -- the places of a mask with one more place are taken
  pub taken_more : (mask : ℕ) → ((at : ℕ) → bit_at mask at ≡ 1 → IsTaken q word at) → (at : ℕ)
      → bit_at (bit_or mask (2 ^ place)) at ≡ 1 → IsTaken q word at
  taken_more mask all at one = dite (ℕ_discrete at place)
      (λ (e : at ≡ place). subst (IsTaken q word) (sym e) here)
      (λ (ne : at ≢ place). let both = bit_at_or mask (2 ^ place) at in
      let none = bit_at-pow_other place at ne in all at (omega arith))

  -- the place of a mask of one bit is taken
  pub taken_one : (at : ℕ) → bit_at (2 ^ place) at ≡ 1 → IsTaken q word at
  taken_one at one = subst (IsTaken q word) (sym (one_place place at one)) here

-- the same, with equal words and masks
pub taken_as : (q q' : Plain) (w w' m m' : ℕ) → q' ≡ q → w' ≡ w → m' ≡ m → ((at : ℕ) → bit_at m at ≡ 1 → IsTaken q w at)
    → (at : ℕ) → bit_at m' at ≡ 1 → IsTaken q' w' at
taken_as q q' w w' m m' e f g all at one =
    subst (λ (x : Plain). IsTaken x w' at) (sym e)
    (subst (λ (x : ℕ). IsTaken q x at) (sym f) (all at (sym (ap (λ (x : ℕ). bit_at x at) g) ∙ one)))

pub within_as : (l : Layout) (w w' m m' : ℕ) → w' ≡ w → m' ≡ m → IsWithin l w m → IsWithin l w' m'
within_as l w w' m m' f g h = subst (λ (x : ℕ). IsWithin l x m') (sym f) (subst (λ (x : ℕ). IsWithin l w x) (sym g) h)

-- the value of a test selects the case that holds
pub match_bool : (A B : Type 0) (b : Bool) → (b ≡ true → A) → (b ≡ false → B) → MatchBool b A B
match_bool A B true f g = f refl
match_bool A B false f g = g refl

pub if_true : (A B : Type 0) (b : Bool) → b ≡ true → MatchBool b A B → A
if_true A B true e h = h
if_true A B false e h = absurd (false≢true e)

pub if_false : (A B : Type 0) (b : Bool) → b ≡ false → MatchBool b A B → B
if_false A B false e h = h
if_false A B true e h = absurd (false≢true (sym e))
