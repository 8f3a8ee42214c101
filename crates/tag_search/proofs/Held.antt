-- If no place is both free and set aside, the answer of a choice is held afterwards, and still no place is both.
use Rattle.std.specs.Prelude.{◌&&◌, ◌+◌, ◌<◌, ◌||◌, ◌∷◌, ◌≡◌, ◌≤◌}
use Rattle.tag_search.proofs.Uses.{AddsSteps, All, arith, batch, batch_words, Bool, chosen_aside, chosen_free, eq-eqb, false, freed_in, HoldsRun, is_available, is_in, IsApart, IsAvailable, IsBatchChoice, IsBatchGet, IsBusy, IsChoice, IsGet, IsHeld, Layout, le-leb, List, lt-ltb, nat_eq, nat_le}
use Rattle.tag_search.proofs.Uses.{nat_lt, no_batch, not, nothing, Option, place_of-tag_at, Plain, plain_words, Pool, pool_of, Quiet, Reach, refl, RunsAlone, subst, sym, tag_at, taken_at, taken_in, true, Visit, visits, word_bits, word_depth, word_of-tag_at, Words, words, words_after_all, words_in}
use Rattle.tag_search.proofs.Uses.{WordStep, ℕ, ◌∙◌}
use Rattle.std.proofs.Common.{IfSome}
use Rattle.tag_search.proofs.Inside.{IsInside, place_inside, visits_inside}
use Rattle.tag_search.proofs.Pools.{and_false}

freed_bits : (f a x : Bool) → (f && a) ≡ false → ((f || (x && a)) && (not x && a)) ≡ false
freed_bits f a true e = and_false (f || a)
freed_bits true a false e = e
freed_bits false a false e = refl

taken_bits : (f a t : Bool) → (f && a) ≡ false → ((f && t) && a) ≡ false
taken_bits true a true e = e
taken_bits true a false e = refl
taken_bits false a t e = refl

-- freeing keeps the two sets disjoint
apart_freed : (xs : List ℕ) (p : Pool) → IsApart p → IsApart (freed_in xs p)
apart_freed xs p apart i k = freed_bits (p.free i k) (p.aside i k) (is_in i xs) (apart i k)

apart_taken : (i : ℕ) (these : ℕ → Bool) (p : Pool) → IsApart p → IsApart (taken_in i these p)
apart_taken i these p apart j k = taken_bits (p.free j k) (p.aside j k) (not (nat_eq j i && these k)) (apart j k)

held_bits : (f a b t : Bool) → (f && a) ≡ false → f ≡ true → b ≡ true → t ≡ true → ((f && not (b && t)) || a) ≡ false
held_bits true a true true e free here is = e
held_bits false a b t e free here is = absurd (let no : false ≡ true = free in cc)
held_bits true a false t e free here is = absurd (let no : false ≡ true = here in cc)
held_bits true a true false e free here is = absurd (let no : false ≡ true = is in cc)

-- a free place that is taken is held
taken_busy : (i : ℕ) (these : ℕ → Bool) (p : Pool) (k : ℕ) → IsApart p → p.free i k ≡ true → these k ≡ true
    → IsBusy (taken_in i these p) i k
taken_busy i these p k apart free is = held_bits (p.free i k) (p.aside i k) (nat_eq i i) (these k) (apart i k) free
    (eq-eqb i i refl) is

available_bits : (f a b c : Bool) → b ≡ true → (f || a) ≡ true → (f || ((b || c) && a)) ≡ true
available_bits true a b c here e = refl
available_bits false a true c here e = e
available_bits false a false c here e = absurd (let no : false ≡ true = here in cc)

-- an available place is free once its word is freed
free_after : (i : ℕ) (xs : List ℕ) (p : Pool) (k : ℕ) → IsAvailable p i k → (freed_in (i ∷ xs) p).free i k ≡ true
free_after i xs p k e = available_bits (p.free i k) (p.aside i k) (nat_eq i i) (is_in i xs) (eq-eqb i i refl) e

or_left : (f a : Bool) → f ≡ true → (f || a) ≡ true
or_left true a e = refl
or_left false a e = absurd (let no : false ≡ true = e in cc)

or_right : (f a : Bool) → a ≡ true → (f || a) ≡ true
or_right true a e = refl
or_right false a e = e

-- the tag at a place that is held
held_at : (l : Layout) (p : Pool) (i k : ℕ) → k < word_depth l i → IsBusy p i k → IsHeld l p (tag_at l i k)
held_at l p i k h busy = let small : k < word_bits l = omega arith in
    (λ z. is_available p (word_of-tag_at l i k small z) (place_of-tag_at l i k small z)) ∙ busy

-- a free place that is taken: the two sets stay disjoint, and its tag is held
place_held : (l : Layout) (p : Pool) (i k : ℕ) → IsApart p → p.free i k ≡ true → k < word_depth l i
    → IsApart (taken_at i k p) × IsHeld l (taken_at i k p) (tag_at l i k)
place_held l p i k apart free low = (
  apart_taken i (nat_eq k) p apart,
  held_at l (taken_at i k p) i k low (taken_busy i (nat_eq k) p k apart free (eq-eqb k k refl)),
)

choice_held : {l : Layout} {old : Pool} {vs : List Visit} {answer : Option ℕ} {new : Pool}
    → IsChoice l old vs answer new → IsApart old → All (IsInside l) vs
    → IsApart new × IfSome answer (IsHeld l new)
choice_held {old = old} (nothing {visits = vs} all) apart inside = (apart_freed (words_in vs) old apart, tt)
choice_held {l = l} {old = old} (chosen_free full behind visit {place = place} all first) apart inside =
    let words = words_in full in
    place_held l (freed_in words old) visit.word place (apart_freed words old apart)
    (or_left (old.free visit.word place) (is_in visit.word words && old.aside visit.word place) first.is)
    (place_inside l full behind visit first.before first.behind place first.order inside)
choice_held {l = l} {old = old} (chosen_aside full behind visit {place = place} all set first) apart inside =
    let words = words_in full in
    place_held l (freed_in (visit.word ∷ words) old) visit.word place (apart_freed (visit.word ∷ words) old apart)
    (free_after visit.word words old place
    (or_right (old.free visit.word place) (old.aside visit.word place) first.is))
    (place_inside l full behind visit first.before first.behind place first.order inside)

batch_held : {l : Layout} {n : ℕ} {old : Pool} {is : List ℕ} {answer : Option (ℕ × ℕ)} {new : Pool}
    → IsBatchChoice l n old is answer new → IsApart old
    → IsApart new × IfSome answer (HoldsRun l new)
batch_held {old = old} (no_batch {words = is} all) apart = (apart_freed is old apart, tt)
batch_held {l = l} {n = n} {old = old} (batch passed behind word {place = place} {bits = bits} all run) apart =
    let p : Pool = freed_in (word ∷ passed) old in let apart' = apart_freed (word ∷ passed) old apart in
    let these : ℕ → Bool = λ k. nat_le place k && nat_lt k (place + n) in let fits = run.fits in (
      apart_taken word these p apart',
      λ k one. let is = (run.won k).0 one in let high = is.0 in
          let e : tag_at l word place + k ≡ tag_at l word (place + k) = omega arith in
          let here : these (place + k) ≡ true = λ z. le-leb place (place + k) (omega arith) z && lt-ltb (place + k)
          (place + n) (omega arith) z in
          subst (IsHeld l (taken_in word these p)) (sym e)
          (held_at l (taken_in word these p) word (place + k) (omega arith)
          (taken_busy word these p (place + k) apart' (free_after word passed old (place + k) is.1) here)),
    )

-- a change that quiet steps make to any pool, steps that ran alone make to that of the words
ran_changes : (Change : Pool → Pool → Type 0) (p q : Plain) (steps : List WordStep) → RunsAlone p steps q
    → ((w : Words) → Quiet steps w → Change (pool_of w) (pool_of (words_after_all steps w)))
    → Change (pool_of (plain_words p)) (pool_of (plain_words q))
ran_changes Change p q steps ran quietly =
    subst (λ (w : Words). Change (pool_of (plain_words p)) (pool_of w)) (sym ran.leaves)
    (quietly (plain_words p) ran.quiet)

-- after a get over plain words its tag is held
pub get_held : (l : Layout) (first : ℕ) (reach : Reach) (p q : Plain) (answer : Option ℕ)
    → ((i : ℕ) → i < words l → reach.limit i ≤ word_depth l i)
    → AddsSteps RunsAlone p q (IsGet l (visits l first reach) answer) → IsApart (pool_of (plain_words p))
    → let left = pool_of (plain_words q) in IsApart left × IfSome answer (IsHeld l left)
get_held l first reach p q answer within made apart =
    choice_held (ran_changes (λ old new. IsChoice l old (visits l first reach) answer new) p q made.steps made.added
    made.holds.alone) apart (visits_inside l first reach within)

-- after a batch get its tags are held
pub batch_get_held : (l : Layout) (n first : ℕ) (p q : Plain) (answer : Option (ℕ × ℕ))
    → AddsSteps RunsAlone p q (IsBatchGet l n first answer) → IsApart (pool_of (plain_words p))
    → let left = pool_of (plain_words q) in IsApart left × IfSome answer (HoldsRun l left)
batch_get_held l n first p q answer made apart =
    batch_held (ran_changes (λ old new. IsBatchChoice l n old (batch_words l first) answer new) p q made.steps
    made.added made.holds.alone) apart
