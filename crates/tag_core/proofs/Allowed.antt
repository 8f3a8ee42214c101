-- Each kind of step is allowed by the rule.
use Rattle.std.specs.Prelude.{◌%◌, ◌+◌, ◌-◌, ◌<◌, ◌^◌, ◌∷◌, ◌≡◌, ◌≤◌, ◌⊎◌}
use Rattle.tag_core.proofs.Uses.{Act, Allows, ap, arith, Bell, BellStep, bit_at, bit_or, carried_after, Carries, Claimed, claimed, count_ones, event_of, FindsHeld, gave, get_elem?, get_or, Give, held, homes_after, inl, IsKnown, IsWithin, last_post}
use Rattle.tag_core.proofs.Uses.{Layout, length, List, Look, LookAside, looked, looked_aside, Me, MOST_WON, none, or_lt, own_view, Place, place_after, place_of, posted, posted_by, Put, put_aside, Record, record_after, refl, same_record, set, set-get_or, Shape, Shown, some}
use Rattle.tag_core.proofs.Uses.{Spill, spilled, State, Step, step, Stepped, subst, Swap, swapped, sym, tag_bit, Valid, value_of, View, Word, word_depth, word_of, word_of-below, words, world_of, ℕ, ◌∙◌}
use mathlib.Core.Option as maybe
use Rattle.tag_core.specs.declared.word_step.WordStep.{WordStep}
use Rattle.tag_core.specs.Spacing.{word_at, aside_at}
use Rattle.tag_core.proofs.Picks.{among, placed}
use Rattle.tag_core.proofs.TagBits.{small_word, among_here}
use Rattle.tag_core.proofs.Owing.{claim_owed, give_owed, look_owed, look_aside_owed, held_shown}
use Rattle.tag_core.proofs.OwingTags.{put_owed, swap_owed, swept_taken, spill_owed}
use Rattle.tag_core.proofs.Masks.{add_bit, take_bits}
use Rattle.tag_core.proofs.Stand.{bit_tag, word_at_one, aside_at_one, tag_mask_within}
use Rattle.tag_core.proofs.Advance.{Owed}
use Rattle.tag_core.proofs.Moving.{moved, kept, told}

-- the step posts no tag
abbrev pub PostsNone : {R : Type 0} → Layout → ℕ → Step R → Type 0
PostsNone {R} l c st = (t : ℕ) → ((q : Place) → place_after l (event_of l c st) t q ≡ posted → q ≡ posted)
    × ((before : maybe.Option R) → posted_by t st before ≡ before)

-- a step on a word posts none
pub word_posts_none : {R : Type 0} (l : Layout) (c : ℕ) (st : WordStep) → PostsNone {R = R} l c (Word st)
word_posts_none l c st t = ((λ q e. grind arith), λ before. refl)

-- nor does one by which callers wait
pub bell_posts_none : {R : Type 0} (l : Layout) (c : ℕ) (st : BellStep) → PostsNone {R = R} l c (Bell st)
bell_posts_none l c st t = ((λ q e. grind arith), λ before. refl)

module _ (R : Type 0) (k : Shape) (narrow : k.layout.shift ≤ 6) (id : ℕ) (me : Me R (View R)) (r : Record R)
    (mine : me.0 ≡ own_view r) (carries : Carries k.layout r.held me.1) where
  -- how the posted tags come about
  abbrev pub Posts : (s : State R (View R)) (sh : Shown k s) → Step R → Type 0
  Posts s sh st = (t : ℕ) → t < k.layout.depth
      → placed k.layout (event_of k.layout r.number st) (world_of k sh.history).place t ≡ posted
      → (((world_of k sh.history).place t ≡ posted)
      × (last_post t ((r.number, st) ∷ sh.history) ≡ last_post t sh.history))
      ⊎ (((world_of k sh.history).place t ≡ held r.number)
      × (last_post t ((r.number, st) ∷ sh.history) ≡ value_of me.1 t))

  abbrev pub Answer : (s : State R (View R)) → Step R → List ℕ → Type 0
  Answer s st words' = (w : View R) × (a : Act R) × Valid s.homes me.1 a × Shown k record
      { words = words'; homes = homes_after s.homes me.1 a; views = set s.views id w }
      × Stepped st r me (w, carried_after me.1 a) × (length (homes_after s.homes me.1 a) ≡ length s.homes)

  module _ (s : State R (View R)) (sh : Shown k s) (deep : length s.homes ≡ k.layout.depth)
      (at : get_elem? s.views id ≡ some me.0) where
    abbrev here : get_elem? s.views id ≡ some (own_view r)
    here = at ∙ ap some mine

    pub ok : IsKnown k sh.history r
    ok = (sh.records id (own_view r) here 0 r refl).0

    unfoldable pub answer : (st : Step R) (words' : List ℕ) → Owed R k s sh r st words' → Posts s sh st → Answer s st words'
    answer st words' owed posts = let go = moved R k s sh r st words' owed ok me.1 carries deep in (
      own_view (record_after st r),
      go.act,
      go.valid,
      kept R k s sh r st words' owed ok me.1 carries deep posts id here,
      told R k s sh r st words' owed ok me.1 carries deep posts id here me refl,
      go.long,
    )

  -- a step that leaves the words owes the same where one of them is set to what it is
  pub unchanged : (s : State R (View R)) (sh : Shown k s) (i : ℕ) {st : Step R} → Owed R k s sh r st s.words
      → Owed R k s sh r st (set s.words i (get_or s.words i 0))
  unchanged s sh i {st} = subst (λ (ws : List ℕ). Owed R k s sh r st ws) (sym (set-get_or s.words i 0))

  -- what holds of this place and this record holds of the same under other names
  pub renamed : (fact : ℕ → Record R → Type 0) {i i' : ℕ} → i ≡ i' → (r' : Record R) → me.0 ≡ own_view r' → fact i r → fact i' r'
  renamed fact same r' is = subst (λ (x : ℕ × Record R). fact x.0 x.1)
      (λ j. (same j, same_record r r' (sym mine ∙ is) j))

  -- what a look finds of the tags that are held
  pub found_held : (s : State R (View R)) (sh : Shown k s) → IsKnown k sh.history r → (i : ℕ)
      → FindsHeld r i (get_or s.words (word_at i) 0) 1 × FindsHeld r i (get_or s.words (aside_at i) 0) 0
  found_held s sh o i = let same : k.layout ≡ r.shape.layout = ap (λ (z : Shape). z.layout) (sym o.shape) in
      subst (λ (z : Layout).
      ((t : ℕ) → t < z.depth → word_of z t ≡ i → tag_bit z r.held t ≡ 1
      → bit_at (get_or s.words (word_at i) 0) (place_of z t) ≡ 1)
      × ((t : ℕ) → t < z.depth → word_of z t ≡ i → tag_bit z r.held t ≡ 1
      → bit_at (get_or s.words (aside_at i) 0) (place_of z t) ≡ 0)) same (
        (λ t l e has. ap (λ (j : ℕ). bit_at (get_or s.words (word_at j) 0) (place_of k.layout t)) (sym e)
            ∙ (held_shown R k narrow s sh r o t l has).0),
        (λ t l e has. ap (λ (j : ℕ). bit_at (get_or s.words (aside_at j) 0) (place_of k.layout t)) (sym e)
            ∙ (held_shown R k narrow s sh r o t l has).1),
      )

  -- a step on the word that `at` gives for i is allowed where this is owed, and tells what follows from it
  pub allowed_of : (at : ℕ → ℕ) → ((i j : ℕ) → at i ≡ at j → i ≡ j) → (i : ℕ) (f : ℕ → ℕ) (st : ℕ → Record R → ℕ → Step R)
      (tells : ℕ → Record R → ℕ → Me R (View R) → Type 0) → ((n : ℕ) → PostsNone k.layout r.number (st i r n))
      → ((s : State R (View R)) (sh : Shown k s) → IsKnown k sh.history r
      → Owed R k s sh r (st i r (get_or s.words (at i) 0)) (set s.words (at i) (f (get_or s.words (at i) 0)))
      × ((me' : Me R (View R)) → Stepped (st i r (get_or s.words (at i) 0)) r me me'
      → tells i r (get_or s.words (at i) 0) me'))
      → Allows (Shown k) k.layout.depth id me (at i) f
      (λ n me'. (i' : ℕ) (r' : Record R) → at i ≡ at i' → me.0 ≡ own_view r' → tells i' r' n me')
  allowed_of at one i f st tells silent owes s sh deep there _ =
      let n : ℕ = get_or s.words (at i) 0 in let owed = owes s sh (ok s sh deep there) in
      let z = answer s sh deep there (st i r n) (set s.words (at i) (f n)) owed.0
      (λ t l e. inl ((silent n t).0 _ e, (silent n t).1 _)) in (
        z.0,
        z.1,
        z.2,
        z.3,
        λ i' r' ei er. renamed (λ x y. tells x y n (z.0, carried_after me.1 z.1)) (one i i' ei) r' er
            (owed.1 (z.0, carried_after me.1 z.1) z.4),
      )

  allowed : (at : ℕ → ℕ) → ((i j : ℕ) → at i ≡ at j → i ≡ j) → (i : ℕ) (f : ℕ → ℕ) (st : ℕ → Record R → ℕ → WordStep)
      (tells : ℕ → Record R → ℕ → Me R (View R) → Type 0)
      → ((s : State R (View R)) (sh : Shown k s) → IsKnown k sh.history r
      → Owed R k s sh r (Word (st i r (get_or s.words (at i) 0))) (set s.words (at i) (f (get_or s.words (at i) 0)))
      × ((me' : Me R (View R)) → Stepped (Word (st i r (get_or s.words (at i) 0))) r me me'
      → tells i r (get_or s.words (at i) 0) me'))
      → Allows (Shown k) k.layout.depth id me (at i) f
      (λ n me'. (i' : ℕ) (r' : Record R) → at i ≡ at i' → me.0 ≡ own_view r' → tells i' r' n me')
  allowed at one i f st tells = allowed_of at one i f (λ i r n. Word (st i r n)) tells
      (λ n. word_posts_none k.layout r.number (st i r n))

  -- a load of a word
  pub look_allowed : (i : ℕ) → i < words k.layout
      → Allows (Shown k) k.layout.depth id me (word_at i) (λ n. n)
      (looked (step k.layout.depth (word_at i) 0 0 none) me)
  look_allowed i inside = allowed word_at word_at_one i (λ n. n) (λ i r n. Look i n)
      (λ i r n me'. Stepped (Word (Look i n)) r me me' × FindsHeld r i n 1) (λ s sh o. (
        unchanged s sh (word_at i) (look_owed R k narrow s sh r o i inside),
        λ me' did. (did, (found_held s sh o i).0),
      ))

  -- a load of a cleared set
  pub look_aside_allowed : (i : ℕ) → i < words k.layout
      → Allows (Shown k) k.layout.depth id me (aside_at i) (λ n. n)
      (looked_aside (step k.layout.depth (aside_at i) 0 0 none) me)
  look_aside_allowed i inside = allowed aside_at aside_at_one i (λ n. n) (λ i r n. LookAside i n)
      (λ i r n me'. Stepped (Word (LookAside i n)) r me me' × FindsHeld r i n 0) (λ s sh o. (
        unchanged s sh (aside_at i) (look_aside_owed R k narrow s sh r o i inside),
        λ me' did. (did, (found_held s sh o i).1),
      ))

  -- an or of a word
  pub claim_allowed : (i m : ℕ) → i < words k.layout → IsWithin k.layout i m → r.won + count_ones m ≤ MOST_WON
      → Allows (Shown k) k.layout.depth id me (word_at i) (λ n. bit_or n m)
      (claimed (step k.layout.depth (word_at i) m 0 none) me)
  claim_allowed i m inside fits room =
      allowed word_at word_at_one i (λ n. bit_or n m) (λ i r n. Claimed i m n)
      (λ i r n me'. Stepped (Word (Claimed i m n)) r me me' × FindsHeld r i n 1) (λ s sh o. (
        claim_owed R k narrow s sh r o i m inside fits room,
        λ me' did. (did, (found_held s sh o i).0),
      ))

  -- what a word is, is below 2^64
  word_fits : (s : State R (View R)) (sh : Shown k s) (i : ℕ) → i < words k.layout → get_or s.words (word_at i) 0 < 2 ^ 64
  word_fits s sh i inside = small_word k narrow i _ (subst (λ (x : ℕ). x < 2 ^ word_depth k.layout i)
      (sym (sh.cells.word i inside)) (sh.cells.word_within i inside))

  -- a word less a mask of held tags, all of which are taken
  pub give_allowed : (i m : ℕ) → i < words k.layout → IsWithin k.layout i m → m < 2 ^ 64
      → ((t : ℕ) → t < k.layout.depth → among k.layout.shift i m t ≡ 1 → tag_bit k.layout r.held t ≡ 1)
      → Allows (Shown k) k.layout.depth id me (word_at i) (λ n. (n + (2 ^ 64 - m)) % 2 ^ 64)
      (gave (step k.layout.depth (word_at i) m 0 none) me)
  give_allowed i m inside low fits has =
      allowed word_at word_at_one i (λ n. (n + (2 ^ 64 - m)) % 2 ^ 64) (λ i r n. Give i m n)
      (λ i r n me'. Stepped (Word (Give i m n)) r me me') (λ s sh o.
      let n : ℕ = get_or s.words (word_at i) 0 in (
        subst (λ (x : ℕ). Owed R k s sh r (Word (Give i m n)) (set s.words (word_at i) x))
            (sym (take_bits n m (word_fits s sh i inside) fits (taken s sh o)))
            (give_owed R k narrow s sh r o i m inside low fits has),
        λ me' did. did,
      ))
    where
      taken : (s : State R (View R)) (sh : Shown k s) → IsKnown k sh.history r → (b : ℕ) → bit_at m b ≡ 1
          → bit_at (get_or s.words (word_at i) 0) b ≡ 1
      taken s sh o b one = let tag = bit_tag k.layout i m b low one in let t : ℕ = tag.0 in
          let named : among k.layout.shift i m t ≡ 1 =
          sym (among_here k narrow i m t tag.2) ∙ ap (bit_at m) tag.3 ∙ one in
          sym (λ j. bit_at (get_or s.words (word_at (tag.2 j)) 0) (tag.3 j))
          ∙ (held_shown R k narrow s sh r o t tag.1 (has t tag.1 named)).0

  -- a swap of a cleared set
  pub swap_allowed : (i : ℕ) → i < words k.layout
      → Allows (Shown k) k.layout.depth id me (aside_at i) (λ _. 0)
      (swapped (step k.layout.depth (aside_at i) 0 0 none) me)
  swap_allowed i inside = allowed aside_at aside_at_one i (λ _. 0) (λ i r n. Swap i n)
      (λ i r n me'. Stepped (Word (Swap i n)) r me me') (λ s sh o. (
        swap_owed R k narrow s sh r o i inside,
        λ me' did. did,
      ))

  -- a word less what was swept, all of which is taken
  pub spill_allowed : (i : ℕ) → i < words k.layout → get_or r.swept i 0 < 2 ^ 64
      → Allows (Shown k) k.layout.depth id me (word_at i) (λ n. (n + (2 ^ 64 - get_or r.swept i 0)) % 2 ^ 64)
      (spilled (step k.layout.depth (word_at i) (get_or r.swept i 0) 0 none) me)
  spill_allowed i inside fits = let m : ℕ = get_or r.swept i 0 in
      allowed word_at word_at_one i (λ n. (n + (2 ^ 64 - m)) % 2 ^ 64) (λ i r n. Spill i (get_or r.swept i 0) n)
      (λ i r n me'. Stepped (Word (Spill i (get_or r.swept i 0) n)) r me me')
      (λ s sh o. let n : ℕ = get_or s.words (word_at i) 0 in (
        subst (λ (x : ℕ). Owed R k s sh r (Word (Spill i m n)) (set s.words (word_at i) x))
            (sym (take_bits n m (word_fits s sh i inside) fits (swept_taken R k narrow s sh r o i inside)))
            (spill_owed R k narrow s sh r o i inside fits),
        λ me' did. did,
      ))

  -- a sum of a cleared set and a held tag's bit, which is clear there
  pub put_allowed : (u : ℕ) → u < k.layout.depth → tag_bit k.layout r.held u ≡ 1
      → Allows (Shown k) k.layout.depth id me (aside_at (word_of k.layout u)) (λ n. (n + 2 ^ place_of k.layout u) % 2 ^ 64)
      (put_aside (step k.layout.depth (aside_at (word_of k.layout u)) (2 ^ place_of k.layout u) 0 none) me)
  put_allowed u lu has = let i : ℕ = word_of k.layout u in let m : ℕ = 2 ^ place_of k.layout u in
      allowed aside_at aside_at_one i (λ n. (n + m) % 2 ^ 64) (λ i r n. Put i m n)
      (λ i r n me'. Stepped (Word (Put i m n)) r me me') (λ s sh o.
      let n : ℕ = get_or s.words (aside_at i) 0 in (
        subst (λ (x : ℕ). Owed R k s sh r (Word (Put i m n)) (set s.words (aside_at i) x))
            (sym (add_bit n (place_of k.layout u) (held_shown R k narrow s sh r o u lu has).1 (fits s sh u lu)))
            (put_owed R k narrow s sh r o u lu has),
        λ me' did. did,
      ))
    where
      fits : (s : State R (View R)) (sh : Shown k s) (u : ℕ) → u < k.layout.depth
          → bit_or (get_or s.words (aside_at (word_of k.layout u)) 0) (2 ^ place_of k.layout u) < 2 ^ 64
      fits s sh u lu = let i : ℕ = word_of k.layout u in let inside = word_of-below k.layout u lu in
          small_word k narrow i _ (subst (λ (x : ℕ). bit_or x (2 ^ place_of k.layout u) < 2 ^ word_depth k.layout i)
          (sym (sh.cells.aside i inside))
          (or_lt (word_depth k.layout i) _ _ (sh.cells.aside_within i inside) (tag_mask_within k.layout u lu)))
