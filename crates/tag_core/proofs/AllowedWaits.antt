-- Each kind of step by which callers wait is allowed by the rule.
use Rattle.std.specs.Prelude.{◌%◌, ◌+◌, ◌-◌, ◌/◌, ◌<◌, ◌^◌, ◌≡◌, ◌≤◌}
use Rattle.tag_core.proofs.Uses.{Allows, Bell, BellStep, berth_of, berth_word, bit_and, bit_of, bit_or, Carries, either, Enlist, enlisted, Enter, entered, eqb, get_or, GetUp, got_up, HasTaken, IsIn, IsKnown, Leave, Listed, LookAll, LookAt, looked_all, looked_at, MAX_CALLERS, Me, none, own_view, Record}
use Rattle.tag_core.proofs.Uses.{set, Shape, Shown, State, step, Stepped, subst, TakeTurn, Tell, Told, turn_taken, View, Waiter, waits_as, without, ℕ}
use Rattle.tag_core.specs.Plays as plays
use Rattle.tag_core.specs.Spacing.{bell_at, berth_at, clock_at, waiters_at}
use Rattle.tag_core.proofs.Advance.{Owed}
use Rattle.tag_core.proofs.Allowed.{allowed_of, bell_posts_none}
use Rattle.tag_core.proofs.Berths.{listed-one}
use Rattle.tag_core.proofs.Listing.{enlist_owed, enter_owed, get_up_owed, leave_owed, look_all_owed, look_at_owed, tell_owed, turn_owed}
use Rattle.tag_core.proofs.Stand.{bell_at_one, berth_at_one}

module _ (R : Type 0) (k : Shape) (narrow : k.layout.shift ≤ 6) (id : ℕ) (me : Me R (View R)) (r : Record R)
    (mine : me.0 ≡ own_view r) (carries : Carries k.layout r.held me.1) (low : r.number < MAX_CALLERS) where
  -- a step on the word that `at` gives for i is allowed where it is owed, and tells what follows from it
  rung : (at : ℕ → ℕ) → ((i j : ℕ) → at i ≡ at j → i ≡ j) → (i : ℕ) (f : ℕ → ℕ) (st : ℕ → Record R → ℕ → BellStep)
      → ((s : State R (View R)) (sh : Shown k s) → IsKnown k sh.history r
      → Owed R k s sh r (Bell (st i r (get_or s.words (at i) 0))) (set s.words (at i) (f (get_or s.words (at i) 0))))
      → (then : ℕ → Me R (View R) → Type 0) → ((n : ℕ) (me' : Me R (View R))
      → ((j : ℕ) (q : Record R) → at i ≡ at j → me.0 ≡ own_view q → Stepped (Bell (st j q n)) q me me') → then n me')
      → Allows (Shown k) k.layout.depth id me (at i) f then
  rung at one i f st owes then tells s sh deep here fits = let z = allowed_of R k narrow id me r mine carries at one i f
      (λ i r n. Bell (st i r n)) (λ i r n me'. Stepped (Bell (st i r n)) r me me')
      (λ n. bell_posts_none k.layout r.number (st i r n)) (λ s sh o. (owes s sh o, λ me' did. did)) s sh deep here fits in
      (z.0, z.1, z.2, z.3, tells _ _ z.4)

  -- an or of the word of all who wait and the caller's bit
  pub enter_allowed : Allows (Shown k) k.layout.depth id me waiters_at (λ n. bit_or n (bit_of r.number))
      (entered (step k.layout.depth waiters_at (bit_of r.number) 0 none) me)
  enter_allowed = rung bell_at bell_at_one 0 (λ n. bit_or n (bit_of r.number)) (λ i q n. Enter q.number n)
      (λ s sh o. enter_owed R k narrow s sh r o low)
      (entered (step k.layout.depth waiters_at (bit_of r.number) 0 none) me) (λ n me' tells. tells 0)

  -- an and of it and the complement of that bit
  pub leave_allowed : waits_as r.steps ≡ none
      → Allows (Shown k) k.layout.depth id me waiters_at (λ n. bit_and n (2 ^ 64 - 1 - bit_of r.number))
      (plays.left (step k.layout.depth waiters_at (2 ^ 64 - 1 - bit_of r.number) 0 none) me)
  leave_allowed out = rung bell_at bell_at_one 0 (λ n. without n (bit_of r.number)) (λ i q n. Leave q.number n)
      (λ s sh o. leave_owed R k narrow s sh r o low out)
      (plays.left (step k.layout.depth waiters_at (2 ^ 64 - 1 - bit_of r.number) 0 none) me) (λ n me' tells. tells 0)

  -- a load of it
  pub look_all_allowed : Allows (Shown k) k.layout.depth id me waiters_at (λ n. n)
      (looked_all (step k.layout.depth waiters_at 0 0 none) me)
  look_all_allowed = rung bell_at bell_at_one 0 (λ n. n) (λ i q n. LookAll n)
      (λ s sh o. look_all_owed R k narrow s sh r o low) (looked_all (step k.layout.depth waiters_at 0 0 none) me)
      (λ n me' tells. tells 0)

  -- a sum of the clock and 8
  pub turn_allowed : Allows (Shown k) k.layout.depth id me clock_at (λ n. (n + 8) % 2 ^ 64)
      (turn_taken (step k.layout.depth clock_at 8 0 none) me)
  turn_allowed = rung bell_at bell_at_one 1 (λ n. (n + 8) % 2 ^ 64) (λ i q n. TakeTurn (n / 8))
      (λ s sh o. turn_owed R k narrow s sh r o low) (turn_taken (step k.layout.depth clock_at 8 0 none) me)
      (λ n me' tells. tells 1)

  -- a load of a berth
  pub look_at_allowed : (d : ℕ) → d < MAX_CALLERS → Allows (Shown k) k.layout.depth id me (berth_at d) (λ n. n)
      (looked_at (step k.layout.depth (berth_at d) 0 0 none) me)
  look_at_allowed d inside = rung berth_at berth_at_one d (λ n. n) (λ i q n. LookAt i (berth_of n))
      (λ s sh o. look_at_owed R k narrow s sh r o low d inside)
      (looked_at (step k.layout.depth (berth_at d) 0 0 none) me) (λ n me' tells. tells)

  -- a swap of the caller's own berth with 0
  pub get_up_allowed : Allows (Shown k) k.layout.depth id me (berth_at r.number) (λ _. 0)
      (got_up (step k.layout.depth (berth_at r.number) 0 0 none) me)
  get_up_allowed = rung berth_at berth_at_one r.number (λ _. 0) (λ i q n. GetUp q.number (berth_of n))
      (λ s sh o. get_up_owed R k narrow s sh r o low) (got_up (step k.layout.depth (berth_at r.number) 0 0 none) me)
      (λ n me' tells q is. tells q.number q is)

  -- where a berth is listed so, in a word
  module _ (waiter : Waiter) (turn : ℕ) where
    abbrev listed : ℕ
    listed = berth_word (Listed waiter turn)

    abbrev said : ℕ
    said = berth_word (Told waiter turn)

    -- the two ends of a compare-exchange of a berth
    pub tell_allowed : (d : ℕ) → d < MAX_CALLERS → Allows (Shown k) k.layout.depth id me (berth_at d)
        (λ n. either (eqb n listed) said n) (plays.told (step k.layout.depth (berth_at d) listed said none) me)
    tell_allowed d inside = rung berth_at berth_at_one d (λ n. either (eqb n listed) said n)
        (λ i q n. Tell i waiter turn (berth_of n)) (λ s sh o. tell_owed R k narrow s sh r o low d inside waiter turn)
        (plays.told (step k.layout.depth (berth_at d) listed said none) me)
        (λ n me' tells whom w t q is same view. let one = listed-one waiter w turn t same in
        subst (λ (x : Waiter × ℕ). Stepped (Bell (Tell whom x.0 x.1 (berth_of n))) q me me')
        (λ j. (one.0 j, one.1 j)) (tells whom q is view))

    -- a swap of the caller's own berth
    pub enlist_allowed : IsIn r.steps → HasTaken turn r.steps
        → Allows (Shown k) k.layout.depth id me (berth_at r.number) (λ _. listed)
        (enlisted (step k.layout.depth (berth_at r.number) listed 0 none) me)
    enlist_allowed there taken = rung berth_at berth_at_one r.number (λ _. listed)
        (λ i q n. Enlist q.number waiter turn (berth_of n))
        (λ s sh o. enlist_owed R k narrow s sh r o low waiter turn there taken)
        (enlisted (step k.layout.depth (berth_at r.number) listed 0 none) me)
        (λ n me' tells w t q is same view. let one = listed-one waiter w turn t same in
        subst (λ (x : Waiter × ℕ). Stepped (Bell (Enlist q.number x.0 x.1 (berth_of n))) q me me')
        (λ j. (one.0 j, one.1 j)) (tells q.number q is view))
