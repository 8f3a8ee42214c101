-- Each kind of step keeps what is known of all callers together.
use Rattle.std.specs.Prelude.{◌<◌, ◌∷◌, ◌≡◌, ◌≢◌, ◌⊎◌}
use Rattle.tag_bell.proofs.Uses.{ap, arith, Bell, Berth, berth_after, bit_at, Bool, cells_of, dite, EachFinds, Enlist, Enter, Finds, FindsIn, GetUp, History, inl, inr, IsBy, IsFreeAt, IsListed, IsListedAs, IsTold, IsUp, Leave, List, Listed, LookAll, LookAt, Opens, Owes, Post, ReadNote, refl, Saw, Shuts, Spot}
use Rattle.tag_bell.proofs.Uses.{Step, steps_by, subst, suc, sym, Take, TakeTurn, Tell, told_as, Tried, Up, Waiter, with_berth, Word, WordStep, zero, ℕ, ℕ_discrete, ◌∙◌}
use Rattle.tag_core.proofs.Berths.{as-up, with_berth-else, with_berth-here}
use Rattle.tag_core.proofs.Waiters.{is_there, IsThere}
use Rattle.tag_bell.proofs.Berths.{as-never, as-same, as-told, listed-not_up, told-not_up, told_or_not}
use Rattle.tag_bell.proofs.OneStep.{carries, Covered, WayOf}
use Rattle.tag_bell.proofs.Spots.{opened, shut}

module _ {R : Type 0} (n : ℕ) (kinds : Waiter → Bool) (c : ℕ) (in_range : c < n) (h : History R)
    (finds : EachFinds n h) (k : Covered n kinds h) where
  -- the caller's own steps before
  abbrev past : List (Step R)
  past = steps_by c h

  -- whoever is not up is a caller, and its bit is 1
  there : (d : ℕ) → ¬ IsUp (berth_after h d) → IsThere d n (cells_of h)
  there d not = is_there d n h finds not

  -- a step that leaves all berths
  module _ (x : Step R) (same : (d : ℕ) → berth_after ((c, x) ∷ h) d ≡ berth_after h d) where
    quiet : ((spot : Spot) (e : ℕ) → IsFreeAt ((c, x) ∷ h) spot → IsFreeAt h spot
        ⊎ WayOf kinds (x ∷ past) (berth_after ((c, x) ∷ h) c) spot e (berth_after ((c, x) ∷ h) e))
        → ((spot : Spot) → IsFreeAt ((c, x) ∷ h) spot → Tried (x ∷ past) spot → Tried past spot)
        → ((spot : Spot) (e : ℕ) → IsFreeAt ((c, x) ∷ h) spot → IsListed kinds (berth_after h e)
        → Owes kinds past spot e → Owes kinds (x ∷ past) spot e)
        → ((spot : Spot) (e : ℕ) (w : Waiter) (turn : ℕ) → Saw kinds (x ∷ past) spot e w turn
        → Saw kinds past spot e w turn ⊎ IsListedAs w turn (berth_after h e))
        → Covered n kinds ((c, x) ∷ h)
    quiet tags tried owes saw = carries n kinds c in_range x h k (λ e ne listed. same e)
        (λ d ne told. subst (IsTold kinds) (sym (same d)) told) tags
        (λ spot free listed seen. (same c, tried spot free seen)) ways
      where
        ways : (spot : Spot) (e : ℕ) → IsFreeAt ((c, x) ∷ h) spot → IsListed kinds (berth_after ((c, x) ∷ h) e)
            → WayOf kinds past (berth_after h c) spot e (berth_after ((c, x) ∷ h) e)
            → WayOf kinds (x ∷ past) (berth_after ((c, x) ∷ h) c) spot e (berth_after ((c, x) ∷ h) e)
        ways spot e free listed (inl way) = inl (
          owes spot e free (subst (IsListed kinds) (same e) listed) way.0,
          λ w turn seen. fresh w turn (saw spot e w turn seen),
        )
          where
            fresh : (w : Waiter) (turn : ℕ) → Saw kinds past spot e w turn ⊎ IsListedAs w turn (berth_after h e)
                → IsListedAs w turn (berth_after ((c, x) ∷ h) e)
            fresh w turn (inl before) = way.1 w turn before
            fresh w turn (inr now) = subst (IsListedAs w turn) (sym (same e)) now
        ways spot e free listed (inr told) = inr (subst (IsTold kinds) (sym (same c)) told)

  -- somebody was told, and so is on the way to every tag for everybody's sake
  comes : (x : Step R) (whom : ℕ) → whom < n → IsTold kinds (berth_after ((c, x) ∷ h) whom) → Covered n kinds ((c, x) ∷ h)
  comes x whom low told e listed spot seen free = (whom, low, inr told)

  -- a step on words
  word : (step : WordStep) → Finds step (cells_of h).words → Covered n kinds ((c, Word step) ∷ h)
  word step is = quiet (Word step) (λ d. refl)
      (λ spot e free. free_or spot e (opened step (cells_of h).words spot is free) (not_shut spot free))
      (λ spot free. before spot (not_shut spot free)) (λ spot e free listed owes. (inr owes, not_shut spot free))
      (λ spot e w turn seen. inl seen.1)
    where
      not_shut : (spot : Spot) → IsFreeAt ((c, Word step) ∷ h) spot → ¬ Shuts step spot
      not_shut spot free shuts = shut step (cells_of h).words spot is shuts free

      free_or : (spot : Spot) (e : ℕ) → IsFreeAt h spot ⊎ Opens step spot → ¬ Shuts step spot
          → IsFreeAt h spot ⊎ WayOf kinds (Word step ∷ past) (berth_after h c) spot e (berth_after h e)
      free_or spot e (inl was) apart = inl was
      free_or spot e (inr opens) apart = inr (inl ((inl opens, apart), λ w turn seen. absurd (seen.0 opens)))

      before : (spot : Spot) → ¬ Shuts step spot → Tried (Word step ∷ past) spot → Tried past spot
      before spot apart (inl shuts) = absurd (apart shuts)
      before spot apart (inr was) = was

  -- a step that says nothing of spots and berths
  idle : (x : Step R) → ((d : ℕ) → berth_after ((c, x) ∷ h) d ≡ berth_after h d)
      → ((spot : Spot) → IsFreeAt ((c, x) ∷ h) spot → IsFreeAt h spot)
      → ((spot : Spot) → Tried (x ∷ past) spot → Tried past spot)
      → ((spot : Spot) (e : ℕ) → Owes kinds past spot e → Owes kinds (x ∷ past) spot e)
      → ((spot : Spot) (e : ℕ) (w : Waiter) (turn : ℕ) → Saw kinds (x ∷ past) spot e w turn → Saw kinds past spot e w turn)
      → Covered n kinds ((c, x) ∷ h)
  idle x same tags tried owes saw = quiet x same (λ spot e free. inl (tags spot free)) (λ spot free. tried spot)
      (λ spot e free listed. owes spot e) (λ spot e w turn seen. inl (saw spot e w turn seen))

  -- whoever is listed has its bit
  look_all : (found : ℕ) → found ≡ (cells_of h).waits.waiters → Covered n kinds ((c, Bell (LookAll found)) ∷ h)
  look_all found is = quiet (Bell (LookAll found)) (λ d. refl) (λ spot e free. inl free) (λ spot free tried. tried)
      (λ spot e free listed owes. (seen e listed, owes)) (λ spot e w turn seen. inl seen)
    where
      seen : (e : ℕ) → IsListed kinds (berth_after h e) → bit_at found e ≢ 0
      seen e listed none = let on = (there e (listed-not_up kinds (berth_after h e) listed)).2 in
          let same = ap (λ (v : ℕ). bit_at v e) is in omega arith

  look : (whom : ℕ) (found : Berth) → found ≡ berth_after h whom → Covered n kinds ((c, Bell (LookAt whom found)) ∷ h)
  look whom found is = which (told_or_not kinds found)
    where
      which : IsTold kinds found ⊎ (¬ IsTold kinds found) → Covered n kinds ((c, Bell (LookAt whom found)) ∷ h)
      which (inl told) = let now = subst (IsTold kinds) is told in
          comes (Bell (LookAt whom found)) whom (there whom (told-not_up kinds (berth_after h whom) now)).0 now
      which (inr not) = quiet (Bell (LookAt whom found)) (λ d. refl) (λ spot e free. inl free) (λ spot free tried. tried)
          (λ spot e free listed owes. (
            (
              not,
              λ it. subst (IsListed kinds) (sym is) (subst (λ (z : ℕ). IsListed kinds (berth_after h z)) (sym it) listed),
            ),
            owes,
          ))
          seen
        where
          seen : (spot : Spot) (e : ℕ) (w : Waiter) (turn : ℕ) → Saw kinds (Bell (LookAt whom found) ∷ past) spot e w turn
              → Saw kinds past spot e w turn ⊎ IsListedAs w turn (berth_after h e)
          seen spot e w turn (inl it) = inr (subst (λ (z : ℕ). IsListedAs w turn (berth_after h z)) it.0
              (subst (IsListedAs w turn) is it.1))
          seen spot e w turn (inr was) = inl was

  -- ---- steps on berths

  -- a caller whose berth becomes another by a swap has to see to everything if it was told
  module _ (new found : Berth) (is : found ≡ berth_after h c) (x : Step R)
      (put : (d : ℕ) → berth_after ((c, x) ∷ h) d ≡ with_berth (berth_after h) c new d) where
    swap : ((spot : Spot) → IsFreeAt ((c, x) ∷ h) spot → IsFreeAt h spot)
        → ((spot : Spot) → IsListed kinds new → ¬ Tried (x ∷ past) spot)
        → ((spot : Spot) (e : ℕ) → IsTold kinds found ⊎ Owes kinds past spot e → Owes kinds (x ∷ past) spot e)
        → ((spot : Spot) (e : ℕ) (w : Waiter) (turn : ℕ) → Saw kinds (x ∷ past) spot e w turn
        → (¬ IsTold kinds found) × Saw kinds past spot e w turn)
        → Covered n kinds ((c, x) ∷ h)
    swap tags tried owes saw = carries n kinds c in_range x h k (λ e ne listed. else e ne)
        (λ d ne told. subst (IsTold kinds) (sym (else d ne)) told) (λ spot e free. inl (tags spot free))
        (λ spot free listed seen. absurd (tried spot (subst (IsListed kinds) here listed) seen)) ways
      where
        here : berth_after ((c, x) ∷ h) c ≡ new
        here = put c ∙ with_berth-here (berth_after h) c new c refl

        else : (d : ℕ) → d ≢ c → berth_after ((c, x) ∷ h) d ≡ berth_after h d
        else d ne = put d ∙ with_berth-else (berth_after h) c new d ne

        ways : (spot : Spot) (e : ℕ) → IsFreeAt ((c, x) ∷ h) spot → IsListed kinds (berth_after ((c, x) ∷ h) e)
            → WayOf kinds past (berth_after h c) spot e (berth_after ((c, x) ∷ h) e)
            → WayOf kinds (x ∷ past) (berth_after ((c, x) ∷ h) c) spot e (berth_after ((c, x) ∷ h) e)
        ways spot e free listed (inl way) =
            inl (owes spot e (inr way.0), λ w turn seen. way.1 w turn (saw spot e w turn seen).1)
        ways spot e free listed (inr told) = let was = subst (IsTold kinds) (sym is) told in
            inl (owes spot e (inl was), λ w turn seen. absurd ((saw spot e w turn seen).0 was))

  enlist : (waiter : Waiter) (turn : ℕ) (found : Berth) → found ≡ berth_after h c
      → Covered n kinds ((c, Bell (Enlist c waiter turn found)) ∷ h)
  enlist waiter turn found is = swap (Listed waiter turn) found is (Bell (Enlist c waiter turn found)) (λ d. refl)
      (λ spot free. free) (λ spot listed tried. tried) (λ spot e owes. owes) (λ spot e w t seen. seen)

  get_up : (found : Berth) → found ≡ berth_after h c → Covered n kinds ((c, Bell (GetUp c found)) ∷ h)
  get_up found is = swap Up found is (Bell (GetUp c found)) (λ d. refl) (λ spot free. free)
      (λ spot listed tried. listed) (λ spot e owes. owes) (λ spot e w t seen. seen)

  -- a tell: somebody is told after it, or whoever is listed is listed as before
  module _ (whom : ℕ) (waiter : Waiter) (turn : ℕ) (found : Berth) (is : found ≡ berth_after h whom) where
    abbrev tell_step : Step R
    tell_step = Bell (Tell whom waiter turn found)

    here : (e : ℕ) → e ≡ whom → berth_after ((c, tell_step) ∷ h) e ≡ told_as waiter turn found
    here e it = with_berth-here (berth_after h) whom (told_as waiter turn (berth_after h whom)) e it
        ∙ ap (told_as waiter turn) (sym is)

    else : (e : ℕ) → e ≢ whom → berth_after ((c, tell_step) ∷ h) e ≡ berth_after h e
    else e ne = with_berth-else (berth_after h) whom (told_as waiter turn (berth_after h whom)) e ne

    before : (e : ℕ) → e ≡ whom → found ≡ berth_after h e
    before e it = is ∙ ap (berth_after h) (sym it)

    same : (e : ℕ) → IsListed kinds (berth_after ((c, tell_step) ∷ h) e) → berth_after ((c, tell_step) ∷ h) e ≡ berth_after h e
    same e listed = dite (ℕ_discrete e whom)
        (λ (it : e ≡ whom). here e it ∙ as-same kinds waiter turn found (subst (IsListed kinds) (here e it) listed)
        ∙ before e it)
        (λ (ne : e ≢ whom). else e ne)

    still : (d : ℕ) → IsTold kinds (berth_after h d) → IsTold kinds (berth_after ((c, tell_step) ∷ h) d)
    still d told = dite (ℕ_discrete d whom)
        (λ (it : d ≡ whom). subst (IsTold kinds) (sym (here d it))
        (as-told kinds waiter turn found (subst (IsTold kinds) (sym (before d it)) told)))
        (λ (ne : d ≢ whom). subst (IsTold kinds) (sym (else d ne)) told)

    tell : Covered n kinds ((c, tell_step) ∷ h)
    tell = which (told_or_not kinds (told_as waiter turn found))
      where
        which : IsTold kinds (told_as waiter turn found) ⊎ (¬ IsTold kinds (told_as waiter turn found))
            → Covered n kinds ((c, tell_step) ∷ h)
        which (inl told) =
            comes tell_step whom (there whom not).0 (subst (IsTold kinds) (sym (here whom refl)) told)
          where
            not : ¬ IsUp (berth_after h whom)
            not up = told-not_up kinds (told_as waiter turn found) told
                (as-up waiter turn found (subst IsUp (sym is) up))
        which (inr not) = carries n kinds c in_range tell_step h k (λ e ne. same e) (λ d ne. still d)
            (λ spot e free. inl free) (λ spot free listed seen. (same c listed, seen)) ways
          where
            ways : (spot : Spot) (e : ℕ) → IsFreeAt h spot → IsListed kinds (berth_after ((c, tell_step) ∷ h) e)
                → WayOf kinds past (berth_after h c) spot e (berth_after ((c, tell_step) ∷ h) e)
                → WayOf kinds (tell_step ∷ past) (berth_after ((c, tell_step) ∷ h) c) spot e
                (berth_after ((c, tell_step) ∷ h) e)
            ways spot e free listed (inl way) = inl (
              (
                (not, λ it. subst (IsListed kinds) (here e (sym it)) listed),
                (λ it seen. as-never waiter turn found
                    (subst (IsListedAs waiter turn) (here e (sym it)) (way.1 waiter turn seen))),
                way.0,
              ),
              way.1,
            )
            ways spot e free listed (inr told) = inr (still c told)

  -- each step keeps it
  pub each : (x : Step R) → IsBy c x past → FindsIn x (cells_of h) → Covered n kinds ((c, x) ∷ h)
  each (Word step) may is = word step is
  each (Post tag note value) may is = idle (Post tag note value) (λ d. refl) (λ spot f. f) (λ spot t. t) (λ spot e o. o)
      (λ spot e w t s. s)
  each (Take tag zero value) may is = idle (Take tag zero value) (λ d. refl) (λ spot f. f) (λ spot t. t) (λ spot e o. o)
      (λ spot e w t s. s)
  each (Take tag (suc found) value) may is = idle (Take tag (suc found) value) (λ d. refl) (λ spot f. f) (λ spot t. t)
      (λ spot e o. o) (λ spot e w t s. s)
  each (ReadNote tag found) may is = idle (ReadNote tag found) (λ d. refl) (λ spot f. f) (λ spot t. t) (λ spot e o. o)
      (λ spot e w t s. s)
  each (Bell (Enter caller found)) may is = idle (Bell (Enter caller found)) (λ d. refl) (λ spot f. f) (λ spot t. t)
      (λ spot e o. o) (λ spot e w t s. s)
  each (Bell (Leave caller found)) may is = idle (Bell (Leave caller found)) (λ d. refl) (λ spot f. f) (λ spot t. t)
      (λ spot e o. o) (λ spot e w t s. s)
  each (Bell (LookAll found)) may is = look_all found is
  each (Bell (TakeTurn found)) may is = idle (Bell (TakeTurn found)) (λ d. refl) (λ spot f. f) (λ spot t. t)
      (λ spot e o. o) (λ spot e w t s. s)
  each (Bell (Enlist caller waiter turn found)) may is =
      subst (λ (z : ℕ). Covered n kinds ((c, Bell (Enlist z waiter turn found)) ∷ h)) (sym may.1.0)
      (enlist waiter turn found (is ∙ ap (berth_after h) may.1.0))
  each (Bell (LookAt whom found)) may is = look whom found is
  each (Bell (Tell whom waiter turn found)) may is = tell whom waiter turn found is
  each (Bell (GetUp caller found)) may is = subst (λ (z : ℕ). Covered n kinds ((c, Bell (GetUp z found)) ∷ h)) (sym may.1)
      (get_up found (is ∙ ap (berth_after h) may.1))
