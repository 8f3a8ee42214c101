-- Whoever stays listed is found so by each look: so a caller that tells by turns passes over nobody. And turns are in the
-- order in which they were taken.
use Rattle.std.specs.Prelude.{◌<◌, ◌∷◌, ◌≡◌, ◌≢◌, ◌≤◌, ◌⊎◌}
use Rattle.tag_bell.proofs.Uses.{[], ap, arith, Bell, Berth, berth_after, bit_at, Bool, cells_of, cond, dite, EachFinds, Enlist, Enter, eq-eqb, FindsIn, GetUp, HasTaken, History, inl, inr, IsBy, IsListedAs, IsTrue, IsUp, Leave, List, Listed, LookAll, LookAt, ne_eqb, Post, ReadNote}
use Rattle.tag_bell.proofs.Uses.{Step, steps_by, subst, suc, sym, Take, TakeTurn, Tell, Told, told_as, TURNS, Up, Waiter, Word, zero, ℕ, ℕ_discrete, ⊎_elim, ◌∙◌}
use Rattle.tag_core.proofs.Berths.{with_berth-else, with_berth-here}
use Rattle.tag_core.proofs.Waiters.{is_there}
use Rattle.tag_bell.specs.Order.{CameBefore, FirstComeFirstTold, FoundAs, IsEnlist, IsLookAll, IsNotBefore, MayPass, TurnsAreInOrder}
use Rattle.tag_bell.proofs.Berths.{as-never, as-so}

module _ (kinds : Waiter → Bool) (turn e : ℕ) (waiter : Waiter) (t : ℕ) (meant : IsTrue (kinds waiter)) where
  -- whoever is listed so is not up, and its turn is not before another one if its berth says so
  so-not_up : (b : Berth) → IsListedAs waiter t b → ¬ IsUp b
  so-not_up Up so up = so
  so-not_up (Listed w own) so up = up
  so-not_up (Told w own) so up = so

  so-turn : (b : Berth) → IsListedAs waiter t b → IsNotBefore kinds turn b → turn ≤ t
  so-turn Up so low = absurd so
  so-turn (Listed w own) so low =
      let le = low (subst (λ (z : Waiter). IsTrue (kinds z)) (sym so.0) meant) in let same = so.1 in omega arith
  so-turn (Told w own) so low = absurd so

  -- it is listed in one way
  so-one : (w : Waiter) (own : ℕ) (b : Berth) → IsListedAs waiter t b → IsListedAs w own b → (waiter ≡ w) × (t ≡ own)
  so-one w own Up so is = absurd so
  so-one w own (Listed a b) so is = (sym so.0 ∙ is.0, sym so.1 ∙ is.1)
  so-one w own (Told a b) so is = absurd so

  so-never : (w : Waiter) (own : ℕ) (b : Berth) → (waiter ≡ w) × (t ≡ own) → ¬ IsListedAs waiter t (told_as w own b)
  so-never w own b same so = as-never w own b (subst (λ (z : ℕ). IsListedAs w z (told_as w own b)) same.1
      (subst (λ (z : Waiter). IsListedAs z t (told_as w own b)) same.0 so))

  -- after a step by which it did not list itself it is listed as before
  so_before : {R : Type 0} (c : ℕ) (x : Step R) (h : History R) → IsBy c x (steps_by c h) → (c ≡ e → ¬ IsEnlist x)
      → IsListedAs waiter t (berth_after ((c, x) ∷ h) e) → IsListedAs waiter t (berth_after h e)
  so_before c (Word step) h may not so = so
  so_before c (Post tag note value) h may not so = so
  so_before c (Take tag zero value) h may not so = so
  so_before c (Take tag (suc found) value) h may not so = so
  so_before c (ReadNote tag found) h may not so = so
  so_before c (Bell (Enter caller found)) h may not so = so
  so_before c (Bell (Leave caller found)) h may not so = so
  so_before c (Bell (LookAll found)) h may not so = so
  so_before c (Bell (TakeTurn found)) h may not so = so
  so_before c (Bell (LookAt whom found)) h may not so = so
  so_before c (Bell (Enlist caller w own found)) h may not so = dite (ℕ_discrete e caller)
      (λ (it : e ≡ caller). absurd (not (sym may.1.0 ∙ sym it) tt))
      (λ (ne : e ≢ caller).
      subst (IsListedAs waiter t) (with_berth-else (berth_after h) caller (Listed w own) e ne) so)
  so_before c (Bell (Tell whom w own found)) h may not so = dite (ℕ_discrete e whom)
      (λ (it : e ≡ whom). subst (λ (z : ℕ). IsListedAs waiter t (berth_after h z)) (sym it)
      (as-so waiter w t own (berth_after h whom)
      (subst (IsListedAs waiter t) (with_berth-here (berth_after h) whom (told_as w own (berth_after h whom)) e it) so)))
      (λ (ne : e ≢ whom).
      subst (IsListedAs waiter t) (with_berth-else (berth_after h) whom (told_as w own (berth_after h whom)) e ne) so)
  so_before c (Bell (GetUp caller found)) h may not so = dite (ℕ_discrete e caller)
      (λ (it : e ≡ caller). absurd (subst (IsListedAs waiter t) (with_berth-here (berth_after h) caller Up e it) so))
      (λ (ne : e ≢ caller). subst (IsListedAs waiter t) (with_berth-else (berth_after h) caller Up e ne) so)

  -- what the own steps of another caller show, if it has been listed so since that one looked at all who wait
  abbrev Shown : {R : Type 0} → List (Step R) → Type 0
  Shown own = (MayPass kinds own turn e → turn ≤ t) × ((w : Waiter) (o : ℕ) → FoundAs own e w o → (waiter ≡ w) × (t ≡ o))

  module _ {R : Type 0} (n p : ℕ) where
    -- one step by p itself, which says nothing of all who wait or of berths
    silent : (x : Step R) (h : History R) → IsBy p x (steps_by p h)
        → (CameBefore p e h → IsListedAs waiter t (berth_after h e) → Shown (steps_by p h))
        → (MayPass kinds (x ∷ steps_by p h) turn e → MayPass kinds (steps_by p h) turn e)
        → ((w : Waiter) (o : ℕ) → FoundAs (x ∷ steps_by p h) e w o → FoundAs (steps_by p h) e w o) → ¬ IsLookAll x
        → ((p ≡ p) × IsLookAll x) ⊎ ((p ≡ e → ¬ IsEnlist x) × CameBefore p e h)
        → IsListedAs waiter t (berth_after ((p, x) ∷ h) e) → Shown (x ∷ steps_by p h)
    silent x h may older pass found not (inl look) so = absurd (not look.1)
    silent x h may older pass found not (inr came) so = let past = older came.1 (so_before p x h may came.0 so) in
        (λ m. past.0 (pass m), λ w o f. past.1 w o (found w o f))

    by_itself : (x : Step R) (h : History R) → EachFinds n h → IsBy p x (steps_by p h) → FindsIn x (cells_of h)
        → (CameBefore p e h → IsListedAs waiter t (berth_after h e) → Shown (steps_by p h))
        → ((p ≡ p) × IsLookAll x) ⊎ ((p ≡ e → ¬ IsEnlist x) × CameBefore p e h)
        → IsListedAs waiter t (berth_after ((p, x) ∷ h) e) → Shown (x ∷ steps_by p h)
    by_itself (Word step) h finds may is older = silent (Word step) h may older (λ m. m) (λ w o f. f) (λ l. l)
    by_itself (Post tag note value) h finds may is older =
        silent (Post tag note value) h may older (λ m. m) (λ w o f. f) (λ l. l)
    by_itself (Take tag found value) h finds may is older =
        silent (Take tag found value) h may older (λ m. m) (λ w o f. f) (λ l. l)
    by_itself (ReadNote tag found) h finds may is older =
        silent (ReadNote tag found) h may older (λ m. m) (λ w o f. f) (λ l. l)
    by_itself (Bell (Enter caller found)) h finds may is older =
        silent (Bell (Enter caller found)) h may older (λ m. m) (λ w o f. f) (λ l. l)
    by_itself (Bell (Leave caller found)) h finds may is older =
        silent (Bell (Leave caller found)) h may older (λ m. m) (λ w o f. f) (λ l. l)
    by_itself (Bell (TakeTurn found)) h finds may is older =
        silent (Bell (TakeTurn found)) h may older (λ m. m) (λ w o f. f) (λ l. l)
    by_itself (Bell (Enlist caller w own found)) h finds may is older =
        silent (Bell (Enlist caller w own found)) h may older (λ m. m) (λ w o f. f) (λ l. l)
    by_itself (Bell (GetUp caller found)) h finds may is older =
        silent (Bell (GetUp caller found)) h may older (λ m. m) (λ w o f. f) (λ l. l)
    by_itself (Bell (LookAll found)) h finds may is older = λ came so. (λ pass. absurd (missed pass so), λ w o none. absurd none)
      where
        missed : bit_at found e ≡ 0 → IsListedAs waiter t (berth_after h e) → ⊥
        missed off so = let on = (is_there e n h finds (so-not_up (berth_after h e) so)).2 in
            let same = ap (λ (v : ℕ). bit_at v e) is in omega arith
    by_itself (Bell (LookAt whom found)) h finds may is older = λ came so. ⊎_elim (λ look. absurd look.1) (looked so) came
      where
        looked : IsListedAs waiter t (berth_after h e)
            → (p ≡ e → ¬ IsEnlist {R = R} (Bell (LookAt whom found))) × CameBefore p e h
            → Shown (Bell (LookAt whom found) ∷ steps_by p h)
        looked so came = let past = older came.1 so in (
          ⊎_elim (λ low. so-turn found (it low.0) low.1) past.0,
          λ w o. ⊎_elim (λ there. so-one w o found (it there.0) there.1) (past.1 w o),
        )
          where
            it : whom ≡ e → IsListedAs waiter t found
            it same = subst (IsListedAs waiter t) (sym is)
                (subst (λ (z : ℕ). IsListedAs waiter t (berth_after h z)) (sym same) so)
    by_itself (Bell (Tell whom w own found)) h finds may is older = λ came so.
        ⊎_elim (λ look. absurd look.1) (told so) came
      where
        told : IsListedAs waiter t (berth_after ((p, Bell (Tell whom w own found)) ∷ h) e)
            → (p ≡ e → ¬ IsEnlist {R = R} (Bell (Tell whom w own found))) × CameBefore p e h
            → Shown (Bell (Tell whom w own found) ∷ steps_by p h)
        told so came =
            let past = older came.1 (so_before p (Bell (Tell whom w own found)) h may came.0 so) in (
              ⊎_elim (λ tried. ⊎_elim (λ low. so-turn (told_as w own found) (it tried.0) low)
                  (λ there. absurd (so-never w own found (past.1 w own there) (it tried.0))) tried.1) past.0,
              past.1,
            )
          where
            it : whom ≡ e → IsListedAs waiter t (told_as w own found)
            it same = subst (IsListedAs waiter t)
                (with_berth-here (berth_after h) whom (told_as w own (berth_after h whom)) e (sym same)
                ∙ ap (told_as w own) (sym is)) so

    -- one step by another caller
    by_another : (c : ℕ) (x : Step R) (h : History R) → c ≢ p → IsBy c x (steps_by c h)
        → (CameBefore p e h → IsListedAs waiter t (berth_after h e) → Shown (steps_by p h))
        → ((c ≡ p) × IsLookAll x) ⊎ ((c ≡ e → ¬ IsEnlist x) × CameBefore p e h)
        → IsListedAs waiter t (berth_after ((c, x) ∷ h) e) → Shown (steps_by p h)
    by_another c x h ne may older (inl look) so = absurd (ne look.0)
    by_another c x h ne may older (inr came) so = older came.1 (so_before c x h may came.0 so)

    shown : (h : History R) → EachFinds n h → CameBefore p e h → IsListedAs waiter t (berth_after h e)
        → Shown (steps_by p h)
    shown [] finds came so = absurd came
    shown (x ∷ h) finds came so = dite (ℕ_discrete x.0 p)
        (λ (it : x.0 ≡ p). subst (λ (s : List (Step R)). Shown s)
        (sym (ap (λ (b : Bool). cond b (x.1 ∷ steps_by p h) (steps_by p h)) (eq-eqb x.0 p it)))
        (by_itself x.1 h finds.4 (subst (λ (z : ℕ). IsBy z x.1 (steps_by z h)) it finds.1) finds.2 (shown h finds.4)
        (subst (λ (z : ℕ). ((z ≡ p) × IsLookAll x.1) ⊎ ((z ≡ e → ¬ IsEnlist x.1) × CameBefore p e h)) it came)
        (subst (λ (z : ℕ). IsListedAs waiter t (berth_after ((z, x.1) ∷ h) e)) it so)))
        (λ (ne : x.0 ≢ p). subst (λ (s : List (Step R)). Shown s)
        (sym (ap (λ (b : Bool). cond b (x.1 ∷ steps_by p h) (steps_by p h)) (ne_eqb x.0 p ne)))
        (by_another x.0 x.1 h ne finds.1 (shown h finds.4) came so))

pub first_told : {R : Type 0} → FirstComeFirstTold R
first_told k h p d turn waiter found lawful told kinds e t w meant may so came =
    (shown kinds turn e w t meant k.callers p h lawful.finds.4 came so).0 may

-- ---- turns

module _ {R : Type 0} (t : ℕ) where
  -- a turn that was taken is below the number of those taken
  after_own : (x : Step R) (c : ℕ) (h : History R) (past : List (Step R)) → FindsIn x (cells_of h)
      → (HasTaken t past → t < (cells_of h).waits.clock) → HasTaken t (x ∷ past)
      → (cells_of ((c, x) ∷ h)).waits.clock ≤ TURNS → t < (cells_of ((c, x) ∷ h)).waits.clock
  after_own (Bell (TakeTurn found)) c h past is low (inl it) few = omega arith
  after_own (Bell (TakeTurn found)) c h past is low (inr taken) few = let below = low taken in omega arith
  after_own (Bell (Enter caller found)) c h past is low taken few = low taken
  after_own (Bell (Leave caller found)) c h past is low taken few = low taken
  after_own (Bell (LookAll found)) c h past is low taken few = low taken
  after_own (Bell (Enlist caller w own found)) c h past is low taken few = low taken
  after_own (Bell (LookAt whom found)) c h past is low taken few = low taken
  after_own (Bell (Tell whom w own found)) c h past is low taken few = low taken
  after_own (Bell (GetUp caller found)) c h past is low taken few = low taken
  after_own (Word step) c h past is low taken few = low taken
  after_own (Post tag note value) c h past is low taken few = low taken
  after_own (Take tag zero value) c h past is low taken few = low taken
  after_own (Take tag (suc found) value) c h past is low taken few = low taken
  after_own (ReadNote tag found) c h past is low taken few = low taken

  -- the clock only goes on
  goes_on : (x : Step R) (c : ℕ) (h : History R) → (cells_of h).waits.clock ≤ (cells_of ((c, x) ∷ h)).waits.clock
  goes_on (Bell (TakeTurn found)) c h = omega arith
  goes_on (Bell (Enter caller found)) c h = omega arith
  goes_on (Bell (Leave caller found)) c h = omega arith
  goes_on (Bell (LookAll found)) c h = omega arith
  goes_on (Bell (Enlist caller w own found)) c h = omega arith
  goes_on (Bell (LookAt whom found)) c h = omega arith
  goes_on (Bell (Tell whom w own found)) c h = omega arith
  goes_on (Bell (GetUp caller found)) c h = omega arith
  goes_on (Word step) c h = omega arith
  goes_on (Post tag note value) c h = omega arith
  goes_on (Take tag zero value) c h = omega arith
  goes_on (Take tag (suc found) value) c h = omega arith
  goes_on (ReadNote tag found) c h = omega arith

  below_clock : (n e : ℕ) (h : History R) → EachFinds n h → (cells_of h).waits.clock ≤ TURNS → HasTaken t (steps_by e h)
      → t < (cells_of h).waits.clock
  below_clock n e [] finds few taken = absurd taken
  below_clock n e (x ∷ h) finds few taken = let more = goes_on x.1 x.0 h in
      let past = steps_by e h in let before = below_clock n e h finds.4 (omega arith) in dite (ℕ_discrete x.0 e)
      (λ (it : x.0 ≡ e). after_own x.1 x.0 h past finds.2 before
      (subst (HasTaken t) (ap (λ (b : Bool). cond b (x.1 ∷ past) past) (eq-eqb x.0 e it)) taken) few)
      (λ (ne : x.0 ≢ e). let low = before
      (subst (HasTaken t) (ap (λ (b : Bool). cond b (x.1 ∷ past) past) (ne_eqb x.0 e ne)) taken) in omega arith)

pub in_order : {R : Type 0} → TurnsAreInOrder R
in_order k h c found lawful few e t taken =
    let low = below_clock t k.callers e h lawful.finds.4 (omega arith) taken in
    let is = lawful.finds.2 in omega arith
