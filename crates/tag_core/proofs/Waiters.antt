-- What a caller's own steps show of its berth, of its turns and of its bit among all who wait.
use Rattle.std.specs.Prelude.{◌<◌, ◌^◌, ◌∷◌, ◌≡◌, ◌≢◌}
use Rattle.tag_core.proofs.Uses.{[], AgreesWith, ap, arith, Bell, Berth, bit_at, bit_or, Bool, Cells, cells_after, cells_of, cond, dite, EachFinds, Enlist, Enter, eq-eqb, FindsIn, GetUp, HasTaken, History, inl, inr, IsBy, IsIn, IsUp, Leave, List, Listed, LookAll, LookAt, MAX_CALLERS, nat_eq, ne_eqb, Post, ReadNote, refl, same_waiter}
use Rattle.tag_core.proofs.Uses.{some-ne-none, Step, steps_by, subst, suc, sym, Take, TakeTurn, Tell, Told, told_as, TURNS, Up, Waiter, waits_as, with_berth, Word, zero, ℕ, ℕ_discrete, ◌∙◌}
use Rattle.tag_core.proofs.Berths.{with_berth-else, with_berth-here}
use Rattle.tag_core.proofs.ListedBits.{with-in, with-kept, without-else}

-- the caller is one of the map's, and its bit among all who wait is 1
abbrev pub IsThere : ℕ → ℕ → Cells → Type 0
IsThere who callers c = (who < callers) × (who < MAX_CALLERS) × (bit_at c.waits.waiters who ≡ 1)

module _ {R : Type 0} where
  -- a berth agrees with further own steps, unless one of these lists the caller, gets it up or takes it from all who wait
  agrees_on : (own more : List (Step R)) → waits_as more ≡ waits_as own → (IsIn own → IsIn more)
      → ((turn : ℕ) → HasTaken turn own → HasTaken turn more) → (b : Berth) → AgreesWith own b → AgreesWith more b
  agrees_on own more same there taken Up was = same ∙ was
  agrees_on own more same there taken (Listed waiter turn) was = (same ∙ was.0, there was.1, taken turn was.2)
  agrees_on own more same there taken (Told waiter turn) was = (same ∙ was.0, there was.1, taken turn was.2)

  -- so it does after a tell
  agrees_told : (own : List (Step R)) (waiter : Waiter) (turn : ℕ) (b : Berth) → AgreesWith own b
      → AgreesWith own (told_as waiter turn b)
  agrees_told own waiter turn Up was = was
  agrees_told own waiter turn (Listed w t) was = which (same_waiter w waiter) (nat_eq t turn)
    where
      which : (a b : Bool) → AgreesWith own (cond a (cond b (Told w t) (Listed w t)) (Listed w t))
      which a b = grind (arith, was)
  agrees_told own waiter turn (Told w t) was = was

  told_there : (own : List (Step R)) (berths : ℕ → Berth) (who whom : ℕ) (waiter : Waiter) (turn : ℕ)
      → AgreesWith own (berths who)
      → AgreesWith own (with_berth berths whom (told_as waiter turn (berths whom)) who)
  told_there own berths who whom waiter turn was = dite (ℕ_discrete who whom)
      (λ (it : who ≡ whom).
      subst (AgreesWith own) (sym (with_berth-here berths whom (told_as waiter turn (berths whom)) who it))
      (agrees_told own waiter turn (berths whom) (subst (λ (z : ℕ). AgreesWith own (berths z)) it was)))
      (λ (ne : who ≢ whom). subst (AgreesWith own)
      (sym (with_berth-else berths whom (told_as waiter turn (berths whom)) who ne)) was)

  module _ (who : ℕ) where
    -- its own berth, changed
    put : (own : List (Step R)) (berths : ℕ → Berth) (at : ℕ) (b : Berth) → at ≡ who → AgreesWith own b
        → AgreesWith own (with_berth berths at b who)
    put own berths at b is agrees = subst (AgreesWith own) (sym (with_berth-here berths at b who (sym is))) agrees

    on : (step : Step R) (own : List (Step R)) (b : Berth) → waits_as (step ∷ own) ≡ waits_as own
        → (IsIn own → IsIn (step ∷ own)) → ((turn : ℕ) → HasTaken turn own → HasTaken turn (step ∷ own))
        → AgreesWith own b → AgreesWith (step ∷ own) b
    on step own b same there taken = agrees_on own (step ∷ own) same there taken b

    -- one step of its own
    by_itself : (step : Step R) (c : Cells) (own : List (Step R)) → IsBy who step own
        → AgreesWith own (c.waits.berths who) → AgreesWith (step ∷ own) ((cells_after step c).waits.berths who)
    by_itself (Word step) c own may was = on (Word step) own _ refl (λ i. i) (λ t h. h) was
    by_itself (Post tag note value) c own may was = on (Post tag note value) own _ refl (λ i. i) (λ t h. h) was
    by_itself (Take tag zero value) c own may was = on (Take tag zero value) own _ refl (λ i. i) (λ t h. h) was
    by_itself (Take tag (suc found) value) c own may was =
        on (Take tag (suc found) value) own _ refl (λ i. i) (λ t h. h) was
    by_itself (ReadNote tag found) c own may was = on (ReadNote tag found) own _ refl (λ i. i) (λ t h. h) was
    by_itself (Bell (Enter caller found)) c own may was =
        on (Bell (Enter caller found)) own _ refl (λ i. tt) (λ t h. h) was
    by_itself (Bell (Leave caller found)) c own may was = up (c.waits.berths who) was
      where
        up : (b : Berth) → AgreesWith own b → AgreesWith (Bell (Leave caller found) ∷ own) b
        up Up is = is
        up (Listed waiter turn) is = absurd (some-ne-none waiter (sym is.0 ∙ may.1.1))
        up (Told waiter turn) is = absurd (some-ne-none waiter (sym is.0 ∙ may.1.1))
    by_itself (Bell (LookAll found)) c own may was = on (Bell (LookAll found)) own _ refl (λ i. i) (λ t h. h) was
    by_itself (Bell (TakeTurn found)) c own may was = on (Bell (TakeTurn found)) own _ refl (λ i. i) (λ t h. inr h) was
    by_itself (Bell (Enlist caller waiter turn found)) c own may was =
        put (Bell (Enlist caller waiter turn found) ∷ own) c.waits.berths caller (Listed waiter turn) may.1.0
        (refl, may.1.1, may.1.2)
    by_itself (Bell (LookAt whom found)) c own may was =
        on (Bell (LookAt whom found)) own _ refl (λ i. i) (λ t h. h) was
    by_itself (Bell (Tell whom waiter turn found)) c own may was =
        told_there (Bell (Tell whom waiter turn found) ∷ own) c.waits.berths who whom waiter turn
        (on (Bell (Tell whom waiter turn found)) own _ refl (λ i. i) (λ t h. h) was)
    by_itself (Bell (GetUp caller found)) c own may was =
        put (Bell (GetUp caller found) ∷ own) c.waits.berths caller Up may.1 refl

    -- one of another caller, which changes this berth by a tell alone
    by_another : (other : ℕ) → other ≢ who → (step : Step R) (c : Cells) (own theirs : List (Step R))
        → IsBy other step theirs → AgreesWith own (c.waits.berths who)
        → AgreesWith own ((cells_after step c).waits.berths who)
    by_another other ne (Word step) c own theirs may was = was
    by_another other ne (Post tag note value) c own theirs may was = was
    by_another other ne (Take tag zero value) c own theirs may was = was
    by_another other ne (Take tag (suc found) value) c own theirs may was = was
    by_another other ne (ReadNote tag found) c own theirs may was = was
    by_another other ne (Bell (Enlist caller waiter turn found)) c own theirs may was =
        subst (AgreesWith own) (sym (with_berth-else c.waits.berths caller (Listed waiter turn) who
        (λ is. ne (sym (is ∙ may.1.0))))) was
    by_another other ne (Bell (Tell whom waiter turn found)) c own theirs may was =
        told_there own c.waits.berths who whom waiter turn was
    by_another other ne (Bell (GetUp caller found)) c own theirs may was =
        subst (AgreesWith own) (sym (with_berth-else c.waits.berths caller Up who (λ is. ne (sym (is ∙ may.1))))) was
    by_another other ne (Bell (Enter caller found)) c own theirs may was = was
    by_another other ne (Bell (Leave caller found)) c own theirs may was = was
    by_another other ne (Bell (LookAll found)) c own theirs may was = was
    by_another other ne (Bell (TakeTurn found)) c own theirs may was = was
    by_another other ne (Bell (LookAt whom found)) c own theirs may was = was

    -- after every lawful history the caller's berth agrees with its own steps
    pub agrees : (callers : ℕ) (h : History R) → EachFinds callers h
        → AgreesWith (steps_by who h) ((cells_of h).waits.berths who)
    agrees callers [] finds = refl
    agrees callers (x ∷ older) finds = let mine = steps_by who older in let now = (cells_of (x ∷ older)).waits.berths who in
        dite (ℕ_discrete x.0 who)
        (λ (it : x.0 ≡ who). subst (λ (b : Bool). AgreesWith (cond b (x.1 ∷ mine) mine) now) (sym (eq-eqb x.0 who it))
        (by_itself x.1 (cells_of older) mine (subst (λ (n : ℕ). IsBy n x.1 (steps_by n older)) it finds.1)
        (agrees callers older finds.4)))
        (λ (ne : x.0 ≢ who). subst (λ (b : Bool). AgreesWith (cond b (x.1 ∷ mine) mine) now) (sym (ne_eqb x.0 who ne))
        (by_another x.0 ne x.1 (cells_of older) mine (steps_by x.0 older) finds.1 (agrees callers older finds.4)))

    -- so did the one that its last own step found
    pub found_agrees : (callers : ℕ) (h : History R) → EachFinds callers h → (step : Step R) (own : List (Step R))
        → steps_by who h ≡ step ∷ own → (found : Berth)
        → ((c : Cells) → FindsIn step c → found ≡ c.waits.berths who) → AgreesWith own found
    found_agrees callers [] finds step own is found looks = cc
    found_agrees callers (x ∷ older) finds step own is found looks = let mine = steps_by who older in
        dite (ℕ_discrete x.0 who)
        (λ (it : x.0 ≡ who). let last : x.1 ∷ mine ≡ step ∷ own
        = ap (λ (b : Bool). cond b (x.1 ∷ mine) mine) (sym (eq-eqb x.0 who it)) ∙ is in
        let made : x.1 ≡ step = cc in let rest : mine ≡ own = cc in
        let there = looks (cells_of older) (subst (λ (s : Step R). FindsIn s (cells_of older)) made finds.2) in
        subst (λ (s : List (Step R)). AgreesWith s found) rest
        (subst (AgreesWith mine) (sym there) (agrees callers older finds.4)))
        (λ (ne : x.0 ≢ who). found_agrees callers older finds.4 step own
        (ap (λ (b : Bool). cond b (x.1 ∷ mine) mine) (sym (ne_eqb x.0 who ne)) ∙ is) found looks)

    -- a turn that it took fits a berth
    turn_fits : (turn : ℕ) (step : Step R) (c : Cells) (own : List (Step R)) → FindsIn step c
        → (HasTaken turn own → turn < TURNS) → HasTaken turn (step ∷ own) → turn < TURNS
    turn_fits turn (Bell (TakeTurn found)) c own finds was (inl it) = omega arith
    turn_fits turn (Bell (TakeTurn found)) c own finds was (inr taken) = was taken
    turn_fits turn step c own finds was taken = was taken

    pub taken_fits : (callers : ℕ) (h : History R) → EachFinds callers h → (turn : ℕ) → HasTaken turn (steps_by who h)
        → turn < TURNS
    taken_fits callers [] finds turn taken = absurd taken
    taken_fits callers (x ∷ older) finds turn taken = let mine = steps_by who older in dite (ℕ_discrete x.0 who)
        (λ (it : x.0 ≡ who). turn_fits turn x.1 (cells_of older) mine finds.2 (taken_fits callers older finds.4 turn)
        (subst (λ (b : Bool). HasTaken turn (cond b (x.1 ∷ mine) mine)) (eq-eqb x.0 who it) taken))
        (λ (ne : x.0 ≢ who). taken_fits callers older finds.4 turn
        (subst (λ (b : Bool). HasTaken turn (cond b (x.1 ∷ mine) mine)) (ne_eqb x.0 who ne) taken))

    -- ---- all who wait

    entered : (callers : ℕ) (step : Step R) (c : Cells) (own : List (Step R)) → who < callers → IsBy who step own
        → (IsIn own → IsThere who callers c) → IsIn (step ∷ own) → IsThere who callers (cells_after step c)
    entered callers (Word step) c own low may was now = was now
    entered callers (Post tag note value) c own low may was now = was now
    entered callers (Take tag zero value) c own low may was now = was now
    entered callers (Take tag (suc found) value) c own low may was now = was now
    entered callers (ReadNote tag found) c own low may was now = was now
    entered callers (Bell (Enter caller found)) c own low may was now = (
      low,
      may.0,
      subst (λ (n : ℕ). bit_at (bit_or c.waits.waiters (2 ^ n)) who ≡ 1) (sym may.1) (with-in c.waits.waiters who),
    )
    entered callers (Bell (Leave caller found)) c own low may was now = absurd now
    entered callers (Bell (LookAll found)) c own low may was now = was now
    entered callers (Bell (TakeTurn found)) c own low may was now = was now
    entered callers (Bell (Enlist caller waiter turn found)) c own low may was now = was now
    entered callers (Bell (LookAt whom found)) c own low may was now = was now
    entered callers (Bell (Tell whom waiter turn found)) c own low may was now = was now
    entered callers (Bell (GetUp caller found)) c own low may was now = was now

    still : (callers other : ℕ) → other ≢ who → (step : Step R) (c : Cells) (theirs : List (Step R))
        → IsBy other step theirs → IsThere who callers c → IsThere who callers (cells_after step c)
    still callers other ne (Word step) c theirs may was = was
    still callers other ne (Post tag note value) c theirs may was = was
    still callers other ne (Take tag zero value) c theirs may was = was
    still callers other ne (Take tag (suc found) value) c theirs may was = was
    still callers other ne (ReadNote tag found) c theirs may was = was
    still callers other ne (Bell (Enter caller found)) c theirs may was =
        (was.0, was.1, with-kept c.waits.waiters (2 ^ caller) who was.2)
    still callers other ne (Bell (Leave caller found)) c theirs may was = (
      was.0,
      was.1,
      without-else c.waits.waiters caller who (subst (λ (n : ℕ). n < MAX_CALLERS) (sym may.1.0) may.0) was.1
          (λ is. ne (sym (is ∙ may.1.0))) was.2,
    )
    still callers other ne (Bell (LookAll found)) c theirs may was = was
    still callers other ne (Bell (TakeTurn found)) c theirs may was = was
    still callers other ne (Bell (Enlist caller waiter turn found)) c theirs may was = was
    still callers other ne (Bell (LookAt whom found)) c theirs may was = was
    still callers other ne (Bell (Tell whom waiter turn found)) c theirs may was = was
    still callers other ne (Bell (GetUp caller found)) c theirs may was = was

    is_in : (callers : ℕ) (h : History R) → EachFinds callers h → IsIn (steps_by who h) → IsThere who callers (cells_of h)
    is_in callers [] finds now = absurd now
    is_in callers (x ∷ older) finds now = let mine = steps_by who older in dite (ℕ_discrete x.0 who)
        (λ (it : x.0 ≡ who). entered callers x.1 (cells_of older) mine (subst (λ (n : ℕ). n < callers) it finds.0)
        (subst (λ (n : ℕ). IsBy n x.1 (steps_by n older)) it finds.1) (is_in callers older finds.4)
        (subst (λ (b : Bool). IsIn (cond b (x.1 ∷ mine) mine)) (eq-eqb x.0 who it) now))
        (λ (ne : x.0 ≢ who). still callers x.0 ne x.1 (cells_of older) (steps_by x.0 older) finds.1
        (is_in callers older finds.4
        (subst (λ (b : Bool). IsIn (cond b (x.1 ∷ mine) mine)) (ne_eqb x.0 who ne) now)))

    -- whoever is not up is among all who wait
    pub is_there : (callers : ℕ) (h : History R) → EachFinds callers h → ¬ IsUp ((cells_of h).waits.berths who)
        → IsThere who callers (cells_of h)
    is_there callers h finds not = which ((cells_of h).waits.berths who) (agrees callers h finds) not
      where
        which : (b : Berth) → AgreesWith (steps_by who h) b → ¬ IsUp b → IsThere who callers (cells_of h)
        which Up is not = absurd (not tt)
        which (Listed waiter turn) is not = is_in callers h finds is.1
        which (Told waiter turn) is not = is_in callers h finds is.1
