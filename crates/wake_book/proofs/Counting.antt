-- Facts about the lawful histories of a book.
use Rattle.std.specs.Prelude.{◌*◌, ◌+◌, ◌-◌, ◌<◌, ◌∷◌, ◌≡◌, ◌≢◌, ◌≤◌}
use Rattle.wake_book.proofs.Uses.{[], Add, added, Advance, ap, arith, book_width, BookStep, Bool, charged, completions_at, completions_in, cond, covers, dite, eq-eqb, exchange_to, get_elem?, get_or, get_or-set_other, get_or-set_same, Lawful, le-sum_below, length, length-set, Limits, List}
use Rattle.wake_book.proofs.Uses.{LookCompletions, LookWakeups, LosesTries, min, ne_eqb, one_if, own_else, own_here, own_steps, refl, some-injective, subst, suc, sum_below, sum_below-bound, sym, taken, total, total_all, totals, wakeups_at, wakeups_in, zero, ℕ, ℕ_discrete, ◌∙◌}
use Rattle.wake_book.specs.Charges.{words_after, words_in}
use Rattle.wake_book.specs.Charges.{MayStep}

abbrev Hist : Type 0
Hist = List (ℕ × BookStep)

head_same : (x y : BookStep) (xs ys : List BookStep) → x ∷ xs ≡ y ∷ ys → x ≡ y
head_same x y xs ys e = some-injective x y (ap (λ (l : List BookStep). get_elem? l 0) e)

-- ---- one step

long_step : (x : BookStep) (ws : List ℕ) → length (words_after x ws) ≡ length ws
long_step (LookCompletions f) ws = refl
long_step (LookWakeups f) ws = refl
long_step (Add n f) ws = length-set ws completions_at _
long_step (Advance a b f) ws = length-set ws wakeups_at _

completions_step : (x : BookStep) (ws : List ℕ) → length ws ≡ book_width → get_or (words_after x ws) completions_at 0
    ≡ added x
    + get_or ws completions_at 0
completions_step (LookCompletions f) ws l = omega arith
completions_step (LookWakeups f) ws l = omega arith
completions_step (Add n f) ws l = get_or-set_same ws completions_at (get_or ws completions_at 0 + n) 0 (omega arith)
    ∙ omega arith
completions_step (Advance a b f) ws l = get_or-set_other ws wakeups_at completions_at _ 0 (λ e. absurd (omega arith))
    ∙ omega arith

abbrev wakeups_after : BookStep → ℕ → ℕ
wakeups_after (LookCompletions f) w = w
wakeups_after (LookWakeups f) w = w
wakeups_after (Add n f) w = w
wakeups_after (Advance a b f) w = exchange_to a b w

wakeups_step : (x : BookStep) (ws : List ℕ) → length ws ≡ book_width → get_or (words_after x ws) wakeups_at 0
    ≡ wakeups_after x
    (get_or ws wakeups_at 0)
wakeups_step (LookCompletions f) ws l = refl
wakeups_step (LookWakeups f) ws l = refl
wakeups_step (Add n f) ws l = get_or-set_other ws completions_at wakeups_at _ 0 (λ e. absurd (omega arith))
wakeups_step (Advance a b f) ws l = get_or-set_same ws wakeups_at _ 0 (omega arith)

pub moves : (a b w : ℕ) → w ≡ a → exchange_to a b w ≡ b
moves a b w e = ap (λ (z : Bool). cond z b w) (eq-eqb w a e)

pub misses : (a b w : ℕ) → w ≢ a → exchange_to a b w ≡ w
misses a b w e = ap (λ (z : Bool). cond z b w) (ne_eqb w a e)

-- ---- a history

pub long : (h : Hist) → length (words_in h) ≡ book_width
long [] = refl
long (x ∷ h) = long_step x.1 (words_in h) ∙ long h

pub completions_are : (h : Hist) → completions_in h ≡ total_all added h
completions_are [] = refl
completions_are (x ∷ h) = completions_step x.1 (words_in h) (long h) ∙ ap (λ (z : ℕ). added x.1 + z) (completions_are h)

wakeups_next : (c : ℕ) (x : BookStep) (h : Hist) → wakeups_in ((c, x) ∷ h) ≡ wakeups_after x (wakeups_in h)
wakeups_next c x h = wakeups_step x (words_in h) (long h)

completions_next : (c : ℕ) (x : BookStep) (h : Hist) → completions_in ((c, x) ∷ h) ≡ added x + completions_in h
completions_next c x h = completions_step x (words_in h) (long h)

module _ (k : Limits) where
  abbrev Ok : Hist → Type 0
  Ok h = Lawful k.tellers (MayStep k) h

  abbrev own_count : ℕ → Hist → ℕ
  own_count c h = total added (own_steps c h)

  count_step : (c : ℕ) (x : BookStep) (h : Hist) → MayStep k c x h → own_count c h ≤ k.cap
      → added x + own_count c h ≤ k.cap
  count_step c (LookCompletions f) h can le = omega arith
  count_step c (LookWakeups f) h can le = omega arith
  count_step c (Add n f) h can le = let z = can.1 in omega arith
  count_step c (Advance a b f) h can le = omega arith

  -- no teller counts more than the cap
  pub capped : (h : Hist) → Ok h → (c : ℕ) → own_count c h ≤ k.cap
  capped [] l c = omega arith
  capped (x ∷ h) l c = let ih = capped h l.2 in dite (ℕ_discrete c x.0)
      (λ (e : c ≡ x.0). subst (λ (z : ℕ). own_count z (x ∷ h) ≤ k.cap) (sym e)
      (subst (λ (z : List BookStep). total added z ≤ k.cap) (sym (own_here x.0 x.1 h))
      (count_step x.0 x.1 h l.1 (ih x.0))))
      (λ (ne : c ≢ x.0). subst (λ (z : List BookStep). total added z ≤ k.cap) (sym (own_else c x.0 x.1 h ne)) (ih c))

  -- the completions are the sum of the tellers' counts
  pub counted : (h : Hist) → Ok h → sum_below (λ c. own_count c h) k.tellers ≡ completions_in h
  counted h l = totals k.tellers (MayStep k) added h l ∙ sym (completions_are h)

  pub bounded : (h : Hist) → Ok h → completions_in h ≤ k.tellers * k.cap
  bounded h l = let a = counted h l in let b = sum_below-bound (λ c. own_count c h) k.tellers k.cap (λ c _. capped h l c) in
      omega arith

  le_step : (x : BookStep) (c : ℕ) (h : Hist) → MayStep k c x h → wakeups_in h ≤ completions_in h
      → wakeups_after x (wakeups_in h) ≤ added x + completions_in h
  le_step (LookCompletions f) c h can le = omega arith
  le_step (LookWakeups f) c h can le = omega arith
  le_step (Add n f) c h can le = omega arith
  le_step (Advance a b f) c h can le = let z = can.2 in dite (ℕ_discrete (wakeups_in h) a)
      (λ e. let m = moves a b (wakeups_in h) e in omega arith)
      (λ ne. let m = misses a b (wakeups_in h) ne in omega arith)

  -- at most what was counted is charged
  pub charged_le : (h : Hist) → Ok h → wakeups_in h ≤ completions_in h
  charged_le [] l = omega arith
  charged_le (x ∷ h) l = let a = wakeups_next x.0 x.1 h in let b = completions_next x.0 x.1 h in
      let z = le_step x.1 x.0 h l.1 (charged_le h l.2) in omega arith

  -- completions that a teller found are at most those now
  pub saw : (c d : ℕ) (rest : List BookStep) (h : Hist) → Ok h → own_steps c h ≡ LookCompletions d ∷ rest
      → d ≤ completions_in h
  saw c d rest [] l e = absurd (nothing e)
    where
      nothing : {d : ℕ} {rest : List BookStep} → ◌≡◌ {A = List BookStep} [] (LookCompletions d ∷ rest) → ⊥
      nothing e = cc
  saw c d rest (x ∷ h) l e = let grow = completions_next x.0 x.1 h in dite (ℕ_discrete c x.0)
      (λ (same : c ≡ x.0).
      let heads : x.1 ∷ own_steps x.0 h ≡ LookCompletions d ∷ rest = sym (own_here x.0 x.1 h)
      ∙ ap (λ (z : ℕ). own_steps z (x ∷ h)) (sym same) ∙ e in
      let f : MayStep k x.0 (LookCompletions d) h = subst (λ (z : BookStep). MayStep k x.0 z h)
      (head_same x.1 (LookCompletions d) (own_steps x.0 h) rest heads) l.1 in omega arith)
      (λ (ne : c ≢ x.0). let ih = saw c d rest h l.2 (sym (own_else c x.0 x.1 h ne) ∙ e) in omega arith)

  cover_step : (y : ℕ) (x : BookStep) (c : ℕ) (h : Hist) → MayStep k c x h → covers y x + min 1 (wakeups_in h - y)
      ≡ min 1 (wakeups_after x (wakeups_in h) - y)
  cover_step y (LookCompletions f) c h can = omega arith
  cover_step y (LookWakeups f) c h can = omega arith
  cover_step y (Add n f) c h can = omega arith
  cover_step y (Advance a b f) c h can = let found = can.0 in let less = can.1 in dite (ℕ_discrete f a)
      (λ (e : f ≡ a). let m = moves a b (wakeups_in h) (sym found ∙ e) in
      let w = ap (λ (z : Bool). cond z (min 1 (b - y) - min 1 (a - y)) 0) (eq-eqb f a e) in omega arith)
      (λ (ne : f ≢ a). let m = misses a b (wakeups_in h) (λ z. ne (found ∙ z)) in
      let w = ap (λ (z : Bool). cond z (min 1 (b - y) - min 1 (a - y)) 0) (ne_eqb f a ne) in omega arith)

  covered : (y : ℕ) (h : Hist) → Ok h → total_all (covers y) h ≡ min 1 (wakeups_in h - y)
  covered y [] l = omega arith
  covered y (x ∷ h) l = let a = covered y h l.2 in let b = cover_step y x.1 x.0 h l.1 in
      let d = wakeups_next x.0 x.1 h in omega arith

  -- each number below charged lies in exactly one interval of one teller, and no other number in any
  pub tiles : (h : Hist) → Ok h → (y : ℕ) → sum_below (λ c. total (covers y) (own_steps c h)) k.tellers
      ≡ min 1 (wakeups_in h - y)
  tiles h l y = totals k.tellers (MayStep k) (covers y) h l ∙ covered y h l

  rise_step : (x : BookStep) (c : ℕ) (h : Hist) → MayStep k c x h
      → charged x + wakeups_in h ≤ wakeups_after x (wakeups_in h)
  rise_step (LookCompletions f) c h can = omega arith
  rise_step (LookWakeups f) c h can = omega arith
  rise_step (Add n f) c h can = omega arith
  rise_step (Advance a b f) c h can = let found = can.0 in let less = can.1 in dite (ℕ_discrete f a)
      (λ (e : f ≡ a). let m = moves a b (wakeups_in h) (sym found ∙ e) in let w = ap one_if (eq-eqb f a e) in
      omega arith)
      (λ (ne : f ≢ a). let m = misses a b (wakeups_in h) (λ z. ne (found ∙ z)) in let w = ap one_if (ne_eqb f a ne) in
      omega arith)

  -- each charge took at least one completion
  pub charges_le : (h : Hist) → Ok h → total_all charged h ≤ wakeups_in h
  charges_le [] l = omega arith
  charges_le (x ∷ h) l = let a = charges_le h l.2 in let b = wakeups_next x.0 x.1 h in
      let d = rise_step x.1 x.0 h l.1 in omega arith

  taken_step : (x : BookStep) (c : ℕ) (h : Hist) → MayStep k c x h
      → taken x + wakeups_in h ≡ wakeups_after x (wakeups_in h)
  taken_step (LookCompletions f) c h can = omega arith
  taken_step (LookWakeups f) c h can = omega arith
  taken_step (Add n f) c h can = omega arith
  taken_step (Advance a b f) c h can = let found = can.0 in let less = can.1 in dite (ℕ_discrete f a)
      (λ (e : f ≡ a). let m = moves a b (wakeups_in h) (sym found ∙ e) in
      let w = ap (λ (z : Bool). cond z (b - a) 0) (eq-eqb f a e) in omega arith)
      (λ (ne : f ≢ a). let m = misses a b (wakeups_in h) (λ z. ne (found ∙ z)) in
      let w = ap (λ (z : Bool). cond z (b - a) 0) (ne_eqb f a ne) in omega arith)

  -- the wakeups are the sum of what the tellers' charges took
  pub taken_is : (h : Hist) → Ok h → total_all taken h ≡ wakeups_in h
  taken_is [] l = omega arith
  taken_is (x ∷ h) l = let a = taken_is h l.2 in let b = wakeups_next x.0 x.1 h in let d = taken_step x.1 x.0 h l.1 in
      omega arith

  -- a teller's count is at most the completions
  pub own_le : (c : ℕ) (h : Hist) → Ok h → c < k.tellers → own_count c h ≤ completions_in h
  own_le c h l less = let a = counted h l in let b = le-sum_below (λ d. own_count d h) k.tellers c less in omega arith

  -- wakeups that a teller found are at most those now
  pub saw_wakeups : (c w : ℕ) (rest : List BookStep) (h : Hist) → Ok h → own_steps c h ≡ LookWakeups w ∷ rest
      → w ≤ wakeups_in h
  saw_wakeups c w rest [] l e = absurd (nothing e)
    where
      nothing : {w : ℕ} {rest : List BookStep} → ◌≡◌ {A = List BookStep} [] (LookWakeups w ∷ rest) → ⊥
      nothing e = cc
  saw_wakeups c w rest (x ∷ h) l e = let grow = wakeups_next x.0 x.1 h in let more = rise_step x.1 x.0 h l.1 in
      dite (ℕ_discrete c x.0)
      (λ (same : c ≡ x.0).
      let heads : x.1 ∷ own_steps x.0 h ≡ LookWakeups w ∷ rest = sym (own_here x.0 x.1 h)
      ∙ ap (λ (z : ℕ). own_steps z (x ∷ h)) (sym same) ∙ e in
      let f : MayStep k x.0 (LookWakeups w) h = subst (λ (z : BookStep). MayStep k x.0 z h)
      (head_same x.1 (LookWakeups w) (own_steps x.0 h) rest heads) l.1 in omega arith)
      (λ (ne : c ≢ x.0). let ih = saw_wakeups c w rest h l.2 (sym (own_else c x.0 x.1 h ne) ∙ e) in omega arith)

-- a lost try takes three steps
pub lost_long : (k b : ℕ) (s s' : List BookStep) → LosesTries k b s s' → length s' ≡ 3 * k + length s
lost_long zero b s s' l = ap length l ∙ omega arith
lost_long (suc k) b s s' l = let ih = lost_long k b s l.3 l.4 in ap length l.7 ∙ omega arith
