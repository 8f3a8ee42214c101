-- Facts about one group, the active count and the wake index in a lawful history.
use Rattle.std.specs.Prelude.{◌%◌, ◌*◌, ◌+◌, ◌-◌, ◌/◌, ◌<◌, ◌∷◌, ◌≡◌, ◌≢◌, ◌≤◌}
use Rattle.wake_book.proofs.Uses.{[], active_at, ap, arith, dite, Enter, exchange_to, get_or, get_or-set_other, get_or-set_same, Grant, granted, group_at, groups_width, GroupStep, index_at, Lawful, le-sum_below, List, Look, Lower, MayStep, moved_in, one_waiting, own_else, own_here, own_steps, Raise}
use Rattle.wake_book.proofs.Uses.{raised, refl, stand, Store, subst, suc, sum_below, sum_below-add, sum_below-bound, sum_below-three, sym, total, total_all, totals, Use, waiting, Withdraw, word, words_after, words_in, ℕ, ℕ_discrete, ◌∙◌}
use Rattle.wake_book.proofs.GroupSteps.{Hist, here, entered, issued, used, withdrawn, ups, downs, yes_of, no_of, zeros, long, word_step, here_in, here_not, Own, own_step, Up, up_step, cas}

module _ (n : ℕ) where
  abbrev pub Ok : Hist → Type 0
  Ok h = Lawful n MayStep h

  -- what every step of a waiter preserves holds of each waiter's own steps
  pub each : (P : List GroupStep → Type 0) → P []
      → ((c : ℕ) (x : GroupStep) (h : Hist) → MayStep c x h → P (own_steps c h) → P (x ∷ own_steps c h)) → (h : Hist)
      → Ok h → (c : ℕ) → P (own_steps c h)
  each P base go [] l c = base
  each P base go (x ∷ h) l c = dite (ℕ_discrete c x.0)
      (λ (e : c ≡ x.0). subst (λ (z : ℕ). P (own_steps z (x ∷ h))) (sym e)
      (subst P (sym (own_here x.0 x.1 h)) (go x.0 x.1 h l.1 (each P base go h l.2 x.0))))
      (λ (ne : c ≢ x.0). subst P (sym (own_else c x.0 x.1 h ne)) (each P base go h l.2 c))

  own : (h : Hist) → Ok h → (g c : ℕ) → Own g (own_steps c h)
  own h l g c = each (Own g) (let z = here_not g 0 refl in omega arith) (λ d x k can o. own_step d g x k can o) h l c

  up : (h : Hist) → Ok h → (c : ℕ) → Up (own_steps c h)
  up h l c = each Up (omega arith, omega arith) up_step h l c

  -- the number of waiters in a group, and of those that have raised the active count
  abbrev pub standing : ℕ → Hist → ℕ
  standing g h = sum_below (λ c. here g (stand (own_steps c h))) n

  abbrev pub up_now : Hist → ℕ
  up_now h = sum_below (λ c. raised (own_steps c h)) n

  all_entered : (h : Hist) → Ok h → (g : ℕ) → total_all (entered g) h ≡ total_all (used g) h + total_all (withdrawn g) h
      + standing g h
  all_entered h l g = let e = totals n MayStep (entered g) h l in let u = totals n MayStep (used g) h l in
      let d = totals n MayStep (withdrawn g) h l in
      let s = sum_below-three (λ c. total (entered g) (own_steps c h)) (λ c. total (used g) (own_steps c h))
      (λ c. total (withdrawn g) (own_steps c h)) (λ c. here g (stand (own_steps c h))) n (λ c. own h l g c) in
      omega arith

  here_le : (g s : ℕ) → here g s ≤ 1
  here_le g s = dite (ℕ_discrete s (suc g)) (λ e. let z = yes_of s (suc g) 1 0 e in
      omega arith) (λ ne. let z = no_of s (suc g) 1 0 ne in omega arith)

  pub few_stand : (g : ℕ) (h : Hist) → standing g h ≤ n * 1
  few_stand g h = sum_below-bound (λ c. here g (stand (own_steps c h))) n 1 (λ c l. here_le g (stand (own_steps c h)))

  all_up : (h : Hist) → Ok h → total_all ups h ≡ total_all downs h + up_now h
  all_up h l = let e = totals n MayStep ups h l in let d = totals n MayStep downs h l in
      let s = sum_below-add (λ c. total ups (own_steps c h)) (λ c. total downs (own_steps c h)) (λ c. raised (own_steps c h))
      n (λ c _. (up h l c).0) in omega arith

  pub few_up : (h : Hist) → Ok h → up_now h ≤ n * 1
  few_up h l = sum_below-bound (λ c. raised (own_steps c h)) n 1 (λ c _. (up h l c).1)

  abbrev pub Bal : ℕ → Hist → Type 0
  Bal g h = (granted (word (words_in h) g) + total_all (used g) h ≡ total_all (issued g) h)
      × (waiting (word (words_in h) g) + total_all (issued g) h + total_all (withdrawn g) h ≡ total_all (entered g) h)

  -- the waiting and the granted of a group are the waiters in it
  pub balance : (g : ℕ) (h : Hist) → Ok h → Bal g h → waiting (word (words_in h) g) + granted (word (words_in h) g)
      ≡ standing g h
  balance g h l b = let x = b.0 in let y = b.1 in let z = all_entered h l g in omega arith

  bal_step : n ≤ 64 → (g : ℕ) (c : ℕ) (x : GroupStep) (h : Hist) → g < 8 → Ok h → c < n → MayStep c x h → Bal g h
      → Bal g ((c, x) ∷ h)
  bal_step few g c (Look i f) h s l k can b = let x = b.0 in let y = b.1 in let e = word_step c g (Look i f) h s can in
      (omega arith, omega arith)
  bal_step few g c (Raise f) h s l k can b = let x = b.0 in let y = b.1 in let e = word_step c g (Raise f) h s can in
      (omega arith, omega arith)
  bal_step few g c (Lower f) h s l k can b = let x = b.0 in let y = b.1 in let e = word_step c g (Lower f) h s can in
      (omega arith, omega arith)
  bal_step few g c (Store v) h s l k can b = let x = b.0 in let y = b.1 in let e = word_step c g (Store v) h s can in
      (omega arith, omega arith)
  bal_step few g c (Enter u f) h s l k can b = let x = b.0 in let y = b.1 in let w : ℕ = word (words_in h) g in
      let e = word_step c g (Enter u f) h s can in dite (ℕ_discrete u g)
      (λ z. let p = yes_of u g (w + one_waiting) w z in let q = yes_of u g 1 0 z in (omega arith, omega arith))
      (λ z. let p = no_of u g (w + one_waiting) w z in let q = no_of u g 1 0 z in (omega arith, omega arith))
  bal_step few g c (Grant u old m f) h s l k can b = let w : ℕ = word (words_in h) g in
      let U : ℕ = total_all (used g) h in let M : ℕ = total_all (issued g) h in let D : ℕ = total_all (withdrawn g) h in
      let E : ℕ = total_all (entered g) h in
      let x : w % one_waiting + U ≡ M = b.0 in let y : w / one_waiting + M + D ≡ E = b.1 in
      let room = balance g h l b in let most = few_stand g h in let le : m ≤ old / one_waiting = can.2 in
      let P : ℕ → ℕ → Type 0 = (λ w' a. (w' % one_waiting + U ≡ a + M) × (w' / one_waiting + (a + M) + D ≡ E)) in
      let t : P (word (words_in ((c, Grant u old m f) ∷ h)) g) (issued g (Grant u old m f)) =
      (subst (λ (w' : ℕ). P w' (issued g (Grant u old m f))) (sym (word_step c g (Grant u old m f) h s can))
      (cas g u f old (moved_in old m) m w P (λ e. can.0 ∙ ap (word (words_in h)) e)
      (λ e won. (omega arith, omega arith)) (omega arith, omega arith))) in let t0 = t.0 in let t1 = t.1 in
      (omega arith, omega arith)
  bal_step few g c (Use u old f) h s l k can b = let w : ℕ = word (words_in h) g in
      let U : ℕ = total_all (used g) h in let M : ℕ = total_all (issued g) h in let D : ℕ = total_all (withdrawn g) h in
      let E : ℕ = total_all (entered g) h in
      let x : w % one_waiting + U ≡ M = b.0 in let y : w / one_waiting + M + D ≡ E = b.1 in
      let some : 0 < old % one_waiting = can.2 in
      let P : ℕ → ℕ → Type 0 = (λ w' a. (w' % one_waiting + (a + U) ≡ M) × (w' / one_waiting + M + D ≡ E)) in
      let t : P (word (words_in ((c, Use u old f) ∷ h)) g) (used g (Use u old f)) =
      (subst (λ (w' : ℕ). P w' (used g (Use u old f))) (sym (word_step c g (Use u old f) h s can))
      (cas g u f old (old - 1) 1 w P (λ e. can.0 ∙ ap (word (words_in h)) e) (λ e won. (omega arith, omega arith))
      (omega arith, omega arith))) in let t0 = t.0 in let t1 = t.1 in (omega arith, omega arith)
  bal_step few g c (Withdraw u old f) h s l k can b = let w : ℕ = word (words_in h) g in
      let U : ℕ = total_all (used g) h in let M : ℕ = total_all (issued g) h in let D : ℕ = total_all (withdrawn g) h in
      let E : ℕ = total_all (entered g) h in
      let x : w % one_waiting + U ≡ M = b.0 in let y : w / one_waiting + M + D ≡ E = b.1 in
      let none : old % one_waiting ≡ 0 = can.2 in
      let room = balance g h l b in
      let P : ℕ → ℕ → Type 0 = (λ w' a. (w' % one_waiting + U ≡ M) × (w' / one_waiting + M + (a + D) ≡ E)) in
      let t : P (word (words_in ((c, Withdraw u old f) ∷ h)) g) (withdrawn g (Withdraw u old f)) =
      (subst (λ (w' : ℕ). P w' (withdrawn g (Withdraw u old f))) (sym (word_step c g (Withdraw u old f) h s can))
      (cas g u f old (old - one_waiting) 1 w P (λ e. can.0 ∙ ap (word (words_in h)) e)
      (λ e won. let stands_here = here_in g u (stand (own_steps c h)) can.3 in let one = yes_of u g 1 0 e in
      let has = le-sum_below (λ d. here g (stand (own_steps d h))) n c k in (omega arith, omega arith))
      (omega arith, omega arith))) in let t0 = t.0 in let t1 = t.1 in (omega arith, omega arith)

  pub balanced : n ≤ 64 → (g : ℕ) → g < 8 → (h : Hist) → Ok h → Bal g h
  balanced few g s [] l = let z = zeros groups_width (group_at g) in (omega arith, omega arith)
  balanced few g s (x ∷ h) l = bal_step few g x.0 x.1 h s l.2 l.0 l.1 (balanced few g s h l.2)

  active_step : (c : ℕ) (x : GroupStep) (h : Hist) → Ok h → c < n → MayStep c x h
      → get_or (words_in h) active_at 0 + total_all downs h ≡ total_all ups h
      → get_or (words_after x (words_in h)) active_at 0
      + (downs x + total_all downs h) ≡ ups x + total_all ups h
  active_step c (Look i f) h l k can b = omega arith
  active_step c (Raise f) h l k can b = let o = long h in
      let z = get_or-set_same (words_in h) active_at (get_or (words_in h) active_at 0 + 1) 0 (omega arith) in
      omega arith
  active_step c (Lower f) h l k can b = let o = long h in
      let z = get_or-set_same (words_in h) active_at (get_or (words_in h) active_at 0 - 1) 0 (omega arith) in
      let has = le-sum_below (λ d. raised (own_steps d h)) n c k in let one = can.1 in let a = all_up h l in omega arith
  active_step c (Enter u f) h l k can b = let z = get_or-set_other (words_in h) (group_at u) active_at
      (word (words_in h) u + one_waiting) 0 (λ e. let t = can.1 in absurd (omega arith)) in omega arith
  active_step c (Grant u old m f) h l k can b = let z = get_or-set_other (words_in h) (group_at u) active_at
      (exchange_to old (moved_in old m) (word (words_in h) u)) 0 (λ e. let t = can.1 in absurd (omega arith)) in
      omega arith
  active_step c (Use u old f) h l k can b = let z = get_or-set_other (words_in h) (group_at u) active_at
      (exchange_to old (old - 1) (word (words_in h) u)) 0 (λ e. let t = can.1 in absurd (omega arith)) in omega arith
  active_step c (Withdraw u old f) h l k can b = let z = get_or-set_other (words_in h) (group_at u) active_at
      (exchange_to old (old - one_waiting) (word (words_in h) u)) 0 (λ e. let t = can.1 in absurd (omega arith)) in
      omega arith
  active_step c (Store v) h l k can b = let z = get_or-set_other (words_in h) index_at active_at v 0
      (λ e. absurd (omega arith)) in
      omega arith

  active_fold : (h : Hist) → Ok h → get_or (words_in h) active_at 0 + total_all downs h ≡ total_all ups h
  active_fold [] l = omega arith
  active_fold (x ∷ h) l = active_step x.0 x.1 h l.2 l.0 l.1 (active_fold h l.2)

  -- the active count is the number of waiters that have raised it
  pub active_is : (h : Hist) → Ok h → get_or (words_in h) active_at 0 ≡ up_now h
  active_is h l = let a = active_fold h l in let b = all_up h l in omega arith

  -- a waiter in a group is counted there, and one that has raised the active count is counted in it
  pub some_stand : (c g : ℕ) (h : Hist) → c < n → stand (own_steps c h) ≡ suc g → 1 ≤ standing g h
  some_stand c g h k e = let a = here_in g g (stand (own_steps c h)) e in let b = yes_of g g 1 0 refl in
      let has = le-sum_below (λ d. here g (stand (own_steps d h))) n c k in omega arith

  pub some_up : (c : ℕ) (h : Hist) → c < n → raised (own_steps c h) ≡ 1 → 1 ≤ up_now h
  some_up c h k e = let has = le-sum_below (λ d. raised (own_steps d h)) n c k in omega arith

  index_step : (c : ℕ) (x : GroupStep) (h : Hist) → MayStep c x h → get_or (words_in h) index_at 0 < 8
      → get_or (words_after x (words_in h)) index_at 0 < 8
  index_step c (Look i f) h can b = b
  index_step c (Raise f) h can b = let z = get_or-set_other (words_in h) active_at index_at
      (get_or (words_in h) active_at 0 + 1) 0
      (λ e. absurd (omega arith)) in omega arith
  index_step c (Lower f) h can b = let z = get_or-set_other (words_in h) active_at index_at
      (get_or (words_in h) active_at 0 - 1) 0
      (λ e. absurd (omega arith)) in omega arith
  index_step c (Enter u f) h can b = let z = get_or-set_other (words_in h) (group_at u) index_at
      (word (words_in h) u + one_waiting) 0 (λ e. let t = can.1 in absurd (omega arith)) in omega arith
  index_step c (Grant u old m f) h can b = let z = get_or-set_other (words_in h) (group_at u) index_at
      (exchange_to old (moved_in old m) (word (words_in h) u)) 0 (λ e. let t = can.1 in absurd (omega arith)) in
      omega arith
  index_step c (Use u old f) h can b = let z = get_or-set_other (words_in h) (group_at u) index_at
      (exchange_to old (old - 1) (word (words_in h) u)) 0 (λ e. let t = can.1 in absurd (omega arith)) in omega arith
  index_step c (Withdraw u old f) h can b = let z = get_or-set_other (words_in h) (group_at u) index_at
      (exchange_to old (old - one_waiting) (word (words_in h) u)) 0 (λ e. let t = can.1 in absurd (omega arith)) in
      omega arith
  index_step c (Store v) h can b = let o = long h in let z = get_or-set_same (words_in h) index_at v 0 (omega arith) in
      omega arith

  pub index_small : (h : Hist) → Ok h → get_or (words_in h) index_at 0 < 8
  index_small [] l = omega arith
  index_small (x ∷ h) l = index_step x.0 x.1 h l.1 (index_small h l.2)
