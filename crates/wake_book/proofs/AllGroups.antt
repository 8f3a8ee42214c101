-- Sums over all groups and all waiters of a lawful history.
use Rattle.std.specs.Prelude.{◌+◌, ◌^◌, ◌∷◌, ◌≡◌, ◌≤◌}
use Rattle.wake_book.proofs.Uses.{[], arith, cond, dite, Enter, Grant, granted, GroupStep, Look, Lower, MayStep, moved_by, nat_eq, own_steps, Raise, raised, refl, stand, Store, sum_below, sum_below-add, sum_below-only, sum_below-same, sum_below-zero, sym, total, total_all, Use, used_by, Withdraw}
use Rattle.wake_book.proofs.Uses.{word, words_in, ℕ, ℕ_discrete, ◌∙◌}
use Rattle.wake_book.proofs.GroupSteps.{Hist, at_group, issued, used, yes_of, no_of}
use Rattle.wake_book.proofs.Standing.{Ok, each, balanced}

module _ (n : ℕ) where
  moved_in_groups : (c : ℕ) (x : GroupStep) (h : Hist) → MayStep c x h → moved_by x ≡ sum_below (λ g. issued g x) 8
  moved_in_groups c (Look i f) h can = sym (sum_below-zero 8)
  moved_in_groups c (Raise f) h can = sym (sum_below-zero 8)
  moved_in_groups c (Lower f) h can = sym (sum_below-zero 8)
  moved_in_groups c (Enter u f) h can = sym (sum_below-zero 8)
  moved_in_groups c (Grant u old m f) h can =
      sym (sum_below-only (λ g. at_group g u f old m) 8 u can.1
      (λ g l ne. no_of u g (cond (nat_eq f old) m 0) 0 (λ e. ne (sym e))) ∙ yes_of u u (cond (nat_eq f old) m 0) 0 refl)
  moved_in_groups c (Use u old f) h can = sym (sum_below-zero 8)
  moved_in_groups c (Withdraw u old f) h can = sym (sum_below-zero 8)
  moved_in_groups c (Store v) h can = sym (sum_below-zero 8)

  used_in_groups : (c : ℕ) (x : GroupStep) (h : Hist) → MayStep c x h → used_by x ≡ sum_below (λ g. used g x) 8
  used_in_groups c (Look i f) h can = sym (sum_below-zero 8)
  used_in_groups c (Raise f) h can = sym (sum_below-zero 8)
  used_in_groups c (Lower f) h can = sym (sum_below-zero 8)
  used_in_groups c (Enter u f) h can = sym (sum_below-zero 8)
  used_in_groups c (Grant u old m f) h can = sym (sum_below-zero 8)
  used_in_groups c (Use u old f) h can =
      sym (sum_below-only (λ g. at_group g u f old 1) 8 u can.1
      (λ g l ne. no_of u g (cond (nat_eq f old) 1 0) 0 (λ e. ne (sym e))) ∙ yes_of u u (cond (nat_eq f old) 1 0) 0 refl)
  used_in_groups c (Withdraw u old f) h can = sym (sum_below-zero 8)
  used_in_groups c (Store v) h can = sym (sum_below-zero 8)

  all_moved : (h : Hist) → Ok n h → total_all moved_by h ≡ sum_below (λ g. total_all (issued g) h) 8
  all_moved [] l = sym (sum_below-zero 8)
  all_moved (x ∷ h) l = let a = all_moved h l.2 in let b = moved_in_groups x.0 x.1 h l.1 in
      let s = sum_below-add (λ g. total_all (issued g) (x ∷ h)) (λ g. issued g x.1) (λ g. total_all (issued g) h) 8
      (λ g _. refl) in omega arith

  all_used : (h : Hist) → Ok n h → total_all used_by h ≡ sum_below (λ g. total_all (used g) h) 8
  all_used [] l = sym (sum_below-zero 8)
  all_used (x ∷ h) l = let a = all_used h l.2 in let b = used_in_groups x.0 x.1 h l.1 in
      let s = sum_below-add (λ g. total_all (used g) (x ∷ h)) (λ g. used g x.1) (λ g. total_all (used g) h) 8 (λ g _. refl) in
      omega arith

  -- each waiter moved to granted has used its grant, or the grant is still unused
  pub all_issued : n ≤ 64 → (h : Hist) → Ok n h → total_all moved_by h ≡ total_all used_by h
      + sum_below (λ g. granted (word (words_in h) g)) 8
  all_issued few h l = let m = all_moved h l in let u = all_used h l in
      let same = sum_below-same (λ g. total_all (issued g) h) (λ g. granted (word (words_in h) g) + total_all (used g) h) 8
      (λ g less. sym (balanced n few g less h l).0) in
      let parts = sum_below-add (λ g. granted (word (words_in h) g) + total_all (used g) h)
      (λ g. granted (word (words_in h) g)) (λ g. total_all (used g) h) 8 (λ g _. refl) in omega arith

  moved_step : (c : ℕ) (x : GroupStep) (h : Hist) → MayStep c x h → total moved_by (own_steps c h) ≤ 2 ^ 56
      → total moved_by (x ∷ own_steps c h) ≤ 2 ^ 56
  moved_step c (Look i f) h can o = omega arith
  moved_step c (Raise f) h can o = omega arith
  moved_step c (Lower f) h can o = omega arith
  moved_step c (Enter u f) h can o = omega arith
  moved_step c (Grant u old m f) h can o = let cap = can.3 in
      dite (ℕ_discrete f old) (λ e. let z = yes_of f old m 0 e in omega arith) (λ ne. let z = no_of f old m 0 ne in
      omega arith)
  moved_step c (Use u old f) h can o = omega arith
  moved_step c (Withdraw u old f) h can o = omega arith
  moved_step c (Store v) h can o = omega arith

  -- no waiter moves more than 2^56
  pub moved_capped : (h : Hist) → Ok n h → (c : ℕ) → total moved_by (own_steps c h) ≤ 2 ^ 56
  moved_capped h l c = each n (λ s. total moved_by s ≤ 2 ^ 56) (omega arith) moved_step h l c

  stands_up : (c : ℕ) (x : GroupStep) (h : Hist) → MayStep c x h
      → (1 ≤ stand (own_steps c h) → raised (own_steps c h) ≡ 1) → 1 ≤ stand (x ∷ own_steps c h)
      → raised (x ∷ own_steps c h) ≡ 1
  stands_up c (Look i f) h can o e = o e
  stands_up c (Raise f) h can o e = refl
  stands_up c (Lower f) h can o e = let out = can.2 in absurd (omega arith)
  stands_up c (Enter u f) h can o e = can.2
  stands_up c (Grant u old m f) h can o e = o e
  stands_up c (Use u old f) h can o e = let at = can.3 in o (omega arith)
  stands_up c (Withdraw u old f) h can o e = let at = can.3 in o (omega arith)
  stands_up c (Store v) h can o e = o e

  -- a waiter that is in a group has raised the active count
  pub who_stands : (h : Hist) → Ok n h → (c : ℕ) → 1 ≤ stand (own_steps c h) → raised (own_steps c h) ≡ 1
  who_stands h l c = each n (λ s. 1 ≤ stand s → raised s ≡ 1) (λ e. absurd (omega arith)) stands_up h l c
