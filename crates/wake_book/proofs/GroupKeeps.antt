-- Each kind of step on the groups preserves their rule, and the waiter learns from it what its play says.
use Rattle.std.specs.Prelude.{◌%◌, ◌+◌, ◌-◌, ◌<◌, ◌^◌, ◌≡◌, ◌≤◌}
use Rattle.wake_book.proofs.Uses.{active_at, Allows, allows, ap, arith, carried_after, either, Enter, entering, eqb, exchange_to, exchanged, get_or, Grant, granted, granting, group_at, GroupsRule, GroupStep, index_at, inl, inr, IsCalledFor, IsWayOut, Lawful, leaving, Left, List, Look, looked_active}
use Rattle.wake_book.proofs.Uses.{looked_group, looked_index, Lower, lowering, MayStep, Me, moved_by, moved_in, none, one_waiting, own_steps, own_view, push, Raise, raised, raising, Record, Records, refl, set, set-get_or, stand, Step, step, Stepped, steps_of, Store, storing, subst, suc, sym, total}
use Rattle.wake_book.proofs.Uses.{Unwoken, Use, waiting, Withdraw, Woken, word, words_after, words_in, ℕ, ◌∙◌}
use Rattle.wake_book.specs.Waits.{opening_words}
use Rattle.wake_book.proofs.Counting.{moves, misses}
use Rattle.wake_book.proofs.Standing.{balanced, balance, few_stand, active_is, few_up, some_stand, some_up, index_small}

module _ {S : Type 0} (n : ℕ) (few : n ≤ 64) (slots id : ℕ) (m : Me S (Records GroupStep)) (r : Record GroupStep)
    (is : m.0 ≡ own_view r) where
  own : r.steps ≡ steps_of m.0
  own = ap steps_of (sym is)

  -- a group has at most 64 waiting and granted together
  small : (g : ℕ) → g < 8 → (h : List (ℕ × GroupStep)) → Lawful n MayStep h
      → waiting (word (words_in h) g) + granted (word (words_in h) g) ≤ 64
  small g s h l = let a = balance n g h l (balanced n few g s h l) in let b = few_stand n g h in omega arith

  -- a step on the word at a group's index is a step on that group's word
  pub placed : (i g : ℕ) → i ≡ group_at g
      → (f : ℕ → ℕ) (a b : ℕ) (then : Step S → Me S (Records GroupStep) → ℕ → Me S (Records GroupStep) → Type 0)
      → Allows (GroupsRule n) slots id m (group_at g) f (then (step slots (group_at g) a b none) m)
      → Allows (GroupsRule n) slots id m i f (then (step slots i a b none) m)
  placed i g e f a b then at = subst (λ (z : ℕ). Allows (GroupsRule n) slots id m z f (then (step slots z a b none) m))
      (sym e) at

  pub active : Allows (GroupsRule n) slots id m active_at (λ v. v) (looked_active (step slots active_at 0 0 none) m)
  active = allows n opening_words words_after MayStep slots id m r is active_at (λ v. v) (λ v. Look active_at v)
      (λ v. raised (steps_of m.0) ≡ 1 → 1 ≤ v)
      (λ h l kn st low. (
        refl,
        set-get_or (words_in h) active_at 0,
        λ e. let a = active_is n h l in
            let b = some_up n r.number h kn (ap raised (sym st ∙ own) ∙ e) in omega arith,
      ))

  pub index : Allows (GroupsRule n) slots id m index_at (λ v. v) (looked_index (step slots index_at 0 0 none) m)
  index = allows n opening_words words_after MayStep slots id m r is index_at (λ v. v) (λ v. Look index_at v)
      (λ v. v < 8)
      (λ h l kn st low. (refl, set-get_or (words_in h) index_at 0, index_small n h l))

  pub group : (u : ℕ) → u < 8 → Allows (GroupsRule n) slots id m (group_at u) (λ v. v)
      (looked_group (step slots (group_at u) 0 0 none) m)
  group u s = allows n opening_words words_after MayStep slots id m r is (group_at u) (λ v. v)
      (λ v. Look (group_at u) v) (λ v. (g : ℕ) → group_at u ≡ group_at g → stand (steps_of m.0) ≡ suc g → granted v ≡ 0
      → 1 ≤ waiting v)
      (λ h l kn st low. (
        refl,
        set-get_or (words_in h) (group_at u) 0,
        λ g e stands none. let b = balance n u h l (balanced n few u s h l) in let same : suc g ≡ suc u = omega arith in
            let c = some_stand n r.number u h kn (ap stand (sym st ∙ own) ∙ stands ∙ same) in omega arith,
      ))

  pub raise : raised r.steps ≡ 0 → Allows (GroupsRule n) slots id m active_at (λ v. (v + 1) % 2 ^ 64)
      (raising (step slots active_at 1 0 none) m)
  raise down s kept deep at lw = let z = allows n opening_words words_after MayStep slots id m r is active_at
      (λ v. (v + 1) % 2 ^ 64) (λ v. Raise v) (λ v. Unit {0})
      (λ h l kn st low. let a = active_is n h l in let b = few_up n h l in
      let fits : (get_or (words_in h) active_at 0 + 1) % 2 ^ 64 ≡ get_or (words_in h) active_at 0 + 1 = omega arith in
      ((refl, ap raised (sym st) ∙ down), ap (set (words_in h) active_at) fits, tt)) s kept deep at lw in
      (z.0, z.1, z.2, z.3, z.4.0)

  pub lower : raised r.steps ≡ 1 → stand r.steps ≡ 0
      → Allows (GroupsRule n) slots id m active_at (λ v. (v + (2 ^ 64 - 1)) % 2 ^ 64)
      (lowering (step slots active_at 1 0 none) m)
  lower up out s kept deep at lw = let z = allows n opening_words words_after MayStep slots id m r is active_at
      (λ v. (v + (2 ^ 64 - 1)) % 2 ^ 64) (λ v. Lower v) (λ v. Unit {0})
      (λ h l kn st low. let a = active_is n h l in let b = few_up n h l in
      let d = some_up n r.number h kn (ap raised (sym st) ∙ up) in
      let fits : (get_or (words_in h) active_at 0 + (2 ^ 64 - 1)) % 2 ^ 64 ≡ get_or (words_in h) active_at 0 - 1 =
      omega arith in
      ((refl, ap raised (sym st) ∙ up, ap stand (sym st) ∙ out), ap (set (words_in h) active_at) fits, tt)) s kept deep
      at
      lw in (z.0, z.1, z.2, z.3, z.4.0)

  pub enter : (g : ℕ) → g < 8 → raised r.steps ≡ 1 → stand r.steps ≡ 0 → Allows (GroupsRule n) slots id m (group_at g)
      (λ v. (v + one_waiting) % 2 ^ 64) (entering (step slots (group_at g) one_waiting 0 none) m)
  enter g few_g up out s kept deep at lw = let z = allows n opening_words words_after MayStep slots id m r is
      (group_at g) (λ v. (v + one_waiting) % 2 ^ 64) (λ v. Enter g v) (λ v. Unit {0})
      (λ h l kn st low. let a = small g few_g h l in
      let fits : (word (words_in h) g + one_waiting) % 2 ^ 64 ≡ word (words_in h) g + one_waiting = omega arith in
      ((refl, few_g, ap raised (sym st) ∙ up, ap stand (sym st) ∙ out), ap (set (words_in h) (group_at g)) fits, tt)) s
      kept deep at lw in (
        z.0,
        z.1,
        z.2,
        z.3,
        λ u e. let same : g ≡ u = omega arith in
            z.4.0 ∙ ap (λ (x : ℕ). (push (Enter x (get_or s.words (group_at g) 0)) m.0, m.1)) same,
      )

  swapped : (g old new : ℕ) (h : List (ℕ × GroupStep))
      → set (words_in h) (group_at g) (either (eqb (word (words_in h) g) old) new (word (words_in h) g))
      ≡ set (words_in h) (group_at g) (exchange_to old new (word (words_in h) g))
  swapped g old new h = let w : ℕ = word (words_in h) g in
      ap (set (words_in h) (group_at g)) (exchanged w old new (λ (x : ℕ). x ≡ exchange_to old new w)
      (λ e. sym (moves old new w e)) (λ ne. sym (misses old new w ne)))

  pub grant : (g k old new : ℕ) → g < 8 → k ≤ waiting old → total moved_by r.steps + k ≤ 2 ^ 56 → new ≡ moved_in old k
      → Allows (GroupsRule n) slots id m (group_at g) (λ v. either (eqb v old) new v)
      (granting (step slots (group_at g) old new none) m)
  grant g k old new few_g le low is_new s kept deep at lw = let z = allows n opening_words words_after MayStep slots id
      m r is (group_at g) (λ v. either (eqb v old) new v) (λ v. Grant g old k v) (λ v. Unit {0})
      (λ h l kn st lw. (
        (refl, few_g, le, subst (λ (x : List GroupStep). total moved_by x + k ≤ 2 ^ 56) st low),
        swapped g old new h ∙ ap (λ (y : ℕ). set (words_in h) (group_at g) (exchange_to old y (word (words_in h) g)))
            is_new,
        tt,
      )) s kept deep at lw in (
        z.0,
        z.1,
        z.2,
        z.3,
        λ u j e le' e'. let same : g ≡ u = omega arith in let one : k ≡ j = omega arith in
            z.4.0 ∙ (λ i. (push (Grant (same i) old (one i) (get_or s.words (group_at g) 0)) m.0, m.1)),
      )

  -- the exchange that takes the waiter out of the group, for each of its two kinds
  exited : (g old new : ℕ) (x : ℕ → GroupStep) → ((v : ℕ) → IsCalledFor g old v (x v))
      → ((h : List (ℕ × GroupStep)) (v : ℕ) → v ≡ word (words_in h) g → stand (own_steps r.number h) ≡ suc g
      → MayStep r.number (x v) h)
      → ((ws : List ℕ) (v : ℕ) → words_after (x v) ws ≡ set ws (group_at g) (exchange_to old new (word ws g)))
      → stand r.steps ≡ suc g → Allows (GroupsRule n) slots id m (group_at g) (λ v. either (eqb v old) new v)
      (leaving (step slots (group_at g) old new none) m)
  exited g old new x called may after stands s kept deep at lw = let v : ℕ = get_or s.words (group_at g) 0 in
      let z = allows n opening_words words_after MayStep slots id m r is (group_at g) (λ v. either (eqb v old) new v) x
      (λ v. Unit {0})
      (λ h l kn st low. (
        may h _ refl (ap stand (sym st) ∙ stands),
        swapped g old new h ∙ sym (after (words_in h) _),
        tt,
      )) s kept deep at lw in (
        z.0,
        z.1,
        z.2,
        z.3,
        λ u e. let same : g ≡ u = omega arith in
            subst (λ (k : ℕ). (made : GroupStep) × IsCalledFor k old v made × Stepped made m (z.0, carried_after m.1 z.1)) same
            (x v, called v, z.4.0),
      )

  pub exit : (g old new : ℕ) (left : Left) → IsWayOut old left new → g < 8 → stand r.steps ≡ suc g
      → Allows (GroupsRule n) slots id m (group_at g) (λ v. either (eqb v old) new v)
      (leaving (step slots (group_at g) old new none) m)
  exit g old new Woken calls few_g = exited g old new (Use g old) (λ v. inl (calls.0, refl))
      (λ h v finds stands. (finds, few_g, calls.0, stands))
      (λ ws v. ap (λ (y : ℕ). set ws (group_at g) (exchange_to old y (word ws g))) (sym calls.1))
  exit g old new Unwoken calls few_g = exited g old new (Withdraw g old) (λ v. inr (calls.0, refl))
      (λ h v finds stands. (finds, few_g, calls.0, stands))
      (λ ws v. ap (λ (y : ℕ). set ws (group_at g) (exchange_to old y (word ws g))) (sym calls.1))

  pub store : (v : ℕ) → v < 8 → Allows (GroupsRule n) slots id m index_at (λ _. v)
      (λ _. storing (step slots index_at v 0 none) m v)
  store v small_v s kept deep at lw = let z = allows n opening_words words_after MayStep slots id m r is index_at
      (λ _. v)
      (λ _. Store v) (λ v. Unit {0}) (λ h l kn st low. (small_v, refl, tt)) s kept deep at lw in
      (z.0, z.1, z.2, z.3, z.4.0)
