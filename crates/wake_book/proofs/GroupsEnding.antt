-- What the groups' last words say once all waiters are gathered.
use Rattle.std.specs.Prelude.{◌+◌, ◌-◌, ◌^◌, ◌≡◌, ◌≤◌}
use Rattle.wake_book.proofs.Uses.{ap, arith, Final, Gathered, gathered, granted, GroupsRule, GroupStep, HasAll, List, MayStep, min, moved_by, numbers, own_steps, raised, Record, Records, Seen, stand, stands_in, subst, sum_below, sum_below-bound, sum_over, sum_turned, sym, total, totals, turned}
use Rattle.wake_book.proofs.Uses.{used_by, waiting, word, words_after, ℕ, ◌∙◌}
use Rattle.wake_book.specs.Waits.{opening_words}
use Rattle.wake_book.specs.Balance.{IsBalanced}
use Rattle.wake_book.proofs.Standing.{balanced, balance, active_is}
use Rattle.wake_book.proofs.AllGroups.{all_issued, moved_capped, who_stands}

module _ {S : Type 0} (n : ℕ) (few : n ≤ 64) (id : ℕ) (v : Records GroupStep) (ws : List ℕ) (xs : List S)
    (waiters : List (Record GroupStep)) (moved granted_now waiting_now : ℕ)
    (last : Final (Seen (GroupsRule n) id v) ws xs) (is : v.records.value ≡ turned waiters)
    (all : HasAll (numbers waiters) n) (sum : moved ≡ min (sum_over (total moved_by) v.records.value) (2 ^ 64 - 1))
    (granted_is : granted_now ≡ sum_below (λ g. granted (word ws g)) 8)
    (waiting_is : waiting_now ≡ sum_below (λ g. waiting (word ws g)) 8) where
  found : Gathered n opening_words words_after MayStep ws waiters
  found = gathered n opening_words words_after MayStep id v ws xs waiters last is all

  issued_is : moved ≡ sum_over (total moved_by) waiters
  issued_is = let h = found.history in let l = found.lawful in let m = found.sums (total moved_by) in
      let most = sum_below-bound (λ c. total moved_by (own_steps c h)) n (2 ^ 56) (λ c _. moved_capped n h l c) in
      let same = ap (sum_over (total moved_by)) is ∙ sum_turned (total moved_by) waiters in omega arith

  parts : moved ≡ sum_over (total used_by) waiters + granted_now
  parts = let h = found.history in let l = found.lawful in let m = found.sums (total moved_by) in
      let ma = totals n MayStep moved_by h l in let u = found.sums (total used_by) in
      let ua = totals n MayStep used_by h l in
      let i = issued_is in let p = all_issued n few h l in
      let g = ap (λ (z : List ℕ). sum_below (λ g. granted (word z g)) 8) found.words_are in omega arith

  pub enough : granted_now ≤ moved
  enough = let p = parts in omega arith

  pub ended : IsBalanced n waiters record {
    issued = moved;
    used = moved - granted_now;
    granted = granted_now;
    waiting = waiting_now;
  }
  ended = let h = found.history in let l = found.lawful in let p = parts in record {
    history = h;
    lawful = l;
    lists = found.lists;
    standing = λ g less. balance n g h l (balanced n few g less h l) ∙ sym (found.sums (stands_in g));
    active = active_is n h l ∙ sym (found.sums raised);
    active_all = λ i r at some_stand. ap raised (found.lists i r at)
        ∙ who_stands n h l r.number (subst (λ (z : List GroupStep). 1 ≤ stand z) (found.lists i r at) some_stand);
    issued = issued_is;
    used = omega arith;
    granted_all = granted_is ∙ ap (λ (z : List ℕ). sum_below (λ g. granted (word z g)) 8) found.words_are;
    waiting_all = waiting_is ∙ ap (λ (z : List ℕ). sum_below (λ g. waiting (word z g)) 8) found.words_are;
    balance = omega arith;
  }
