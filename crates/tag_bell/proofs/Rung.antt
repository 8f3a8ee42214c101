-- Steps that change nothing of a caller's record but its list of steps, and what follows for what it has to see to.
use Rattle.std.specs.Prelude.{◌++◌, ◌+◌, ◌-◌, ◌<◌, ◌^◌, ◌∷◌, ◌≡◌, ◌≢◌, ◌≤◌}
use Rattle.tag_bell.proofs.Uses.{[], Adds, ap, append_assoc, arith, Bell, BellStep, bit_and, bit_at, bit_at-lt, bit_at-zero, bit_at_and, bit_at_ones, bit_or, Bool, Caller, cond, dite, Enlist, Enter, false, GetUp, in_aside, in_word, inl, inr, Layout, le_or_l, le_or_r, Leave, length-append, List, Listener, Look, LookAll, LookAside, LookAt}
use Rattle.tag_bell.proofs.Uses.{min, newly_told, nobody, OnlyAdds, or_zero_r, Owes, OwesNoneWhere, OwesNothing, place_of, Post, ReadNote, Record, record_of, refl, same_waiter, SameMap, Sleeper, Spot, Step, subst, sym, Take, TakeTurn, Tell, Tells, told_in, true, Waiter, waits_as, WaitsAsBefore, Word, word_depth, word_of, ℕ, ℕ_discrete, ⊎_elim}
use Rattle.tag_bell.proofs.Uses.{◌∙◌}
use Rattle.tag_bell.specs.declared.told.Told.{Told}
use Rattle.tag_layout.proofs.PlaceFacts.{place_of-below}
use Rattle.tag_bell.specs.Waiting as steps
use Rattle.tag_bell.specs.Callers.{layout_of}
use Rattle.tag_bell.specs.Calls.{FindsWaiters, OwesNoMore}
use Rattle.tag_bell.specs.Looks.{OnlyLooks}

plus_none : (n : ℕ) → n + 0 ≡ n
plus_none n = omega arith

-- neither of two sets has a bit if both together have none
none_of : (b : Bool) (one more rest : ℕ) → cond b (bit_or more one) more ≡ 0
    → (more ≡ 0) × (cond b (bit_or rest one) rest ≡ rest)
none_of true one more rest e = let a = le_or_l more one in let z = le_or_r more one in
    let no : one ≡ 0 = omega arith in (omega arith, ap (λ (n : ℕ). bit_or rest n) no ∙ or_zero_r rest)
none_of false one more rest e = (e, refl)

module _ {R : Type 0} where
  -- the record with these steps before its own
  abbrev with_steps : List (Step R) → Record R → Record R
  with_steps xs r = record r { steps = xs ++ r.steps }

  -- a step that changes nothing of the record but the list of steps
  one_added : (step : Step R) (old new : Caller R) → SameMap old new
      → (let r = record_of old in record_of new ≡ record r { won = r.won + 0; back = r.back + 0; steps = step ∷ r.steps })
      → OnlyAdds (step ∷ []) old new
  one_added step old new same known = let r = record_of old in record {
    known = known ∙ (λ j. record r { won = plus_none r.won j; back = plus_none r.back j; steps = step ∷ r.steps });
    same_map = same;
  }

  -- a step by which callers wait, a look at a word, and one at a cleared set
  pub rung : (step : BellStep) (old new : Caller R) → Adds (Bell step) old new → OnlyAdds (Bell step ∷ []) old new
  rung step old new did = one_added (Bell step) old new did.same_map did.known

  looked : (i found : ℕ) (old new : Caller R) → Adds (Word (Look i found)) old new
      → OnlyAdds (Word (Look i found) ∷ []) old new
  looked i found old new did = one_added (Word (Look i found)) old new did.same_map did.known

  looked_aside : (i found : ℕ) (old new : Caller R) → Adds (Word (LookAside i found)) old new
      → OnlyAdds (Word (LookAside i found) ∷ []) old new
  looked_aside i found old new did = one_added (Word (LookAside i found)) old new did.same_map did.known

  -- some steps after others
  pub added_after : (xs ys : List (Step R)) (a b c : Caller R) → OnlyAdds xs a b → OnlyAdds ys b c → OnlyAdds (ys ++ xs) a c
  added_after xs ys a b c first next = let r = record_of a in record {
    known = next.known ∙ ap (with_steps ys) first.known
        ∙ ap (λ (s : List (Step R)). record r { steps = s }) (sym (append_assoc ys xs r.steps));
    same_map = next.same_map ∙ first.same_map;
  }

  -- what they say of the caller's steps and of its layout
  pub steps_added : (xs : List (Step R)) (old new : Caller R) → OnlyAdds xs old new
      → (record_of new).steps ≡ xs ++ (record_of old).steps
  steps_added xs old new is = ap (λ (r : Record R). r.steps) is.known

  pub layout_kept : (xs : List (Step R)) (old new : Caller R) → OnlyAdds xs old new → layout_of new ≡ layout_of old
  layout_kept xs old new is = ap (λ (r : Record R). r.shape.layout) is.known

  -- the caller has nothing to see to if its steps say so
  pub owes_none : (kind : Waiter) (xs : List (Step R)) (old new : Caller R) → OnlyAdds xs old new
      → steps.OwesNothing (layout_of old) (same_waiter kind) (xs ++ (record_of old).steps) → OwesNothing kind new
  owes_none kind xs old new is holds = subst (λ (x : Layout × List (Step R)). steps.OwesNothing x.0 (same_waiter kind) x.1)
      (λ j. (sym (layout_kept xs old new is) j, sym (steps_added xs old new is) j)) holds

  pub owes_no_spot : (kind : Waiter) (xs : List (Step R)) (old new : Caller R) → OnlyAdds xs old new
      → ((spot : Spot) (e : ℕ) → ¬ (Owes (same_waiter kind) (xs ++ (record_of old).steps) spot e)) → OwesNothing kind new
  owes_no_spot kind xs old new is none = owes_none kind xs old new is (λ tag low e owes.
      ⊎_elim (λ a. none (in_word (layout_of old) tag) e a) (λ b. none (in_aside (layout_of old) tag) e b) owes)

  -- it has no more to see to, and waits as it did, if its steps say so
  pub owes_no_more : (kind : Waiter) (xs : List (Step R)) (old new : Caller R) → OnlyAdds xs old new
      → ((spot : Spot) (e : ℕ) → Owes (same_waiter kind) (xs ++ (record_of old).steps) spot e
      → Owes (same_waiter kind) (record_of old).steps spot e) → OwesNoMore kind old new
  owes_no_more kind xs old new is less none = owes_none kind xs old new is (λ tag low e owes.
      none tag low e (⊎_elim (λ a. inl (less _ e a)) (λ b. inr (less _ e b)) owes))

  pub waits_same : (xs : List (Step R)) (old new : Caller R) → OnlyAdds xs old new
      → waits_as (xs ++ (record_of old).steps) ≡ waits_as (record_of old).steps → WaitsAsBefore old new
  waits_same xs old new is same = ap waits_as (steps_added xs old new is) ∙ same

  -- steps that tell nobody, behind others and before them
  pub told-before : (kind : Waiter) (ys xs : List (Step R)) → told_in kind xs ≡ 0 → told_in kind (ys ++ xs) ≡ told_in kind ys
  told-before kind [] xs e = e
  told-before kind (Word step ∷ ys) xs e = told-before kind ys xs e
  told-before kind (Post tag note value ∷ ys) xs e = told-before kind ys xs e
  told-before kind (Take tag found value ∷ ys) xs e = told-before kind ys xs e
  told-before kind (ReadNote tag found ∷ ys) xs e = told-before kind ys xs e
  told-before kind (Bell (Enter caller found) ∷ ys) xs e = told-before kind ys xs e
  told-before kind (Bell (Leave caller found) ∷ ys) xs e = told-before kind ys xs e
  told-before kind (Bell (LookAll found) ∷ ys) xs e = told-before kind ys xs e
  told-before kind (Bell (TakeTurn found) ∷ ys) xs e = told-before kind ys xs e
  told-before kind (Bell (Enlist caller waiter turn found) ∷ ys) xs e = told-before kind ys xs e
  told-before kind (Bell (LookAt whom found) ∷ ys) xs e = told-before kind ys xs e
  told-before kind (Bell (Tell whom waiter turn found) ∷ ys) xs e =
      ap (λ (n : ℕ). cond (same_waiter kind waiter) (bit_or n (newly_told whom waiter turn found)) n)
      (told-before kind ys xs e)
  told-before kind (Bell (GetUp caller found) ∷ ys) xs e = told-before kind ys xs e

  pub told-after : (kind : Waiter) (ys xs : List (Step R)) → told_in kind ys ≡ 0 → told_in kind (ys ++ xs) ≡ told_in kind xs
  told-after kind [] xs e = refl
  told-after kind (Word step ∷ ys) xs e = told-after kind ys xs e
  told-after kind (Post tag note value ∷ ys) xs e = told-after kind ys xs e
  told-after kind (Take tag found value ∷ ys) xs e = told-after kind ys xs e
  told-after kind (ReadNote tag found ∷ ys) xs e = told-after kind ys xs e
  told-after kind (Bell (Enter caller found) ∷ ys) xs e = told-after kind ys xs e
  told-after kind (Bell (Leave caller found) ∷ ys) xs e = told-after kind ys xs e
  told-after kind (Bell (LookAll found) ∷ ys) xs e = told-after kind ys xs e
  told-after kind (Bell (TakeTurn found) ∷ ys) xs e = told-after kind ys xs e
  told-after kind (Bell (Enlist caller waiter turn found) ∷ ys) xs e = told-after kind ys xs e
  told-after kind (Bell (LookAt whom found) ∷ ys) xs e = told-after kind ys xs e
  told-after kind (Bell (Tell whom waiter turn found) ∷ ys) xs e =
      let n = none_of (same_waiter kind waiter) (newly_told whom waiter turn found) (told_in kind ys)
      (told_in kind (ys ++ xs)) e in n.1 ∙ told-after kind ys xs n.0
  told-after kind (Bell (GetUp caller found) ∷ ys) xs e = told-after kind ys xs e

module _ {R : Type 0} where
  -- a call that told nobody, and another one behind it
  pub tells_after : (first most : ℕ) (told : Told) (a b c : Caller R) → Tells first nobody a b → Tells most told b c
      → Tells (first + most) told a c
  tells_after first most told a b c before after = let few = before.few in let few' = after.few in record {
    steps = after.steps ++ before.steps;
    only = added_after before.steps after.steps a b c before.only after.only;
    few = omega (arith, length-append after.steps before.steps);
    sleepers = after.sleepers ∙ sym (told-before Sleeper after.steps before.steps (sym before.sleepers));
    listeners = after.listeners ∙ sym (told-before Listener after.steps before.steps (sym before.listeners));
  }

  -- a look for waiters tells nobody
  pub looked_tells : (found : Bool) (a b : Caller R) → FindsWaiters found a b → Tells 1 nobody a b
  looked_tells found a b finds = record {
    steps = Bell (LookAll finds.waiting) ∷ [];
    only = finds.look;
    few = omega arith;
    sleepers = refl;
    listeners = refl;
  }

  -- it made no more than more steps
  pub tells_within : (most more : ℕ) (told : Told) (a b : Caller R) → most ≤ more → Tells most told a b → Tells more told a b
  tells_within most more told a b le is = let few = is.few in record {
    steps = is.steps;
    only = is.only;
    few = omega arith;
    sleepers = is.sleepers;
    listeners = is.listeners;
  }

-- every usable bit of a word is 1 if their and is the usable bits
pub all_taken : (found usable n b : ℕ) → usable + 1 ≡ 2 ^ n → bit_and found usable ≡ usable → b < n → bit_at found b ≡ 1
all_taken found usable n b is same low =
    let all : usable ≡ 2 ^ n - 1 = omega arith in
    let one : bit_at usable b ≡ 1 = ap (λ (m : ℕ). bit_at m b) all ∙ bit_at_ones n b low in
    let both : min (bit_at found b) (bit_at usable b) ≡ bit_at usable b =
    sym (bit_at_and found usable b) ∙ ap (λ (m : ℕ). bit_at m b) same in
    let few = bit_at-lt found b in omega arith

-- every usable bit of a cleared set is 0 if none of them is in it
none_aside : (found usable n b : ℕ) → usable + 1 ≡ 2 ^ n → bit_and found usable ≡ 0 → b < n → bit_at found b ≡ 0
none_aside found usable n b is empty low =
    let all : usable ≡ 2 ^ n - 1 = omega arith in
    let one : bit_at usable b ≡ 1 = ap (λ (m : ℕ). bit_at m b) all ∙ bit_at_ones n b low in
    let both : min (bit_at found b) (bit_at usable b) ≡ bit_at 0 b =
    sym (bit_at_and found usable b) ∙ ap (λ (m : ℕ). bit_at m b) empty in
    let off = bit_at-zero b in omega arith

module _ {R : Type 0} where
  -- it has to see to no tag of these words if its steps say so
  none_where : (here : ℕ → Type 0) (kind : Waiter) (xs : List (Step R)) (old new : Caller R) → OnlyAdds xs old new
      → ((tag : ℕ) → tag < (layout_of old).depth → here (word_of (layout_of old) tag) → (e : ℕ)
      → ¬ steps.OwesTag (layout_of old) (same_waiter kind) (xs ++ (record_of old).steps) tag e) → OwesNoneWhere here kind new
  none_where here kind xs old new is holds = subst (λ (x : Layout × List (Step R)). (tag : ℕ) → tag < x.0.depth
      → here (word_of x.0 tag) → (e : ℕ) → ¬ steps.OwesTag x.0 (same_waiter kind) x.1 tag e)
      (λ j. (sym (layout_kept xs old new is) j, sym (steps_added xs old new is) j)) holds

  -- a look at a word and at its cleared set
  abbrev pub seen : ℕ → ℕ → ℕ → List (Step R)
  seen i found aside = Word (LookAside i aside) ∷ Word (Look i found) ∷ []

  pub seen_both : (i found aside : ℕ) (old mid new : Caller R) → Adds (Word (Look i found)) old mid
      → Adds (Word (LookAside i aside)) mid new → OnlyAdds (seen i found aside) old new
  seen_both i found aside old mid new first next = added_after (Word (Look i found) ∷ [])
      (Word (LookAside i aside) ∷ []) old mid new (looked i found old mid first) (looked_aside i aside mid new next)

  pub seen_looks : (i found aside : ℕ) (old new : Caller R) → OnlyAdds (seen i found aside) old new
      → OnlyLooks 2 old new
  seen_looks i found aside old new is =
      record { steps = seen i found aside; only = is; few = omega arith; are = tt }

  -- if each of the word's bits is 1, and none of its tags is in the cleared set, both looks find its spots shut
  pub seen_shut : (kind : Waiter) (i found aside usable : ℕ) (old new : Caller R) → OnlyAdds (seen i found aside) old new
      → usable + 1 ≡ 2 ^ word_depth (layout_of old) i → bit_and found usable ≡ usable → bit_and aside usable ≡ 0
      → OwesNoneWhere (λ j. j ≡ i) kind new
  seen_shut kind i found aside usable old new is wide full empty = none_where (λ j. j ≡ i) kind (seen i found aside) old
      new is (λ tag low here e owes. let l = layout_of old in
      let at : place_of l tag < word_depth l i =
      subst (λ (j : ℕ). place_of l tag < word_depth l j) here (place_of-below l tag low) in
      ⊎_elim (λ a. ⊎_elim (λ no. absurd no)
      (λ o. o.1 (here, all_taken found usable (word_depth l i) (place_of l tag) wide full at)) a.0)
      (λ b. b.1 (here, none_aside aside usable (word_depth l i) (place_of l tag) wide empty at)) owes)

  -- what holds below a word and in it holds below the next
  pub one_more : (i : ℕ) (kind : Waiter) (caller : Caller R) → OwesNoneWhere (λ j. j < i) kind caller
      → OwesNoneWhere (λ j. j ≡ i) kind caller → OwesNoneWhere (λ j. j < i + 1) kind caller
  one_more i kind caller below at tag low here = dite (ℕ_discrete (word_of (layout_of caller) tag) i)
      (λ (e : word_of (layout_of caller) tag ≡ i). at tag low e)
      (λ (ne : word_of (layout_of caller) tag ≢ i). below tag low (omega arith))
