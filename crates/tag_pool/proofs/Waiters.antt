-- Who waits: the word of all who do has the bits of those callers that are among them by their own steps. So how many
-- hands wait is one number.
use Rattle.std.specs.Prelude.{◌+◌, ◌<◌, ◌^◌, ◌↔◌, ◌∷◌, ◌≡◌, ◌≢◌, cond, count_by}
use Rattle.std.proofs.Common.{bit_or, Bool, eq-eqb, get_or, ne_eqb}
use Rattle.std.proofs.lemmas.List.Sums.{sum_by-cons}
use Rattle.std.proofs.lemmas.Nat.Bits.{bit_at-lt, bit_at-pow_same, bit_at-zero, bit_at_or}
use Rattle.std.specs.Int.{bit_at}
use Rattle.tag_pool.proofs.Uses.{[], All, ap, arith, at_map, Caller, dite, get_elem?, Hand, inl, inr, IsHandOf, Kind, List, map, Ordinary, Pool, Record, record_of, refl, Reserved, Shape, some, subst, suc, sym, zero, ℕ, ℕ_discrete, ⊎_elim, ◌∙◌}
use Rattle.tag_core.proofs.Entries.{entry_or}
use Rattle.tag_core.proofs.ListedBits.{with-in, with-kept, with-of, without-else, without-in, without-of}
use Rattle.tag_core.specs.Histories.{Cells, cells_after, cells_of, EachFinds, History, steps_by}
use Rattle.tag_core.specs.Settling.{LeavesWaiters}
use Rattle.tag_core.specs.Waits.{IsBy, IsIn}
use Rattle.tag_core.specs.declared.bell_step.BellStep.TheVariants.{Enlist, Enter, GetUp, Leave, LookAll, LookAt, TakeTurn, Tell}
use Rattle.tag_core.specs.declared.step.Step.{Step}
use Rattle.tag_core.specs.declared.step.Step.TheVariants.{Bell, Post, ReadNote, Take, Word}
use Rattle.tag_model.specs.declared.world.TheConstants.{MAX_CALLERS}
use Rattle.tag_pool.specs.Gathering.{numbers_of, records_of, shape_of}
use Rattle.tag_pool.specs.Hands.{caller_of, number_of}
use Rattle.tag_pool.specs.Resizing.{has_bit, HaveWaiters, Waits}

module _ {R : Type 0} (who : ℕ) where
  -- the caller's bit in the word is 1 exactly if it is among all who wait by these steps of its own
  abbrev Shows : ℕ → List (Step R) → Type 0
  Shows word own = (bit_at word who ≡ 1 → IsIn own) × (IsIn own → (who < MAX_CALLERS) × (bit_at word who ≡ 1))

  -- one step of its own
  by_itself : (step : Step R) (c : Cells) (own : List (Step R)) → IsBy who step own → Shows c.waits.waiters own
      → Shows (cells_after step c).waits.waiters (step ∷ own)
  by_itself (Word step) c own may was = was
  by_itself (Post tag note value) c own may was = was
  by_itself (Take tag zero value) c own may was = was
  by_itself (Take tag (suc found) value) c own may was = was
  by_itself (ReadNote tag found) c own may was = was
  by_itself (Bell (Enter caller found)) c own may was = (
    (λ on. tt),
    λ now. (
      may.0,
      subst (λ (n : ℕ). bit_at (bit_or c.waits.waiters (2 ^ n)) who ≡ 1) (sym may.1) (with-in c.waits.waiters who),
    ),
  )
  by_itself (Bell (Leave caller found)) c own may was = (
    (λ on. let mine = subst (λ (n : ℕ). bit_at (2 ^ n) who ≡ 1) (sym may.1.0) (bit_at-pow_same who) in
        let off = without-in c.waits.waiters (2 ^ caller) who mine in absurd (omega arith)),
    λ now. absurd now,
  )
  by_itself (Bell (LookAll found)) c own may was = was
  by_itself (Bell (TakeTurn found)) c own may was = was
  by_itself (Bell (Enlist caller waiter turn found)) c own may was = was
  by_itself (Bell (LookAt whom found)) c own may was = was
  by_itself (Bell (Tell whom waiter turn found)) c own may was = was
  by_itself (Bell (GetUp caller found)) c own may was = was

  -- one of another caller, which joins or leaves by its own bit alone
  by_another : (other : ℕ) → other ≢ who → (step : Step R) (c : Cells) (own theirs : List (Step R))
      → IsBy other step theirs → Shows c.waits.waiters own → Shows (cells_after step c).waits.waiters own
  by_another other ne (Word step) c own theirs may was = was
  by_another other ne (Post tag note value) c own theirs may was = was
  by_another other ne (Take tag zero value) c own theirs may was = was
  by_another other ne (Take tag (suc found) value) c own theirs may was = was
  by_another other ne (ReadNote tag found) c own theirs may was = was
  by_another other ne (Bell (Enter caller found)) c own theirs may was = (
    (λ on. was.0 (with-of c.waits.waiters caller who (λ is. ne (sym (is ∙ may.1))) on)),
    λ now. ((was.1 now).0, with-kept c.waits.waiters (2 ^ caller) who (was.1 now).1),
  )
  by_another other ne (Bell (Leave caller found)) c own theirs may was = (
    (λ on. was.0 (without-of c.waits.waiters (2 ^ caller) who on)),
    λ now. (
      (was.1 now).0,
      without-else c.waits.waiters caller who (subst (λ (n : ℕ). n < MAX_CALLERS) (sym may.1.0) may.0) (was.1 now).0
          (λ is. ne (sym (is ∙ may.1.0))) (was.1 now).1,
    ),
  )
  by_another other ne (Bell (LookAll found)) c own theirs may was = was
  by_another other ne (Bell (TakeTurn found)) c own theirs may was = was
  by_another other ne (Bell (Enlist caller waiter turn found)) c own theirs may was = was
  by_another other ne (Bell (LookAt whom found)) c own theirs may was = was
  by_another other ne (Bell (Tell whom waiter turn found)) c own theirs may was = was
  by_another other ne (Bell (GetUp caller found)) c own theirs may was = was

  -- so it is after every history
  shows : (callers : ℕ) (h : History R) → EachFinds callers h → Shows (cells_of h).waits.waiters (steps_by who h)
  shows callers [] finds = ((λ on. let off = bit_at-zero who in absurd (omega arith)), λ now. absurd now)
  shows callers (x ∷ older) finds = let mine = steps_by who older in let now = (cells_of (x ∷ older)).waits.waiters in
      let before = shows callers older finds.4 in dite (ℕ_discrete x.0 who)
      (λ (it : x.0 ≡ who). subst (λ (b : Bool). Shows now (cond b (x.1 ∷ mine) mine)) (sym (eq-eqb x.0 who it))
      (by_itself x.1 (cells_of older) mine (subst (λ (n : ℕ). IsBy n x.1 (steps_by n older)) it finds.1) before))
      (λ (ne : x.0 ≢ who). subst (λ (b : Bool). Shows now (cond b (x.1 ∷ mine) mine)) (sym (ne_eqb x.0 who ne))
      (by_another x.0 ne x.1 (cells_of older) mine (steps_by x.0 older) finds.1 before))

module _ {R : Type 0} where
  -- while all callers of a map are together, each is among all who wait exactly if its bit is 1
  is_waiting : (k : Shape) (rs : List (Record R)) (word i : ℕ) (r : Record R) → LeavesWaiters k rs word
      → get_elem? rs i ≡ some r → (bit_at word r.number ≡ 1) ↔ IsIn r.steps
  is_waiting k rs word i r leaves at =
      let both : Shows r.number word r.steps =
      subst (λ (z : ℕ × List (Step R)). Shows r.number z.0 z.1)
      (λ j. (sym leaves.waiting_is j, sym (leaves.each i r at).steps j))
      (shows r.number k.callers leaves.history leaves.lawful.finds) in
      (both.0, λ now. (both.1 now).1)

  -- the record of the hand at this index
  record_there : (hands : List (Hand R)) (kind : Kind) (i : ℕ) (hand : Hand R) → get_elem? hands i ≡ some hand
      → get_elem? (records_of hands kind) i ≡ some (record_of (caller_of hand kind))
  record_there hands kind i hand at =
      at_map (λ (c : Caller R). record_of c) (map (λ (h : Hand R). caller_of h kind) hands) i (caller_of hand kind)
      (at_map (λ (h : Hand R). caller_of h kind) hands i hand at)

  module _ (pool : Pool R) (hands : List (Hand R)) (own : All (IsHandOf pool) hands) (reserved ordinary : ℕ)
      (r : LeavesWaiters (shape_of pool Reserved) (records_of hands Reserved) reserved)
      (o : LeavesWaiters (shape_of pool Ordinary) (records_of hands Ordinary) ordinary) where
    -- the bit of each hand in one word or the other tells whether it waits
    one_hand : (i : ℕ) (hand : Hand R) → get_elem? hands i ≡ some hand → IsHandOf pool hand
        → (bit_at (bit_or reserved ordinary) (number_of hand) ≡ 1) ↔ Waits hand
    one_hand i hand at mine = let n = number_of hand in
        let first = is_waiting (shape_of pool Reserved) (records_of hands Reserved) reserved i
        (record_of (caller_of hand Reserved)) r (record_there hands Reserved i hand at) in
        let rest = is_waiting (shape_of pool Ordinary) (records_of hands Ordinary) ordinary i
        (record_of (caller_of hand Ordinary)) o (record_there hands Ordinary i hand at) in
        let there = ap (λ (m : ℕ). bit_at reserved m) (hand.reserved.numbers ∙ mine.3) in
        let here = ap (λ (m : ℕ). bit_at ordinary m) hand.ordinary.numbers in
        let both = bit_at_or reserved ordinary n in let low = bit_at-lt reserved n in let high = bit_at-lt ordinary n in (
          (λ on. dite (ℕ_discrete (bit_at ordinary n) 1)
              (λ (is : bit_at ordinary n ≡ 1). inl (rest.0 (here ∙ is)))
              (λ (not : bit_at ordinary n ≢ 1). inr (first.0 (omega arith)))),
          λ waits. ⊎_elim (λ now. let is = rest.1 now in omega arith) (λ now. let is = first.1 now in omega arith) waits,
        )

    pub are_waiting : All (λ hand. (bit_at (bit_or reserved ordinary) (number_of hand) ≡ 1) ↔ Waits hand) hands
    are_waiting i d low = one_hand i (get_or hands i d) (entry_or hands i d low) (own i d low)

  -- two masks that tell of the same hands have as many of them
  same_count : (m n : ℕ) (hands : List (Hand R))
      → All (λ hand. (bit_at m (number_of hand) ≡ 1) ↔ Waits hand) hands
      → All (λ hand. (bit_at n (number_of hand) ≡ 1) ↔ Waits hand) hands
      → count_by (has_bit m) (numbers_of hands) ≡ count_by (has_bit n) (numbers_of hands)
  same_count m n [] first second = refl
  same_count m n (hand ∷ hands) first second =
      let a = first 0 hand (omega arith) in let b = second 0 hand (omega arith) in
      let here : has_bit m (number_of hand) ≡ has_bit n (number_of hand) =
      dite (ℕ_discrete (bit_at m (number_of hand)) 1)
      (λ (on : bit_at m (number_of hand) ≡ 1). eq-eqb (bit_at m (number_of hand)) 1 on
      ∙ sym (eq-eqb (bit_at n (number_of hand)) 1 (b.1 (a.0 on))))
      (λ (off : bit_at m (number_of hand) ≢ 1). ne_eqb (bit_at m (number_of hand)) 1 off
      ∙ sym (ne_eqb (bit_at n (number_of hand)) 1 (λ on. off (a.1 (b.0 on))))) in
      let rest = same_count m n hands (λ i d low. first (suc i) d (omega arith))
      (λ i d low. second (suc i) d (omega arith)) in
      sum_by-cons (λ (x : ℕ). cond {A = ℕ} (has_bit m x) 1 0) (number_of hand) (numbers_of hands)
      ∙ (λ j. cond {A = ℕ} (here j) 1 0 + rest j)
      ∙ sym (sum_by-cons (λ (x : ℕ). cond {A = ℕ} (has_bit n x) 1 0) (number_of hand) (numbers_of hands))

  pub one_count : (hands : List (Hand R)) (m n : ℕ) → HaveWaiters hands m → HaveWaiters hands n → m ≡ n
  one_count hands m n first second = first.count_is
      ∙ same_count first.mask second.mask hands first.mask_is second.mask_is ∙ sym second.count_is
