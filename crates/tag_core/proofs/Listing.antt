-- What steps by which callers wait owe.
use Rattle.std.specs.Prelude.{◌%◌, ◌*◌, ◌+◌, ◌/◌, ◌<◌, ◌^◌, ◌≡◌, ◌≤◌}
use Rattle.tag_core.proofs.Uses.{ap, arith, Bell, BellStep, Berth, berth_of, berth_word, bit_of, bit_or, Cells, cells_of, either, Enlist, Enter, eqb, exchanged, FindsWaits, get_or, GetUp, HasCells, HasTaken, IsIn, IsKnown, IsOwn, Leave, List, Listed, LookAll, LookAt, MAX_CALLERS, none, Record, refl, set, set-get_or, Shape, Shown, State, subst, suc, sym}
use Rattle.tag_core.proofs.Uses.{TakeTurn, Tell, Told, told_as, TURNS, Up, View, Waiter, waits_after, waits_as, with_berth, without, ℕ, ◌∙◌}
use Rattle.tag_core.specs.Spacing.{berth_at, clock_at, waiters_at}
use Rattle.tag_core.proofs.Advance.{Owed}
use Rattle.tag_core.proofs.Berths.{as-hit, as-miss, berth-back, berth-one}
use Rattle.tag_core.proofs.Owing.{berth_cells, clock_cells, look_needs, same_tags, waiters_cells}

module _ (R : Type 0) (k : Shape) (narrow : k.layout.shift ≤ 6) (s : State R (View R)) (sh : Shown k s) (r : Record R)
    (ok : IsKnown k sh.history r) (low : r.number < MAX_CALLERS) where
  abbrev now_cells : Cells
  now_cells = cells_of sh.history

  -- such a step moves no tag
  rung : (st : BellStep) (words' : List ℕ) → IsOwn r.number st r.steps → FindsWaits st now_cells.waits
      → HasCells k words' (record now_cells { waits = waits_after st now_cells.waits }) → Owed R k s sh r (Bell st) words'
  rung st words' own finds cells = record {
    finds = finds;
    own = (low, subst (IsOwn r.number st) ok.steps own);
    value = tt;
    needs = look_needs R k narrow s sh r ok;
    cells = cells;
    tags = same_tags R k narrow s sh r ok;
  }

  -- a load leaves the words as they are
  same_cells : (at : ℕ) → HasCells k (set s.words at (get_or s.words at 0)) now_cells
  same_cells at = subst (λ (ws : List ℕ). HasCells k ws now_cells) (sym (set-get_or s.words at 0)) sh.cells

  -- ---- the word of all who wait

  abbrev all : ℕ
  all = get_or s.words waiters_at 0

  pub enter_owed : Owed R k s sh r (Bell (Enter r.number all)) (set s.words waiters_at (bit_or all (bit_of r.number)))
  enter_owed = rung (Enter r.number all) _ refl sh.cells.waiters (waiters_cells k s.words now_cells sh.cells
      (bit_or all (bit_of r.number)) (bit_or now_cells.waits.waiters (bit_of r.number))
      (ap (λ (n : ℕ). bit_or n (bit_of r.number)) sh.cells.waiters))

  pub leave_owed : waits_as r.steps ≡ none
      → Owed R k s sh r (Bell (Leave r.number all)) (set s.words waiters_at (without all (bit_of r.number)))
  leave_owed out = rung (Leave r.number all) _ (refl, out) sh.cells.waiters (waiters_cells k s.words now_cells sh.cells
      (without all (bit_of r.number)) (without now_cells.waits.waiters (bit_of r.number))
      (ap (λ (n : ℕ). without n (bit_of r.number)) sh.cells.waiters))

  pub look_all_owed : Owed R k s sh r (Bell (LookAll all)) (set s.words waiters_at all)
  look_all_owed = rung (LookAll all) _ tt sh.cells.waiters (same_cells waiters_at)

  -- ---- the clock

  pub turn_owed : Owed R k s sh r (Bell (TakeTurn (get_or s.words clock_at 0 / 8)))
      (set s.words clock_at ((get_or s.words clock_at 0 + 8) % 2 ^ 64))
  turn_owed = let n : ℕ = get_or s.words clock_at 0 in let clock : ℕ = now_cells.waits.clock in
      rung (TakeTurn (n / 8)) _ tt (found n clock sh.cells.clock)
      (clock_cells k s.words now_cells sh.cells ((n + 8) % 2 ^ 64) (suc clock) (next n clock sh.cells.clock))
    where
      found : (n clock : ℕ) → n ≡ 8 * (clock % TURNS) → n / 8 ≡ clock % TURNS
      found n clock is = omega arith

      next : (n clock : ℕ) → n ≡ 8 * (clock % TURNS) → (n + 8) % 2 ^ 64 ≡ 8 * (suc clock % TURNS)
      next n clock is = omega arith

  -- ---- berths

  module _ (d : ℕ) (inside : d < MAX_CALLERS) where
    abbrev n : ℕ
    n = get_or s.words (berth_at d) 0

    -- the berth that is there
    there : Berth
    there = now_cells.waits.berths d

    is : n ≡ berth_word (now_cells.waits.berths d)
    is = sh.cells.berth d inside

    found : berth_of n ≡ now_cells.waits.berths d
    found = ap berth_of is ∙ berth-back (now_cells.waits.berths d)

    -- the berth becomes another one
    put : (x : ℕ) (new : Berth) → x ≡ berth_word new → HasCells k (set s.words (berth_at d) x)
        (record now_cells { waits = record now_cells.waits { berths = with_berth now_cells.waits.berths d new } })
    put x new = berth_cells k s.words now_cells sh.cells d x new inside

    pub look_at_owed : Owed R k s sh r (Bell (LookAt d (berth_of n))) (set s.words (berth_at d) n)
    look_at_owed = rung (LookAt d (berth_of n)) _ tt found (same_cells (berth_at d))

    pub tell_owed : (waiter : Waiter) (turn : ℕ) → Owed R k s sh r (Bell (Tell d waiter turn (berth_of n)))
        (set s.words (berth_at d) (either (eqb n (berth_word (Listed waiter turn))) (berth_word (Told waiter turn)) n))
    tell_owed waiter turn = rung (Tell d waiter turn (berth_of n)) _ tt found (put _ _ left)
      where
        left : either (eqb n (berth_word (Listed waiter turn))) (berth_word (Told waiter turn)) n
            ≡ berth_word (told_as waiter turn (now_cells.waits.berths d))
        left = exchanged n (berth_word (Listed waiter turn)) (berth_word (Told waiter turn))
            (λ (z : ℕ). z ≡ berth_word (told_as waiter turn (now_cells.waits.berths d)))
            (λ hit. let was = berth-one (now_cells.waits.berths d) (Listed waiter turn) (sym is ∙ hit) in
            sym (ap (λ (b : Berth). berth_word (told_as waiter turn b)) was ∙ ap berth_word (as-hit waiter turn)))
            (λ miss. is ∙ sym (ap berth_word (as-miss waiter turn (now_cells.waits.berths d)
            (λ same. miss (is ∙ ap berth_word same)))))

  -- those of the caller's own berth
  pub enlist_owed : (waiter : Waiter) (turn : ℕ) → IsIn r.steps → HasTaken turn r.steps
      → Owed R k s sh r (Bell (Enlist r.number waiter turn (berth_of (get_or s.words (berth_at r.number) 0))))
      (set s.words (berth_at r.number) (berth_word (Listed waiter turn)))
  enlist_owed waiter turn there taken = rung (Enlist r.number waiter turn _) _ (refl, there, taken) (found r.number low)
      (put r.number low (berth_word (Listed waiter turn)) (Listed waiter turn) refl)

  pub get_up_owed : Owed R k s sh r (Bell (GetUp r.number (berth_of (get_or s.words (berth_at r.number) 0))))
      (set s.words (berth_at r.number) 0)
  get_up_owed = rung (GetUp r.number _) _ refl (found r.number low) (put r.number low 0 Up refl)
