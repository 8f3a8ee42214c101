-- Steps of members, and records that pass from seat to seat, keep the rule of a ledger. Nothing here depends on what
-- the steps are.
use Rattle.std.specs.Prelude.{◌+◌, ◌-◌, ◌<◌, ◌∷◌, ◌≡◌, ◌≢◌}
use Rattle.step_ledger.proofs.Uses.{[], Allows, ap, at_set, Bool, both_views, cond, eq-eqb, first_view, fresh, fresh_record, get_elem?, get_or, Joins, keeps, Lawful, Ledger, List, Me, ne_eqb, opening, other_views, own_steps, own_view, push, Record, Records, refl, set, some, Splits, State, Stepped}
use Rattle.step_ledger.proofs.Uses.{steps_of, still_to_come, subst, sym, viewing, with_step, words_left, ℕ, ⊎_elim, ◌∙◌}
use Rattle.step_ledger.proofs.Seats.{Standing, first_only, each_same}
use Rattle.step_ledger.proofs.Fresh.{standing-fresh, next_is}
use Rattle.step_ledger.proofs.Moves.{splits_first, joins_behind}

module _ {T : Type 0} where
  pub own_here : (c : ℕ) (x : T) (h : List (ℕ × T)) → own_steps c ((c, x) ∷ h) ≡ x ∷ own_steps c h
  own_here c x h = ap (λ (b : Bool). cond b (x ∷ own_steps c h) (own_steps c h)) (eq-eqb c c refl)

  pub own_else : (d c : ℕ) (x : T) (h : List (ℕ × T)) → d ≢ c → own_steps d ((c, x) ∷ h) ≡ own_steps d h
  own_else d c x h ne = ap (λ (b : Bool). cond b (x ∷ own_steps d h) (own_steps d h)) (ne_eqb c d (λ e. ne (sym e)))

module _ {S T : Type 0} where
  -- what a member knows after a step
  pub pushed : (m m' : Me S (Records T)) (r : Record T) (x : T) → m ≡ (own_view r, []) → Stepped x m m'
      → m' ≡ (own_view (with_step x r), [])
  pushed m m' r x is did = did ∙ ap (λ (z : Me S (Records T)). (push x z.0, z.1)) is

  pub settled : (m : Me S (Records T)) (r : Record T) → m ≡ (own_view r, [])
      → m ≡ (own_view (record { number = r.number; steps = steps_of m.0 }), [])
  settled m r is = is ∙ (λ j. (
    own_view (record {
      number = r.number;
      steps = sym (ap (λ (z : Me S (Records T)). steps_of z.0) is) j;
    }),
    [],
  ))

-- the member's record has its own steps of this history
abbrev IsKnown : {T : Type 0} → ℕ → List (ℕ × T) → Record T → Type 0
IsKnown n h r = (r.number < n) × (r.steps ≡ own_steps r.number h)

-- where the members' records stand, each with its own steps of this history
abbrev Stand : {T : Type 0} → ℕ → List (ℕ × T) → List (Records T) → Type 0
Stand {T} n h views = Standing (λ (r : Record T). r.number) (IsKnown n h) n views

module _ {S T : Type 0} (n : ℕ) (start : List ℕ) (after : T → List ℕ → List ℕ) (MayStep : ℕ → T
    → List (ℕ × T) → Type 0) where
  abbrev Rule : State S (Records T) → Type 0
  Rule s = Ledger n start after MayStep s

  module _ (s : State S (Records T)) (k : Rule s) (r : Record T) (id : ℕ) (at : get_elem? s.views id
      ≡ some (own_view r)) where
    pub known : (r.number < n) × (r.steps ≡ own_steps r.number k.history)
    known = let o = k.records id (own_view r) at 0 r refl in (o.0, o.1)

    module _ (x : T) (can : MayStep r.number x k.history) (ws : List ℕ) (hs : List _) (words : ws
        ≡ after x (words_left start after k.history)) where
      -- one more step of one member
      pub advances : Rule record { words = ws; homes = hs; views = set s.views id (own_view (with_step x r)) }
      advances = let own = k.records id (own_view r) at 0 r refl in record {
        history = (r.number, x) ∷ k.history;
        lawful = (own.0, can, k.lawful);
        words_are = words;
        seat = k.seat;
        position = k.position;
        records = λ j v e i q e'. ⊎_elim
            (λ (t : (j ≡ id) × (own_view (with_step x r) ≡ v)).
            let f = first_only i (with_step x r) q (ap (λ (z : Records T). get_elem? z.records.value i) t.1 ∙ e') in
            let num : r.number ≡ q.number = ap (λ (z : Record T). z.number) f.1 in (
              subst (λ (z : ℕ). z < n) num own.0,
              subst (λ (z : Record T). z.steps ≡ own_steps z.number ((r.number, x) ∷ k.history)) f.1
                  (ap (λ (l : List T). x ∷ l) own.1 ∙ sym (own_here r.number x k.history)),
              ap k.seat (sym num) ∙ own.2 ∙ sym t.0,
              ap k.position (sym num) ∙ own.3 ∙ sym f.0,
            ))
            (λ (t : (j ≢ id) × (get_elem? s.views j ≡ some v)). let o = k.records j v t.1 i q e' in (
              o.0,
              o.1 ∙ sym (own_else q.number r.number x k.history (λ e. t.0 (sym o.2 ∙ ap k.seat e ∙ own.2))),
              o.2,
              o.3,
            ))
            (at_set s.views id j (own_view (with_step x r)) v e);
        each = each_same (λ (r : Record T). r.number) n s.views k.seat k.position id r (with_step x r) at refl k.each;
      }

  -- a step of one member is allowed where it can happen
  pub allows : (slots id : ℕ) (m : Me S (Records T)) (r : Record T) → m.0 ≡ own_view r
      → (i : ℕ) (f : ℕ → ℕ) (x : ℕ → T) (Also : ℕ → Type 0)
      → ((h : List (ℕ × T)) → Lawful n MayStep h → r.number < n → r.steps ≡ own_steps r.number h
      → get_or (words_left start after h) i 0 < 18446744073709551616
      → MayStep r.number (x (get_or (words_left start after h) i 0)) h
      × (set (words_left start after h) i (f (get_or (words_left start after h) i 0))
      ≡ after (x (get_or (words_left start after h) i 0)) (words_left start after h))
      × Also (get_or (words_left start after h) i 0))
      → Allows Rule slots id m i f (λ (v : ℕ) (m' : Me S (Records T)). (Stepped (x v) m m') × Also v)
  allows slots id m r is i f x Also owes s k deep at low = let at' : get_elem? s.views id ≡ some (own_view r) = at
      ∙ ap some is in let own = known s k r id at' in
      let same : get_or s.words i 0 ≡ get_or (words_left start after k.history) i 0 =
      ap (λ (l : List ℕ). get_or l i 0) k.words_are in
      let o = owes k.history k.lawful own.0 own.1 (subst (λ (z : ℕ). z < 18446744073709551616) same low) in
      let v : ℕ = get_or s.words i 0 in (
        own_view (with_step (x v) r),
        keeps,
        tt,
        advances s k r id at' (x v) (subst (λ (z : ℕ). MayStep r.number (x z) k.history) (sym same) o.0)
            (set s.words i (f v)) s.homes
            ((λ j. set (k.words_are j) i (f (same j))) ∙ o.1
            ∙ ap (λ (z : ℕ). after (x z) (words_left start after k.history)) (sym same)),
        (ap (λ (z : Records T). (push (x v) z, m.1)) (sym is), subst Also (sym same) o.2),
      )

  -- ---- the opening

  pub opens : (slots : List S) → Rule (opening start slots (viewing (fresh 0 n)))
  opens slots =
      let now = standing-fresh fresh_record (λ (r : Record T). r.number) (IsKnown n []) n (λ c. refl) (λ c l. (l, refl)) in
      record {
        history = [];
        lawful = tt;
        words_are = refl;
        seat = now.seat;
        position = now.position;
        records = λ j v e i r e'. let o = now.records j v e i r e' in (o.0.0, o.0.1, o.1, o.2);
        each = now.each;
      }

  -- as the rule has them
  standing : (s : State S (Records T)) (k : Rule s) → Stand n k.history s.views
  standing s k = record {
    seat = k.seat;
    position = k.position;
    records = λ j v e i r e'. let o = k.records j v e i r e' in ((o.0, o.1), o.2, o.3);
    each = k.each;
  }

  -- the rule holds where these records stand in other views
  reseated : (s : State S (Records T)) (k : Rule s) (views : List (Records T)) → Stand n k.history views
      → Rule record { words = s.words; homes = s.homes; views = views }
  reseated s k views now = record {
    history = k.history;
    lawful = k.lawful;
    words_are = k.words_are;
    seat = now.seat;
    position = now.position;
    records = λ j v e i r e'. let o = now.records j v e i r e' in (o.0.0, o.0.1, o.1, o.2);
    each = now.each;
  }

  -- the first record goes to a new seat
  splits : (id : ℕ) (v : Records T) (r : Record T) (rs : List (Record T)) → v ≡ viewing (r ∷ rs)
      → Splits Rule id v (other_views v) (first_view v)
  splits = splits_first (λ (r : Record T). r.number) n Rule (λ s k. IsKnown n k.history) standing reseated

  -- the next of the members that are still to come goes to a new seat
  pub splits_next : (id : ℕ) (v : Records T) (c m : ℕ) → c < m → v ≡ still_to_come c m
      → Splits Rule id v (other_views v) (first_view v)
  splits_next id v c m low is = splits id v (fresh_record c) (fresh (c + 1) (m - (c + 1))) (next_is fresh_record c m low v is)

  -- the other's records stand behind those of the first
  pub joins : (id : ℕ) (v : Records T) (other : ℕ) (w : Records T)
      → Joins Rule id v other w (both_views v w) (viewing [])
  joins = joins_behind (λ (r : Record T). r.number) n Rule (λ s k. IsKnown n k.history) standing reseated
