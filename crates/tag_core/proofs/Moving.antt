-- One step of one caller, with its slots.
use Rattle.std.specs.Prelude.{◌*◌, ◌+◌, ◌<◌, ◌∷◌, ◌≡◌, ◌≢◌, ◌≤◌, ◌⊎◌}
use Rattle.tag_core.proofs.Uses.{ap, arith, back-history, back_by, back_in, carried_after, Carries, dite, eq-eqb, event_of, events_of, get_elem?, got_in, HasHistory, held, held_after, held_bit, held_in, homes_after, IsKnown, IsOpening, last_post, length, List, map, MOST_WON, ne_eqb, one_if}
use Rattle.tag_core.proofs.Uses.{opening_world, own_view, Place, posted, posted_in, Record, record_after, refl, set, set_here, Shape, Shown, SlotIs, some, State, Step, Stepped, subst, sum_below-none, sym, tag_bit, value_of, View, within, world_of, ℕ, ℕ_discrete, ⊎_elim}
use Rattle.tag_core.proofs.Uses.{◌∙◌}
use mathlib.Core.Option as maybe
use Rattle.tag_core.proofs.Picks.{placed}
use Rattle.tag_core.proofs.Showings.{seen_in}
use Rattle.tag_core.proofs.Counts.{own_counts}
use Rattle.tag_core.proofs.Turns.{held_from}
use Rattle.tag_core.proofs.Advance.{Owed, advances}
use Rattle.tag_core.proofs.Acts.{Moved, moves}

-- a held tag shows in the held set of its holder
pub held_one : (c : ℕ) (q : Place) → q ≡ held c → held_bit c q ≡ 1
held_one c q e = ap (held_bit c) e ∙ ap one_if (eq-eqb c c refl)

-- who holds a tag, if anyone does
abbrev holder : Place → ℕ
holder (held c) = c
holder _ = 0

-- a posted tag is in no held set
pub posted_unheld : (c : ℕ) (q : Place) (had : ℕ) → held_bit c q ≡ had → q ≡ posted → had ≢ 1
posted_unheld c q had was e = grind arith

module _ (R : Type 0) (home : maybe.Option (maybe.Option R)) (c : ℕ) (q p : Place) (had has : ℕ)
    (was : held_bit c q ≡ had) (now : held_bit c p ≡ has)
    (others : (d : ℕ) → d ≢ c → held_bit d p ≡ held_bit d q) where
  -- the slot of a tag that a caller gets is at home
  taken_from_home : SlotIs home q → had ≢ 1 → has ≡ 1 → (y : R) × (home ≡ some (some y))
  taken_from_home slot before after = grind (arith, eq-eqb, ne_eqb, others (holder q), others (holder p))

  -- the slot of a tag that it gives away belongs there
  given_home : (y : R) × (home ≡ some (some y)) → had ≡ 1 → has ≢ 1 → SlotIs home p
  given_home slot before after = grind (arith, eq-eqb, ne_eqb, others (holder q), others (holder p))

  -- any other slot stays where it belongs
  left_there : SlotIs home q → had ≢ 1 → has ≢ 1 → SlotIs home p
  left_there slot before after = grind (arith, eq-eqb, ne_eqb, others (holder q), others (holder p))

-- a map that opens is in balance
pub opening_even : (k : Shape) → IsOpening k
    → got_in k.callers (opening_world k) ≡ back_in k.callers (opening_world k) + held_in k.layout
    (opening_world k) + posted_in k.layout (opening_world k)
opening_even k opens =
    let held = sum_below-none (λ t. 0) k.layout.depth (λ t l. refl) in let even = opens.even in omega arith

module _ (R : Type 0) (k : Shape) (s : State R (View R)) (sh : Shown k s) (r : Record R) (st : Step R) (words' : List ℕ)
    (owed : Owed R k s sh r st words')
    (ok : IsKnown k sh.history r) (cs : List (ℕ × R)) (carries : Carries k.layout r.held cs)
    (deep : length s.homes ≡ k.layout.depth) where
  abbrev q : ℕ → Place
  q = (world_of k sh.history).place

  abbrev p : ℕ → Place
  p = placed k.layout (event_of k.layout r.number st) (world_of k sh.history).place

  abbrev f : ℕ → ℕ
  f = tag_bit k.layout r.held

  abbrev f' : ℕ → ℕ
  f' = tag_bit k.layout (held_after k.layout st r.held)

  -- the slots move with the step's tags
  pub moved : Moved R f f' k.layout.depth s.homes cs
  moved = moves R f f' k.layout.depth s.homes cs (let e : length s.homes ≡ k.layout.depth = deep in omega arith) carries
      (λ t l. let tag = owed.tags t l in
      taken_from_home R _ r.number (q t) (p t) _ _ (ok.held t l) tag.held tag.others_hold (sh.slots t l))

  slots_after : (t : ℕ) → t < k.layout.depth → SlotIs (get_elem? (homes_after s.homes cs moved.act) t) (p t)
  slots_after t l = let tag = owed.tags t l in let c : ℕ = r.number in dite (ℕ_discrete (f' t) 1)
      (λ (aye : f' t ≡ 1). subst (SlotIs (get_elem? (homes_after s.homes cs moved.act) t))
      (sym (held_from c (p t) (tag.held ∙ aye))) (moved.out t l aye))
      (λ (non' : f' t ≢ 1). dite (ℕ_discrete (f t) 1)
      (λ (aye : f t ≡ 1). let w = moved.returned t l aye non' in
      given_home R _ c (q t) (p t) _ _ (ok.held t l) tag.held tag.others_hold (w.0, w.2) aye non')
      (λ (non : f t ≢ 1). subst (λ z. SlotIs z (p t)) (sym (moved.same t l non non'))
      (left_there R _ c (q t) (p t) _ _ (ok.held t l) tag.held tag.others_hold (sh.slots t l) non non')))

  module _ (posting : (t : ℕ) → t < k.layout.depth → p t ≡ posted
      → ((q t ≡ posted) × (last_post t ((r.number, st) ∷ sh.history) ≡ last_post t sh.history)) ⊎
      ((q t ≡ held r.number) × (last_post t ((r.number, st) ∷ sh.history) ≡ value_of cs t))) where
    posts_after : (t : ℕ) → t < k.layout.depth → p t ≡ posted
        → get_elem? (homes_after s.homes cs moved.act) t ≡ some (last_post t ((r.number, st) ∷ sh.history))
    posts_after t l e =
        let non' = posted_unheld r.number (p t) (f' t) (owed.tags t l).held e in
        ⊎_elim
        (λ (w : (q t ≡ posted) × (last_post t ((r.number, st) ∷ sh.history) ≡ last_post t sh.history)).
        let non = posted_unheld r.number (q t) (f t) (ok.held t l) w.0 in
        moved.same t l non non' ∙ sh.posts t l w.0 ∙ ap some (sym w.1))
        (λ (w : (q t ≡ held r.number) × (last_post t ((r.number, st) ∷ sh.history) ≡ value_of cs t)).
        let aye : f t ≡ 1 = sym (ok.held t l) ∙ held_one r.number (q t) w.0 in
        let g = moved.returned t l aye non' in g.2 ∙ ap some (sym (w.1 ∙ g.1)))
        (posting t l e)

    -- the rule holds after the step
    pub kept : (id : ℕ) → get_elem? s.views id ≡ some (own_view r)
        → Shown k record {
          words = words';
          homes = homes_after s.homes cs moved.act;
          views = set s.views id
              (own_view (record_after st r));
        }
    kept id at = advances R k s sh r st words' (homes_after s.homes cs moved.act) owed slots_after posts_after id at

    -- with what the caller is told
    pub told : (id : ℕ) → get_elem? s.views id ≡ some (own_view r) → (me : View R × List (ℕ × R)) → me.1 ≡ cs
        → Stepped st r me (own_view (record_after st r), carried_after me.1 moved.act)
    told id at me e =
        let same : k ≡ r.shape = sym ok.shape in
        let list : carried_after me.1 moved.act ≡ moved.list = ap (λ (z : List (ℕ × R)). carried_after z moved.act) e
        ∙ moved.list_is in record {
          view = refl;
          carries = subst (λ (z : Shape). Carries z.layout (held_after z.layout st r.held)
              (carried_after me.1 moved.act)) same (ap (map (λ x. x.0)) list ∙ moved.tags);
          values = subst (λ (z : Shape). (t : ℕ) → t < z.layout.depth → tag_bit z.layout r.held t ≡ 1
              → tag_bit z.layout (held_after z.layout st r.held) t ≡ 1
              → value_of (carried_after me.1 moved.act) t ≡ value_of me.1 t) same
              (λ t l a b. let g = moved.kept t l a b in ap (λ (z : List (ℕ × R)). value_of z t) list ∙ g.2 ∙ sym g.1
              ∙ ap (λ (z : List (ℕ × R)). value_of z t) (sym e));
          few_back = subst (λ (z : Shape). r.back + back_by (event_of z.layout r.number st) ≤ z.callers * MOST_WON) same
              (let few = back-history k.layout k.callers (events_of k.layout ((r.number, st) ∷ sh.history))
              (opening_world k)
              (owed.needs, sh.lawful.happens) sh.opening.unspent (opening_even k sh.opening) r.number ok.number in
              let now = (own_counts k.layout r.number st (world_of k sh.history).back).1 in
              let before = ok.back in omega arith);
          shown = subst (λ (z : Shape). HasHistory z (record_after st r)) same
              (seen_in R k _ (kept id at) id (record_after st r)
              (set_here s.views id (own_view (record_after st r)) (within s.views id _ at)));
        }
