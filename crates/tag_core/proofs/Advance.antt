-- One step of one caller keeps the rule, where the cells, the tags and the slots are shown to follow.
use Rattle.std.specs.Prelude.{◌+◌, ◌<◌, ◌∷◌, ◌≡◌, ◌≢◌}
use Rattle.tag_core.proofs.Uses.{ap, at_set, back_by, bit_at, cells_after, cells_of, each_same, event_of, FindsIn, FindsPost, first_only, get_elem?, get_or, HasCells, held_after, History, IsBy, IsKnown, IsWithin, last_post, Layout, List, MayHappen, own_view, place_of, posted, Record}
use Rattle.tag_core.proofs.Uses.{record_after, refl, set, Shape, Shown, SlotIs, some, State, Step, steps_by, subst, swept_after, sym, tag_bit, View, won_by, word_of, words, world_of, ℕ, ⊎_elim, ◌∙◌}
use mathlib.Core.Option as maybe
use Rattle.tag_core.proofs.Picks.{placed}
use Rattle.tag_core.proofs.Turns.{Shows}
use Rattle.tag_core.proofs.Within.{held_within, sweeps_within}
use Rattle.tag_core.proofs.Counts.{own_counts, other_counts, steps_here, steps_else, held_long, swept_long}

module _ (R : Type 0) (k : Shape) where
  abbrev TableState : Type 0
  TableState = State R (View R)

  -- what is owed of one step of the caller of r
  pub record Owed (s : TableState) (sh : Shown k s) (r : Record R) (st : Step R) (words' : List ℕ) : Type 0 where
    pub finds : FindsIn st (cells_of sh.history)
    pub own : IsBy r.number st (steps_by r.number sh.history)
    pub value : FindsPost st sh.history
    pub needs : MayHappen k.layout k.callers (world_of k sh.history) (event_of k.layout r.number st)
    pub cells : HasCells k words' (cells_after st (cells_of sh.history))
    pub tags : (t : ℕ) → t < k.layout.depth
        → Shows r.number ((world_of k sh.history).place t)
        (placed k.layout (event_of k.layout r.number st) (world_of k sh.history).place t)
        (bit_at ((cells_after st (cells_of sh.history)).words.word (word_of k.layout t)) (place_of k.layout t))
        (bit_at ((cells_after st (cells_of sh.history)).words.aside (word_of k.layout t)) (place_of k.layout t))
        ((cells_after st (cells_of sh.history)).state t) (tag_bit k.layout (held_after k.layout st r.held) t)
        (tag_bit k.layout (swept_after st r.swept) t)

  module _ (s : TableState) (sh : Shown k s) (r : Record R) (st : Step R) (words' : List ℕ)
      (homes' : List (maybe.Option R))
      (owed : Owed s sh r st words')
      (slots' : (t : ℕ) → t < k.layout.depth
      → SlotIs (get_elem? homes' t) (placed k.layout (event_of k.layout r.number st) (world_of k sh.history).place t))
      (posts' : (t : ℕ) → t < k.layout.depth
      → placed k.layout (event_of k.layout r.number st) (world_of k sh.history).place t ≡ posted
      → get_elem? homes' t ≡ some (last_post t ((r.number, st) ∷ sh.history))) where
    abbrev h : History R
    h = sh.history

    abbrev h' : History R
    h' = (r.number, st) ∷ sh.history

    mine : IsKnown k h r → IsKnown k h' (record_after st r)
    mine ok = let same : r.shape.layout ≡ k.layout = ap (λ (z : Shape). z.layout) ok.shape in record {
      shape = ok.shape;
      number = ok.number;
      held_wide = held_long r.shape.layout r.number st r.held ∙ ok.held_wide;
      swept_wide = swept_long r.shape.layout r.number st r.swept ∙ ok.swept_wide;
      within = subst (λ (z : Layout). (i : ℕ) → i < words k.layout
          → IsWithin k.layout i (get_or (held_after z st r.held) i 0)) (sym same)
          (held_within k.layout r.number st owed.needs.in_layout r.held ok.held_wide ok.within);
      swept_within = sweeps_within k.layout st (cells_of h) owed.finds sh.cells.aside_within r.swept ok.swept_wide
          ok.swept_within;
      held = λ t l. (owed.tags t l).held ∙ ap (λ (z : Layout). tag_bit k.layout (held_after z st r.held) t) (sym same);
      swept = λ t l. (owed.tags t l).swept;
      won = (λ j. ok.won j + won_by (event_of (same j) r.number st))
          ∙ sym (own_counts k.layout r.number st (world_of k h).won).0;
      back = (λ j. ok.back j + back_by (event_of (same j) r.number st))
          ∙ sym (own_counts k.layout r.number st (world_of k h).back).1;
      steps = ap (λ (z : List (Step R)). st ∷ z) ok.steps ∙ sym (steps_here k.layout r.number st h);
    }

    other : (q : Record R) → q.number ≢ r.number → IsKnown k h q → IsKnown k h' q
    other q far ok = record {
      shape = ok.shape;
      number = ok.number;
      held_wide = ok.held_wide;
      swept_wide = ok.swept_wide;
      within = ok.within;
      swept_within = ok.swept_within;
      held = λ t l. (owed.tags t l).others_hold q.number far ∙ ok.held t l;
      swept = λ t l. (owed.tags t l).others_sweep q.number far ∙ ok.swept t l;
      won = ok.won ∙ sym (other_counts k.layout r.number st q.number far (world_of k h).won).0;
      back = ok.back ∙ sym (other_counts k.layout r.number st q.number far (world_of k h).back).1;
      steps = ok.steps ∙ sym (steps_else k.layout r.number q.number st h far);
    }

    pub advances : (id : ℕ) → get_elem? s.views id ≡ some (own_view r)
        → Shown k record { words = words'; homes = homes'; views = set s.views id (own_view (record_after st r)) }
    advances id at = let mine_ok = sh.records id (own_view r) at 0 r refl in record {
      opening = sh.opening;
      history = h';
      lawful = record {
        finds = (mine_ok.0.number, owed.own, owed.finds, owed.value, sh.lawful.finds);
        happens =
            (owed.needs, sh.lawful.happens);
      };
      cells = owed.cells;
      tags = λ t l. record {
        word = (owed.tags t l).word;
        aside = (owed.tags t l).aside;
        posted =
            (owed.tags t l).posted;
      };
      slots = slots';
      posts = posts';
      seat = sh.seat;
      position = sh.position;
      records = λ j v e n q e'. ⊎_elim
          (λ (t : (j ≡ id) × (own_view (record_after st r) ≡ v)). here mine_ok j v n q t.0 t.1 e')
          (λ (t : (j ≢ id) × (get_elem? s.views j ≡ some v)). let o = sh.records j v t.1 n q e' in
          (other q (λ e. t.0 (sym o.1 ∙ ap sh.seat e ∙ mine_ok.1)) o.0, o.1, o.2))
          (at_set s.views id j (own_view (record_after st r)) v e);
      each = each_same (λ (r : Record R). r.number) k.callers s.views sh.seat sh.position id r (record_after st r) at
          refl sh.each;
    }
      where
        here : IsKnown k h r × (sh.seat r.number ≡ id) × (sh.position r.number ≡ 0)
            → (j : ℕ) (v : View R) (n : ℕ) (q : Record R) → j ≡ id → own_view (record_after st r) ≡ v
            → get_elem? v.records.value n ≡ some q
            → IsKnown k h' q × (sh.seat q.number ≡ j) × (sh.position q.number ≡ n)
        here ok j v n q ej ev e =
            let f = first_only n (record_after st r) q (ap (λ (z : View R). get_elem? z.records.value n) ev ∙ e) in (
              subst (IsKnown k h') f.1 (mine ok.0),
              ap (λ (z : Record R). sh.seat z.number) (sym f.1) ∙ ok.1
                  ∙ sym ej,
              ap (λ (z : Record R). sh.position z.number) (sym f.1) ∙ ok.2 ∙ sym f.0,
            )
