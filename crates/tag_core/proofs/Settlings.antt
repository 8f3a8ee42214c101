-- A seat that has the records of all callers.
use Rattle.std.specs.Prelude.{◌++◌, ◌+◌, ◌∷◌, ◌≡◌}
use Rattle.tag_core.proofs.Uses.{[], Allows, ap, append_assoc, AreSettled, AreUnchanged, arith, Caller, get_elem?, HasRecords, IsUnchanged, length-append, List, map, map-append, Me, none, pairs_more, posted_in, Record, record_of, refl, settled, Shape, Shown, size_of, some, State, step, subst, suc}
use Rattle.tag_core.proofs.Uses.{sym, total_of, Totals, View, world_of, ℕ, ◌∙◌}
use Rattle.std.proofs.Common.{get_or}
use Rattle.tag_core.specs.Plays.{waiters_settled}
use Rattle.tag_core.specs.Settling.{LeavesWaiters}
use Rattle.tag_core.specs.Spacing.{waiters_at}
use Rattle.tag_core.proofs.Fronts.{idle_allowed, load_allowed}
use Rattle.tag_core.proofs.Ends.{few_records, won_all, back_all, held_all, even_all}

module _ {R : Type 0} (k : Shape) (s : State R (View R)) (sh : Shown k s) (id : ℕ) (v : View R)
    (at : get_elem? s.views id ≡ some v)
    (all : HasRecords k.callers v.records.value) where
  -- what the records tell, and the posted tags of the world
  abbrev totals_there : Totals
  totals_there = record {
    got = total_of (λ (r : Record R). r.won) v.records.value;
    back = total_of (λ (r : Record R). r.back) v.records.value;
    held = total_of (λ (r : Record R). size_of r.held) v.records.value;
    posted = posted_in k.layout (world_of k sh.history);
  }

  -- the rule's history shows them
  pub settled_there : AreSettled k v.records.value totals_there
  settled_there =
      let got = won_all k s sh id v at all in let back = back_all k s sh id v at all in
      let held = held_all k s sh id v at all in let even = even_all k s sh id v at in record {
        history = sh.history;
        lawful = sh.lawful;
        each = λ i r e. (sh.records id v at i r e).0;
        once = λ i j r q e f same. sym (sh.records id v at i r e).2 ∙ ap sh.position same
            ∙ (sh.records id v at j q f).2;
        every = all;
        few = few_records k s sh id v at;
        got = refl;
        back = refl;
        held = refl;
        totals_are = record { got = got; back = back; held = held; posted = refl };
        balance = omega arith;
      }

-- the table allows a load by which all callers come together
pub settle_allowed : (R : Type 0) (k : Shape) (d id : ℕ) (me : Me R (View R))
    → Allows (Shown k) d id me 0 (λ n. n) (settled (step d 0 0 0 none) me)
settle_allowed R k d id me = idle_allowed R k d id me _
    (λ s sh at r e.
    let is : r.shape ≡ k = (sh.records id me.0 at 0 r e).0.shape in
    subst (λ (z : Shape). HasRecords z.callers me.0.records.value → (totals : Totals)
    × AreSettled z me.0.records.value totals)
    (sym is) (λ all. (totals_there k s sh id me.0 at all, settled_there k s sh id me.0 at all)))

-- the table allows a load of the word of all who wait by which all callers come together
pub waiters_allowed : (R : Type 0) (k : Shape) (d id : ℕ) (me : Me R (View R))
    → Allows (Shown k) d id me waiters_at (λ n. n) (waiters_settled (step d waiters_at 0 0 none) me)
waiters_allowed R k d id me = load_allowed R k d id me waiters_at
    (λ (found : ℕ). (r : Record R) → waiters_at ≡ waiters_at → get_elem? me.0.records.value 0 ≡ some r
    → HasRecords r.shape.callers me.0.records.value → LeavesWaiters r.shape me.0.records.value found)
    (λ s sh at r e first.
    let is : r.shape ≡ k = (sh.records id me.0 at 0 r first).0.shape in
    subst (λ (z : Shape). HasRecords z.callers me.0.records.value
    → LeavesWaiters z me.0.records.value (get_or s.words waiters_at 0))
    (sym is) (λ all. record {
      history = sh.history;
      lawful = sh.lawful;
      each = λ n q f. (sh.records id me.0 at n q f).0;
      every = all;
      waiting_is = sh.cells.waiters;
    }))

module _ {R : Type 0} where
  -- one caller more is as it was
  pub unchanged-more : (olds news : List (Caller R)) (a b : Caller R) → AreUnchanged olds news → IsUnchanged a b
      → AreUnchanged (olds ++ a ∷ []) (news ++ b ∷ [])
  unchanged-more olds news a b same one = record {
    count = length-append news (b ∷ []) ∙ ap (λ (z : ℕ). z + 1) same.count ∙ sym (length-append olds (a ∷ []));
    each = pairs_more IsUnchanged olds news a b same.count same.each one;
  }

  -- the last caller's record comes before the others'
  pub last_before : (front : List (Caller R)) (last : Caller R) (rs : List (Record R))
      → map record_of (front ++ last ∷ []) ++ rs ≡ map record_of front ++ record_of last ∷ rs
  last_before front last rs =
      ap (λ (z : List (Record R)). z ++ rs) (map-append (record_of {R = R}) front (last ∷ []))
      ∙ append_assoc (map record_of front) (record_of last ∷ []) rs

  -- callers that are as they were have the records that they had
  pub unchanged-records : (olds news : List (Caller R)) → AreUnchanged olds news
      → map record_of news ≡ map record_of olds
  unchanged-records [] [] same = refl
  unchanged-records [] (b ∷ news) same = let e = same.count in absurd (omega arith)
  unchanged-records (a ∷ olds) [] same = let e = same.count in absurd (omega arith)
  unchanged-records (a ∷ olds) (b ∷ news) same = let e = same.count in
      (λ j. (same.each 0 a b refl refl).known j
      ∷ unchanged-records olds news record { count = omega arith; each = λ n x y p q. same.each (suc n) x y p q } j)

  -- the same totals, told by sums over the same records
  pub totals_same : (k : Shape) (rs : List (Record R)) (t u : Totals) → AreSettled k rs t
      → u.got ≡ total_of (λ (r : Record R). r.won) rs → u.back ≡ total_of (λ (r : Record R). r.back) rs
      → u.held ≡ total_of (λ (r : Record R). size_of r.held) rs → u.got ≡ u.back + u.held + u.posted → AreSettled k rs u
  totals_same k rs t u known got back held balance =
      let a = known.got in let b = known.back in let d = known.held in let even = known.balance in
      let same_got : t.got ≡ u.got = omega arith in let same_back : t.back ≡ u.back = omega arith in
      let same_held : t.held ≡ u.held = omega arith in let same_posted : t.posted ≡ u.posted = omega arith in
      subst (AreSettled k rs) (λ j. record {
        got = same_got j;
        back = same_back j;
        held = same_held j;
        posted = same_posted j;
      })
      known
