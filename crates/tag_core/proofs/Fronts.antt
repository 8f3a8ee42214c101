-- A held tag's slot comes to the front of its seat, and goes back to its place in the order: two loads that change
-- nothing else.
use Rattle.std.specs.Prelude.{◌<◌, ◌∷◌, ◌≡◌, ◌≢◌}
use Rattle.tag_core.proofs.Uses.{[], Act, Allows, ap, arith, but, carried_after, Carries, chain, dite, eq-eqb, fronted, get_elem?, get_or, gives, homes_after, IsKnown, keeps, Layout, length, length-set, List, map, Me, ne_eqb, none, ordered, own_view, Record, refl, same_record, set, set-get_or}
use Rattle.tag_core.proofs.Uses.{set_else, set_here, Shape, Shown, SlotIs, some, some-injective, State, step, subst, suc, sym, tag_bit, tags_from, takes, Valid, value_of, View, world_of, zero, ℕ, ℕ_discrete, ◌∙◌}
use mathlib.Core.Option as maybe
use Rattle.tag_core.specs.Spacing.{state_at}
use Rattle.tag_core.proofs.Turns.{held_from}
use Rattle.tag_core.proofs.Singles.{same_state}
use Rattle.tag_core.proofs.Acts.{moves}

-- what stands in a list already
pub set_same : {A : Type 0} (l : List A) (i : ℕ) (a : A) → get_elem? l i ≡ some a → set l i a ≡ l
set_same [] i a e = refl
set_same (x ∷ l) zero a e = ap (λ (z : _). z ∷ l) (sym (some-injective x a e))
set_same (x ∷ l) (suc i) a e = ap (λ (z : List _). x ∷ z) (set_same l i a e)

-- the rule looks at each home alone
pub same_homes : (R : Type 0) (k : Shape) (s : State R (View R)) (homes' : List (maybe.Option R)) → Shown k s
    → ((t : ℕ) → t < k.layout.depth → get_elem? homes' t ≡ get_elem? s.homes t)
    → (id i : ℕ) (v : View R) → get_elem? s.views id ≡ some v
    → Shown k record { words = set s.words i (get_or s.words i 0); homes = homes'; views = set s.views id v }
same_homes R k s homes' sh same id i v at =
    subst (λ (z : List ℕ × List (View R)). Shown k record { words = z.0; homes = homes'; views = z.1 })
    (λ j. (sym (set-get_or s.words i 0) j, sym (set_same s.views id v at) j)) (record {
      opening = sh.opening;
      history = sh.history;
      lawful = sh.lawful;
      cells = sh.cells;
      tags = sh.tags;
      slots = λ t l. subst (λ (z : maybe.Option (maybe.Option R)). SlotIs z ((world_of k sh.history).place t))
          (sym (same t l)) (sh.slots t l);
      posts = λ t l e. same t l ∙ sh.posts t l e;
      seat = sh.seat;
      position = sh.position;
      records = sh.records;
      each = sh.each;
    })

module _ (f : ℕ → ℕ) (u : ℕ) where
  -- the bit left out
  pub but_here : but f u u ≡ 0
  but_here = grind (arith, eq-eqb)

  -- every other bit
  pub but_else : (t : ℕ) → t ≢ u → but f u t ≡ f t
  but_else t n = grind (arith, ne_eqb)

  but_one : (t : ℕ) → but f u t ≡ 1 → (t ≢ u) × (f t ≡ 1)
  but_one t e = grind arith

module _ (R : Type 0) (n : ℕ) (f : ℕ → ℕ) (u : ℕ) (lu : u < n) (has : f u ≡ 1) (hs : List (maybe.Option R))
    (deep : length hs ≡ n) (out : (t : ℕ) → t < n → f t ≡ 1 → get_elem? hs t ≡ some none) where
  -- an act that leaves each home as it was
  pub record Front (cs : List (ℕ × R)) : Type 0 where
    pub act : Act R
    pub valid : Valid hs cs act
    pub value : R
    pub slots : List (ℕ × R)
    pub list : carried_after cs act ≡ (u, value) ∷ slots
    pub was : value_of cs u ≡ some value
    pub tags : map (λ x. x.0) slots ≡ tags_from (but f u) 0 n
    pub others : (t : ℕ) → t < n → t ≢ u → f t ≡ 1 → value_of slots t ≡ value_of cs t
    pub same : (t : ℕ) → t < n → get_elem? (homes_after hs cs act) t ≡ get_elem? hs t

  -- the slot of a held tag comes to the front
  pub fronts : (cs : List (ℕ × R)) → map (λ x. x.0) cs ≡ tags_from f 0 n → Front cs
  fronts cs tags =
      let go = moves R f (but f u) n hs cs (omega arith) tags (λ t l no is. absurd (no (but_one f u t is).1)) in
      let here : but f u u ≢ 1 = (λ (e : but f u u ≡ 1). let z = but_here f u in absurd (omega arith)) in
      let back = go.returned u lu has here in let hs1 : List (maybe.Option R) = homes_after hs cs go.act in
      let long : length hs1 ≡ length hs = go.long in record {
        act = chain go.act (takes u back.0);
        valid = (go.valid, back.2);
        value = back.0;
        slots = go.list;
        list = ap (λ (z : List (ℕ × R)). (u, back.0) ∷ z) go.list_is;
        was = back.1;
        tags = go.tags;
        others = λ t l ne is. let w = go.kept t l is (but_else f u t ne ∙ is) in w.2 ∙ sym w.1;
        same = λ t l. grind (
          arith,
          but_here,
          but_else,
          set_here hs1 u none,
          set_else hs1 u t none,
          go.out t l,
          go.same t l,
          out t l,
          out u lu,
        );
      }

  -- an act that leaves each home as it was and puts the front slot back into its order
  pub record Order (value : R) (slots cs : List (ℕ × R)) : Type 0 where
    pub act : Act R
    pub valid : Valid hs cs act
    pub tags : map (λ x. x.0) (carried_after cs act) ≡ tags_from f 0 n
    pub now : value_of (carried_after cs act) u ≡ some value
    pub others : (t : ℕ) → t < n → t ≢ u → f t ≡ 1 → value_of (carried_after cs act) t ≡ value_of slots t
    pub same : (t : ℕ) → t < n → get_elem? (homes_after hs cs act) t ≡ get_elem? hs t

  -- there is such an act
  pub orders : (value : R) (slots : List (ℕ × R)) → map (λ x. x.0) slots ≡ tags_from (but f u) 0 n
      → Order value slots ((u, value) ∷ slots)
  orders value slots tags =
      let hs1 : List (maybe.Option R) = set hs u (some value) in
      let long : length hs1 ≡ length hs = length-set hs u (some value) in
      let home : get_elem? hs1 u ≡ some (some value) = set_here hs u (some value) (omega arith) in
      let go = moves R (but f u) f n hs1 slots (omega arith) tags (λ t l no is. dite (ℕ_discrete t u)
      (λ (e : t ≡ u). (value, ap (get_elem? hs1) e ∙ home))
      (λ (ne : t ≢ u). absurd (no (but_else f u t ne ∙ is)))) in
      let here : but f u u ≢ 1 = (λ (e : but f u u ≡ 1). let z = but_here f u in absurd (omega arith)) in
      let came = go.taken u lu here has in record {
        act = chain gives go.act;
        valid = (tt, go.valid);
        tags = ap (map (λ x. x.0)) go.list_is ∙ go.tags;
        now = ap (λ (z : List (ℕ × R)). value_of z u) go.list_is ∙ came.2
            ∙ some-injective (some came.0) (some value) (sym came.1 ∙ home);
        others = λ t l ne is. let w = go.kept t l (but_else f u t ne ∙ is) is in
            ap (λ (z : List (ℕ × R)). value_of z t) go.list_is ∙ w.2 ∙ sym w.1;
        same = λ t l. grind (arith, but_else, set_else hs u t (some value), go.out t l, go.same t l, out t l);
      }

module _ (R : Type 0) (k : Shape) (id : ℕ) (me : Me R (View R)) (r : Record R) (mine : me.0 ≡ own_view r) (u : ℕ)
    (lu : u < k.layout.depth) (has : tag_bit k.layout r.held u ≡ 1) where
  abbrev f : ℕ → ℕ
  f = tag_bit k.layout r.held

  module _ (s : State R (View R)) (sh : Shown k s) (at : get_elem? s.views id ≡ some me.0) where
    ok : IsKnown k sh.history r
    ok = (sh.records id (own_view r) (at ∙ ap some mine) 0 r refl).0

    out_there : (t : ℕ) → t < k.layout.depth → tag_bit k.layout r.held t ≡ 1 → get_elem? s.homes t ≡ some none
    out_there t l e = subst (SlotIs (get_elem? s.homes t)) (held_from r.number _ (ok.held t l ∙ e)) (sh.slots t l)

  -- the table allows a load that brings a held tag's slot to the front
  pub front_allowed : Carries k.layout r.held me.1
      → Allows (Shown k) k.layout.depth id me (state_at k.layout u) (λ n. n)
      (fronted (step k.layout.depth (state_at k.layout u) 0 0 none) me)
  front_allowed carries s sh deep at _ =
      let go = fronts R k.layout.depth (tag_bit k.layout r.held) u lu has s.homes deep
      (out_there s sh at) me.1 carries in
      let shape = (ok s sh at).shape in (
        me.0,
        go.act,
        go.valid,
        same_homes R k s (homes_after s.homes me.1 go.act) sh go.same id (state_at k.layout u) me.0 at,
        λ u' r' eu er lu' has'. let same : r ≡ r' = same_record r r' (sym mine ∙ er) in
            subst (λ (x : ℕ × Layout × List ℕ). (value : R) × (slots : List (ℕ × R)) × (me.0 ≡ me.0)
            × (carried_after me.1 go.act ≡ (x.0, value) ∷ slots) × (value_of me.1 x.0 ≡ some value)
            × (map (λ y. y.0) slots ≡ tags_from (but (tag_bit x.1 x.2) x.0) 0 x.1.depth)
            × ((t : ℕ) → t < x.1.depth → t ≢ x.0 → tag_bit x.1 x.2 t ≡ 1 → value_of slots t ≡ value_of me.1 t))
            (λ j. (
              same_state k r r' u u' shape same eu j,
              ap (λ (z : Shape). z.layout) (sym shape ∙ ap (λ (z : Record R). z.shape) same) j,
              (same j).held,
            ))
            (go.value, go.slots, refl, go.list, go.was, go.tags, go.others),
      )

  -- the table allows a load that puts it back
  pub order_allowed : (value : R) (slots : List (ℕ × R)) → me.1 ≡ (u, value) ∷ slots
      → map (λ x. x.0) slots ≡ tags_from (but (tag_bit k.layout r.held) u) 0 k.layout.depth
      → Allows (Shown k) k.layout.depth id me (state_at k.layout u) (λ n. n)
      (ordered (step k.layout.depth (state_at k.layout u) 0 0 none) me)
  order_allowed value slots list tags s sh deep at _ = let shape = (ok s sh at).shape in
      let go = subst (Order R k.layout.depth (tag_bit k.layout r.held) u lu has s.homes deep
      (out_there s sh at) value slots) (sym list)
      (orders R k.layout.depth (tag_bit k.layout r.held) u lu has s.homes deep (out_there s sh at) value slots tags) in (
        me.0,
        go.act,
        go.valid,
        same_homes R k s (homes_after s.homes me.1 go.act) sh go.same id (state_at k.layout u) me.0 at,
        λ u' v' xs' r' eu er el et eh. let same_list : (u, value) ∷ slots ≡ (u', v') ∷ xs' = sym list ∙ el in
            let same_value : value ≡ v' = ap (λ (z : ℕ × R). z.1)
            (some-injective (u, value) (u', v') (ap (λ (z : List (ℕ × R)). get_elem? z 0) same_list)) in
            let same_slots : slots ≡ xs' = ap rest_of same_list in
            let same : r ≡ r' = same_record r r' (sym mine ∙ er) in
            subst (λ (x : ℕ × Layout × List ℕ × R × List (ℕ × R)). (me.0 ≡ me.0)
            × Carries x.1 x.2 (carried_after me.1 go.act) × (value_of (carried_after me.1 go.act) x.0 ≡ some x.3)
            × ((t : ℕ) → t < x.1.depth → t ≢ x.0 → tag_bit x.1 x.2 t ≡ 1
            → value_of (carried_after me.1 go.act) t ≡ value_of x.4 t))
            (λ j. (
              same_state k r r' u u' shape same eu j,
              ap (λ (z : Shape). z.layout) (sym shape ∙ ap (λ (z : Record R). z.shape) same) j,
              (same j).held,
              same_value j,
              same_slots j,
            ))
            (refl, go.tags, go.now, go.others),
      )
    where
      rest_of : List (ℕ × R) → List (ℕ × R)
      rest_of [] = []
      rest_of (x ∷ xs) = xs

-- the table allows a load that changes nothing, and by it a caller learns what the rule says of its seat and of what it found
pub load_allowed : (R : Type 0) (k : Shape) (d id : ℕ) (me : Me R (View R)) (i : ℕ) (fact : ℕ → Type 0)
    → ((s : State R (View R)) → Shown k s → get_elem? s.views id ≡ some me.0 → fact (get_or s.words i 0))
    → Allows (Shown k) d id me i (λ n. n) (λ n me'. (me' ≡ me) × fact n)
load_allowed R k d id me i fact tells s sh deep at _ = (
  me.0,
  keeps,
  tt,
  same_homes R k s s.homes sh (λ t l. refl) id i me.0 at,
  (refl, tells s sh at),
)

-- the same of its seat alone
pub idle_allowed : (R : Type 0) (k : Shape) (d id : ℕ) (me : Me R (View R)) (fact : Type 0)
    → ((s : State R (View R)) → Shown k s → get_elem? s.views id ≡ some me.0 → fact)
    → Allows (Shown k) d id me 0 (λ n. n) (λ _ me'. (me' ≡ me) × fact)
idle_allowed R k d id me fact tells = load_allowed R k d id me 0 (λ _. fact) tells
