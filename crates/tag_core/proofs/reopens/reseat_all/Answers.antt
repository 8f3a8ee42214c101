-- The callers are reseated in the order of their numbers, each in its own place.
use Rattle.std.specs.Prelude.{◌+◌, ◌-◌, ◌<◌, ◌∷◌, ◌≡◌, ◌≤◌}
use Rattle.tag_core.proofs.Uses.{[], All, all_front, all_last, ap, arith, at_index, at_map, at_set, Caller, dec_lt, dite, fresh, get_elem?, get_or, Global, Has, HaveOwnNumbers, IsCallerOf, length, length-append, length-set, List, Map, numbers_of, Record, record_of, reopened_record, replicate, rules}
use Rattle.tag_core.proofs.Uses.{set, some, some-injective, subst, sym, Vec, viewing, within, words, ℕ, ◌∙◌}
use Rattle.tag_core.proofs.Entries.{entry, entry_of_map}
use Rattle.tag_core.proofs.reopens.reseat_all.Given as given
use Rattle.tag_core.proofs.reopens.reseat_all.Goals.{After-index_mut}
use Rattle.tag_core.proofs.reopens.reseat_all.Goals as goal

module _ {R : Type 0} (m : Map R) (old cur : List (Caller R)) (n : ℕ) (long : length cur ≡ length old)
    (gone : (j : ℕ) (a b : Caller R) → get_elem? old j ≡ some a → get_elem? cur j ≡ some b → a.number < n
    → IsCallerOf m b × (record_of b ≡ reopened_record m.shape (record_of a)))
    (stays : (j : ℕ) (a b : Caller R) → get_elem? old j ≡ some a → get_elem? cur j ≡ some b
    → n ≤ a.number → b ≡ a) where
  -- the caller of the next number is as it was
  mine : (i : ℕ) (x : Caller R) → get_elem? cur i ≡ some x → x.number ≡ n
      → (a : Caller R) × (get_elem? old i ≡ some a) × (x ≡ a)
  mine i x at is =
      let low = within cur i x at in let a = entry old i (omega arith) in dite (dec_lt a.0.number n)
      (λ (lt : a.0.number < n).
      let e = ap (λ (z : Record R). z.number) (gone i a.0 x a.1 at lt).1 in absurd (omega arith))
      (λ (ge : ¬ (a.0.number < n)). (a.0, a.1, stays i a.0 x a.1 at (omega arith)))

  -- it is still there
  still : Has (numbers_of old) n → Has (numbers_of cur) n
  still t =
      let a = entry_of_map (λ (z : Caller R). z.number) old t.0 n t.1 in let low = within old t.0 a.0 a.1 in
      let b = entry cur t.0 (omega arith) in let same = stays t.0 a.0 b.0 a.1 b.1 (let e = a.2 in omega arith) in
      (t.0, at_map (λ (z : Caller R). z.number) cur t.0 b.0 b.1 ∙ ap some (ap (λ (z : Caller R). z.number) same ∙ a.2))

  module _ (once : HaveOwnNumbers old)
      (i : ℕ) (x x' : Caller R) (at : get_elem? cur i ≡ some x) (is : x.number ≡ n)
      (new : IsCallerOf m x' × (record_of x' ≡ reopened_record m.shape (record_of x))) where
    -- one caller more goes on
    gone_more : (j : ℕ) (a b : Caller R) → get_elem? old j ≡ some a
        → get_elem? (set cur i x') j ≡ some b → a.number < n + 1
        → IsCallerOf m b × (record_of b ≡ reopened_record m.shape (record_of a))
    gone_more j a b e f l = let w = mine i x at is in
        grind (arith, at_set cur i j x' b f, gone j a b e, once j i a w.0 e w.1)

    -- the others stay
    stays_more : (j : ℕ) (a b : Caller R) → get_elem? old j ≡ some a → get_elem? (set cur i x') j ≡ some b
        → n + 1 ≤ a.number → b ≡ a
    stays_more j a b e f l = let w = mine i x at is in grind (arith, at_set cur i j x' b f, stays j a b e)

pub unreachable-requires : goal.unreachable-requires
unreachable-requires g c =
    let inv = c.loop-number.invariant in let n : ℕ = c.loop-number.number in
    c.requires.every n c.loop-number-test.true (λ t. c.in_default.ensures.none
    (subst (λ (z : List (Caller g.row.R.Denot)). Has (numbers_of z) n) (sym c.as_slice.ensures.value)
    (still c.args.tags.now c.args.callers.now.items c.loop-number.callers.items n inv.long inv.gone inv.stays t)))

-- the caller that was found
found : {R : Type 0} (cur seen : List (Caller R)) (i n : ℕ) → seen ≡ cur → get_elem? (numbers_of seen) i ≡ some n
    → (x : Caller R) × (get_elem? cur i ≡ some x) × (x.number ≡ n)
found {R} cur seen i n same at = entry_of_map (λ (z : Caller R). z.number) cur i n
    (ap (λ (z : List (Caller R)). get_elem? (numbers_of z) i) (sym same) ∙ at)

pub index_mut-requires : goal.index_mut-requires
index_mut-requires g c =
    let cur : List (Caller g.row.R.Denot) = c.loop-number.callers.items in
    let x = found cur c.as_slice.result.now c.in-Some.i c.loop-number.number c.as_slice.ensures.value
    c.in-Some.ensures.some in
    let low = within cur c.in-Some.i x.0 x.1 in search rules

-- the caller that is lent is the one found
lent : {g : given.Over} (c : After-index_mut g)
    → (get_elem? c.loop-number.callers.items c.in-Some.i ≡ some c.index_mut.result.now)
    × (c.index_mut.result.now.number ≡ c.loop-number.number)
lent {g} c =
    let R = g.row.R.Denot in let lent : Caller R = c.index_mut.result.now in
    let cur : List (Caller R) = c.loop-number.callers.items in
    let x = found cur c.as_slice.result.now c.in-Some.i c.loop-number.number c.as_slice.ensures.value
    c.in-Some.ensures.some in
    let here = at_index cur c.in-Some.i lent (within cur c.in-Some.i x.0 x.1) c.index_mut.ensures.value in
    (here, ap (λ (z : Caller R). z.number) (some-injective lent x.0 (sym here ∙ x.1)) ∙ x.2)

-- it is as it was
as_it_was : {g : given.Over} (c : After-index_mut g)
    → (a : Caller g.row.R.Denot) × (get_elem? c.args.callers.now.items c.in-Some.i ≡ some a)
    × (c.index_mut.result.now ≡ a)
as_it_was {g} c =
    let inv = c.loop-number.invariant in
    mine c.args.tags.now c.args.callers.now.items c.loop-number.callers.items c.loop-number.number
    inv.long inv.gone inv.stays
    c.in-Some.i c.index_mut.result.now (lent c).0 (lent c).1

pub reseat-requires-clause-number : goal.reseat-requires-clause-number
reseat-requires-clause-number g c = let is = (lent c).1 in let low = c.loop-number-test.true in omega arith

pub reseat-requires-clause-rest : goal.reseat-requires-clause-rest
reseat-requires-clause-rest g c =
    let k = c.args.tags.now.shape in c.loop-number.invariant.rest
    ∙ ap (λ (z : ℕ). (viewing (fresh {R = g.row.R.Denot} k z (k.callers - z)), [])) (sym (lent c).1)

pub reseat-requires-clause-counts : goal.reseat-requires-clause-counts
reseat-requires-clause-counts g c =
    let R = g.row.R.Denot in let k = c.args.tags.now.shape in let a = as_it_was c in
    subst (λ (z : Caller R). (get_or k.won_before.value z.number 0 ≡ z.won)
    × (get_or k.back_before.value z.number 0 ≡ z.back))
    (sym a.2) (c.requires.counts.won c.in-Some.i a.0 a.1, c.requires.counts.back c.in-Some.i a.0 a.1)

pub reseat-requires-clause-life : goal.reseat-requires-clause-life
reseat-requires-clause-life g c =
    let a = as_it_was c in ap (λ (z : Caller g.row.R.Denot). z.life) a.2 ∙ c.requires.life c.in-Some.i a.0 a.1

pub reseat-requires-clause-held : goal.reseat-requires-clause-held
reseat-requires-clause-held g c =
    let l = c.args.tags.now.shape.layout in
    all_last (λ (z : Vec ℕ Global). z.items ≡ replicate (words l) 0) c.pop.new.self.items c.in-Some-pop.held
    (subst (All (λ (z : Vec ℕ Global). z.items ≡ replicate (words l) 0)) c.in-Some-pop.ensures.items
    c.loop-number.invariant.blank)

pub loop-number-preserved : goal.loop-number-preserved
loop-number-preserved g c =
    let R = g.row.R.Denot in let m = c.args.tags.now in let k = m.shape in let inv = c.loop-number.invariant in
    let n : ℕ = c.loop-number.number in let cur : List (Caller R) = c.loop-number.callers.items in
    let x : Caller R = c.index_mut.result.now in let x' : Caller R = c.reseat.new.caller in
    let is = lent c.before.before in
    let took = c.in-Some-pop.ensures.items in record {
      seat = c.reseat.ensures.rest.0 ∙ inv.seat;
      rest = c.reseat.ensures.rest.1
          ∙ ap (λ (z : ℕ). (viewing (fresh {R = R} k (z + 1) (k.callers - (z + 1))), [])) is.1;
      left = (let less = ap length took ∙ length-append c.pop.new.self.items (c.in-Some-pop.held ∷ []) in
          let all = inv.left in omega arith);
      blank = all_front (λ (z : Vec ℕ Global). z.items ≡ replicate (words k.layout) 0)
          c.pop.new.self.items c.in-Some-pop.held
          (subst (All (λ (z : Vec ℕ Global). z.items ≡ replicate (words k.layout) 0)) took inv.blank);
      long = length-set cur c.in-Some.i x' ∙ inv.long;
      gone = gone_more m c.args.callers.now.items cur n inv.long inv.gone inv.stays c.requires.once
          c.in-Some.i x x' is.0 is.1
          c.reseat.ensures.caller;
      stays = stays_more m c.args.callers.now.items cur n inv.long inv.gone inv.stays c.requires.once
          c.in-Some.i x x' is.0 is.1
          c.reseat.ensures.caller;
    }
