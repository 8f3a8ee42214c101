-- The caller's record comes before those on the seat, which then has at most as many as the map has callers; what the
-- caller won, gave back and holds is added to the sums.
use Rattle.std.specs.Prelude.{◌++◌, ◌+◌, ◌∷◌, ◌≡◌, ◌≤◌}
use Rattle.tag_core.proofs.Uses.{[], ap, arith, both_views, gathered, length, List, Me, Record, record_of, Shape, size_of, subst, suc, sym, total_of, View, viewing, ℕ, ◌∙◌}
use Rattle.atomic_table.specs.declared.shared.Seat.{Seat}
use Rattle.tag_core.proofs.Countings.{count_allowed}
use Rattle.tag_core.proofs.SeatMoves.{some_words, joins_in}
use Rattle.tag_core.proofs.together.Gathering.lend.Goals as goal

pub join_seat-requires : goal.join_seat-requires
join_seat-requires g c =
    let R = g.row.R.Denot in let m = c.args.map.now in let v = c.swap.new.x in let w = c.swap.new.y in
    let s = c.swap.ensures in (
      ap (λ (z : Seat R (View R)). z.table_id) s.x_after ∙ c.start_lending-first.ensures.map,
      ap (λ (z : Seat R (View R)). z.table_id) s.y_after ∙ c.requires.map,
      ap (λ (z : Seat R (View R)). z.me.1) s.y_after ∙ c.args.self.now.empty,
      some_words m,
      joins_in m v.id v.me.0 w.id w.me.0,
    )

pub load-requires : goal.load-requires
load-requires g c =
    let R = g.row.R.Denot in let m = c.args.map.now in let seat = c.join_seat.new.seat in (
      c.join_seat.ensures.0 ∙ ap (λ (z : Seat R (View R)). z.table_id) c.swap.ensures.x_after
          ∙ c.start_lending-first.ensures.map,
      some_words m,
      count_allowed R m.table.shared.key m.table.shared.table_id.slots seat.id seat.me,
    )

-- the records once the seats are joined
came : {R : Type 0} (r : Record R) (x y one old : Seat R (View R)) (now : Me R (View R))
    → now.0 ≡ both_views x.me.0 y.me.0
    → x ≡ one → y ≡ old → one.me.0.records.value ≡ r ∷ [] → now.0.records.value ≡ r ∷ old.me.0.records.value
came {R} r x y one old now joined first rest alone =
    let of : Seat R (View R) → List (Record R) = λ z. z.me.0.records.value in
    ap (λ (z : View R). z.records.value) joined ∙ (λ j. (ap of first ∙ alone) j ++ ap of rest j)

pub invariant_of-self : goal.invariant_of-self
invariant_of-self g c =
    let R = g.row.R.Denot in let m = c.args.map.now in let old = c.args.self.now in
    let one = c.start_lending-first.result.0 in
    let r : Record R = record_of c.args.caller in let alone = c.start_lending-first.ensures.gathered in
    let now = c.load.ensures.2.0 ∙ c.join_seat.ensures.2 in
    let records = came r c.swap.new.x c.swap.new.y one.seat old.seat c.load.new.seat.me (ap (λ z. z.0) now)
    c.swap.ensures.x_after c.swap.ensures.y_after alone in
    let joined = came r c.swap.new.x c.swap.new.y one.seat old.seat c.join_seat.new.seat.me
    (ap (λ z. z.0) c.join_seat.ensures.2)
    c.swap.ensures.x_after c.swap.ensures.y_after alone in
    let few : suc (length (gathered old)) ≤ r.shape.callers = c.load.ensures.2.1 r (gathered old) (ap viewing joined) in
    let own : r.shape.callers ≤ 64 = subst (λ (z : Shape). z.callers ≤ 64) (sym c.requires.caller.1) m.few.1 in
    let long : length c.load.new.seat.me.0.records.value ≡ suc (length (gathered old)) =
    ap (λ (z : List (Record R)). length z) records in
    let alone_long : length (gathered one) ≡ 1 = ap (λ (z : List (Record R)). length z) alone in
    let total : (f : Record R → ℕ)
    → total_of f c.load.new.seat.me.0.records.value ≡ total_of f (gathered old) + total_of f (gathered one) =
    (λ f. let a = ap (λ (z : List (Record R)). total_of f z) records in
    let b = ap (λ (z : List (Record R)). total_of f z) alone in
    omega arith) in
    let sums = old.sums in let own_sums = one.sums in let small = old.small in let own_small = one.small in record {
      empty = ap (λ z. z.1) now ∙ ap (λ (z : Seat R (View R)). z.me.1) c.swap.ensures.x_after ∙ one.empty;
      sums = (
        (λ j. sums.0 j + own_sums.0 j) ∙ sym (total (λ (r : Record R). r.won)),
        (λ j. sums.1 j + own_sums.1 j) ∙ sym (total (λ (r : Record R). r.back)),
        (λ j. sums.2 j + own_sums.2 j) ∙ sym (total (λ (r : Record R). size_of r.held)),
      );
      few = omega arith;
      small = (omega arith, omega arith, omega arith);
    }
