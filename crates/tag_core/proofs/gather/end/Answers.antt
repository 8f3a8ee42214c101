-- The closed table hands out its words together with the rule, so the history that shows them is at hand. The sums over
-- the records are those of that history, and the states that are not 0 are its posted tags.
use Rattle.tag_core.proofs.Uses.{ap, arith, Final, get_elem?, List, posted_by_word, refl, Seen, Shape, Shown, slice_index, SlotIs, slots_items, some-injective, subst, sum_below, sym, ℕ, ◌∙◌}
use Rattle.tag_core.specs.Spacing.{state_at}
use Rattle.tag_core.proofs.Ends.{won_all, back_all, held_all, posted_all, even_all}
use Rattle.tag_core.proofs.Chains.{count_chain}
use Rattle.tag_core.proofs.gather.end.Goals as goal

pub returns : goal.returns
returns g c =
    let a = c.args.all in let m = c.args.map in let k = m.shape in let ended = c.close_with-ended.result in
    let R = g.row.R.Denot in
    let last = subst (λ (z : Shape). Final (Seen (Shown z) a.seat.id a.seat.me.0) (slots_items ended.words)
    (slots_items ended.slots)) m.told c.close_with-ended.ensures.values.2 in
    let s = last.0 in let sh = last.1.0 in let at = last.1.1 in let v = a.seat.me.0 in
    let got = a.sums.0 ∙ won_all k s sh a.seat.id v at c.requires.all in
    let back = a.sums.1 ∙ back_all k s sh a.seat.id v at c.requires.all in
    let held = a.sums.2 ∙ held_all k s sh a.seat.id v at c.requires.all in
    let posted = c.count_posted-posted.ensures.value
    ∙ ap (λ (z : List ℕ). sum_below (λ t. posted_by_word (slice_index z (state_at k.layout t))) k.layout.depth)
    (sym last.2)
    ∙ posted_all k s sh a.seat.id v at in
    let even = even_all k s sh a.seat.id v at in record {
      history = sh.history;
      lawful = sh.lawful;
      own = λ i r e. (sh.records a.seat.id v at i r e).0.steps;
      layout = refl;
      got = a.sums.0;
      back = a.sums.1;
      held = a.sums.2;
      totals = record { got = got; back = back; held = held; posted = posted };
      chain = count_chain k sh.history
          (record { got = a.won; back = a.back; held = a.held; posted = c.count_posted-posted.result }) m.chain
          sh.lawful
          (record { got = got; back = back; held = held; posted = posted });
      balance = omega arith;
      slots = c.take_out-slots.ensures.len ∙ c.close_with-ended.ensures.counts.1 ∙ m.wide.1;
      posts = λ t l e. let slot = subst (SlotIs (get_elem? s.homes t)) e (sh.slots t l) in
          ap (λ (z : List R). get_elem? z t) c.take_out-slots.ensures.items ∙ last.4 t slot.0 slot.1
          ∙ some-injective _ _ (sym slot.1 ∙ sh.posts t l e);
    }
