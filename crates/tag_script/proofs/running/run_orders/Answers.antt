-- Each order is carried out in the world that the earlier ones left, and its lines follow theirs.
use Rattle.tag_script.proofs.Uses.{[], ap, arith, get_or, length, line_of, List, ObeysAll, Order, over, rules, subst, sym, take, take_all, take_more, total_line, ℕ, ◌∙◌}
use Rattle.std.proofs.Common.{◌≡◌, ◌<◌, ◌≤◌, ◌+◌, ◌∷◌, ◌++◌}
use Rattle.tag_script.proofs.RunFacts.{obeys_more, text_more}
use Rattle.tag_script.proofs.running.run_orders.Goals as goal

pub loop-order-init : goal.loop-order-init
loop-order-init g c = record {
  run = record { said = []; text_is = c.new-text.ensures.items; obeys = over };
  ready = λ n few. g.met.W.World.ready_fewer c.args.world n (length c.args.orders.now) (omega (arith, few))
      c.requires.ready;
  known = c.requires.known;
}

pub loop-order-preserved : goal.loop-order-preserved
loop-order-preserved g c =
    let so_far = c.loop-order.invariant.run in let i = c.loop-order.order-index in
    let orders : List Order = c.args.orders.now in
    let there : i < length orders = search rules in
    let order : Order = c.order-item.result in let answer = c.in_ok-answer.answer in let next = c.in_ok-answer.next in
    let e : take (i + 1) orders ≡ take i orders ++ order ∷ [] =
    take_more orders i order there ∙ ap (λ (o : Order). take i orders ++ o ∷ []) (sym c.order-item.is) in
    record {
      run = record {
        said = so_far.said ++ answer ∷ [];
        text_is = c.in-Ok.ensures.ok ∙ ap (λ (t : List ℕ). t ++ line_of answer) so_far.text_is
            ∙ sym (text_more so_far.said answer);
        obeys = subst (λ (os : List Order). ObeysAll g.W.World.answers c.args.world os (so_far.said ++ answer ∷ []) next)
            (sym e)
            (obeys_more g.W.World.answers order answer so_far.obeys c.in_ok-answer.ensures.answers);
      };
      ready = λ n few. c.in_ok-answer.ensures.ready n (c.loop-order.invariant.ready (n + 1) (omega (arith, few)));
      known = λ j d less. c.in_ok-answer.ensures.known (get_or orders j d) (c.loop-order.invariant.known j d less);
    }

pub returns : goal.returns
returns g c =
    let so_far = c.loop-order.invariant.run in let orders : List Order = c.args.orders.now in
    let stop : length orders ≤ c.loop-order.order-index = search rules in
    record {
      said = so_far.said;
      last = c.loop-order.world;
      totals = c.totals-2.result;
      obeys = subst (λ (os : List Order). ObeysAll g.W.World.answers c.args.world os so_far.said c.loop-order.world)
          (take_all c.loop-order.order-index orders stop) so_far.obeys;
      counted = c.totals-2.ensures.counts;
      text_is = c.in_ok-push_total.ensures.ok ∙ ap (λ (t : List ℕ). t ++ total_line c.totals-2.result) so_far.text_is;
    }
