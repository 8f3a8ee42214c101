-- Each item is found among the lines, and counted there.
use Rattle.loop_device.proofs.Uses.{All-more, AreOfLog, arith, common_steps, Contains, Done, rules, set, subst, sym, take, take_all}
use Rattle.std.proofs.Common.{◌≡◌, ◌+◌}
use Rattle.loop_device.proofs.Counting.{counted, none_yet, counts_few, count_at, read_count, tallied}
use Rattle.loop_device.proofs.judging.tally.Goals as goal

pub loop-item-init : goal.loop-item-init
loop-item-init c = record { known = λ k d lt. absurd (omega arith); counts = none_yet c.args.ios.now _ (search rules) }

pub index_mut-requires : goal.index_mut-requires
index_mut-requires c =
    let size = count_at c.args.ios.now (take c.loop-item.item-index c.args.done.now) c.loop-item.counts.items
    c.loop-item.invariant.counts in
    grind (arith, common_steps, size, c.in-Some.ensures.found.0)

pub overflow_add-index_mut : goal.overflow_add-index_mut
overflow_add-index_mut c =
    let few = counts_few c.args.ios.now c.args.done.now c.loop-item.item-index c.loop-item.counts.items
    c.loop-item.invariant.counts c.in-Some.index
    c.in-Some.ensures.found.0 c.loop-item.auto.item-index-end c.index_mut.result.now c.index_mut.ensures.value in
    first_of (search (rules, few), grind (arith, common_steps, few, c.loop-item-test.true))

pub loop-item-preserved : goal.loop-item-preserved
loop-item-preserved c = record {
  known = All-more (λ (d : Done). Contains c.args.ios.now d.io) c.args.done.now c.loop-item.item-index _
      c.loop-item-test.true c.loop-item.invariant.known
      (c.in-Some.index, c.in-Some.ensures.found.0, c.in-Some.ensures.found.1 _);
  counts =
      let value = read_count c.args.ios.now (take c.loop-item.item-index c.args.done.now) c.loop-item.counts.items
      c.loop-item.invariant.counts c.in-Some.index
      c.in-Some.ensures.found.0 c.index_mut.result.now c.index_mut.ensures.value in
      subst (λ v. set c.loop-item.counts.items c.in-Some.index (v + 1) ≡ tallied c.args.ios.now (take
      (c.loop-item.item-index + 1) c.args.done.now)) (sym value)
      (counted c.args.done.now c.loop-item.item-index _ c.loop-item-test.true c.args.ios.now c.requires
      c.in-Some.index c.in-Some.ensures.found.0
      c.in-Some.ensures.found.1 c.loop-item.counts.items c.loop-item.invariant.counts);
}

pub returns-clause-known : goal.returns-clause-known
returns-clause-known c =
    subst (λ done. AreOfLog c.args.ios.now done) (take_all c.loop-item.item-index c.args.done.now
    c.loop-item-test.false) c.loop-item.invariant.known
