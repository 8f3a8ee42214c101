-- Each turn gathers the last shell of those left.
use Rattle.std.specs.Prelude.{◌∷◌}
use Rattle.tag_queue.proofs.Uses.{[], ap, List, sym, ◌∙◌}
use Rattle.step_ledger.specs.declared.record.Record.{Record}
use Rattle.wake_book.specs.Book as book
use Rattle.wake_book.specs.Groups as groups
use Rattle.wake_book.specs.declared.steps.BookStep.{BookStep}
use Rattle.wake_book.specs.declared.steps.GroupStep.{GroupStep}
use Rattle.tag_queue.specs.declared.room.Shell.{Shell}
use Rattle.tag_queue.proofs.Shells.{came_first, first_part, next_part}
use Rattle.tag_queue.proofs.gather.gather_shells.Goals as goal

pub start_gathering-tellers-requires : goal.start_gathering-tellers-requires
start_gathering-tellers-requires g c = first_part (λ (s : Shell g.row.R.Denot). s.teller)
    (book.IsTellerOf c.args.book.now) c.args.shells.items _ c.in-Some.field-0 c.requires.tellers c.in-Some.ensures.items

pub start_gathering-waiters-requires : goal.start_gathering-waiters-requires
start_gathering-waiters-requires g c = first_part (λ (s : Shell g.row.R.Denot). s.waiter)
    (groups.IsWaiterOf c.args.groups.now) c.args.shells.items _ c.in-Some.field-0 c.requires.waiters
    c.in-Some.ensures.items

pub add-requires-clause-own : goal.add-requires-clause-own
add-requires-clause-own g c = next_part (λ (s : Shell g.row.R.Denot). s.teller) (book.IsTellerOf c.args.book.now)
    _ _ _ c.args.shells.items c.in-Some-pop.field-0 c.requires.tellers c.loop-teller.invariant.done.1
    c.in-Some-pop.ensures.items

pub add-requires-in-Some-pop-clause-own : goal.add-requires-in-Some-pop-clause-own
add-requires-in-Some-pop-clause-own g c = next_part (λ (s : Shell g.row.R.Denot). s.waiter)
    (groups.IsWaiterOf c.args.groups.now) _ _ _ c.args.shells.items c.in-Some-pop.field-0 c.requires.waiters c.loop-teller.invariant.done.1
    c.in-Some-pop.ensures.items

pub loop-teller-init : goal.loop-teller-init
loop-teller-init g c = record {
  done = (
    c.in-Some.field-0 ∷ [],
    sym c.in-Some.ensures.items,
    (c.start_gathering-tellers.ensures.book, c.start_gathering-tellers.ensures.gathered),
    (c.start_gathering-waiters.ensures.groups, c.start_gathering-waiters.ensures.gathered),
  );
}

pub loop-teller-preserved : goal.loop-teller-preserved
loop-teller-preserved g c = let done = c.loop-teller.invariant.done in let shell = c.in-Some-pop.field-0 in record {
  done = (
    shell ∷ done.0,
    came_first _ _ done.0 c.args.shells.items shell done.1 c.in-Some-pop.ensures.items,
    (
      c.add.ensures.book,
      c.add.ensures.gathered ∙ ap (λ (rs : List (Record BookStep)). book.record_of shell.teller ∷ rs) done.2.1,
    ),
    (
      c.add-in-Some-pop.ensures.groups,
      c.add-in-Some-pop.ensures.gathered
          ∙ ap (λ (rs : List (Record GroupStep)). groups.record_of shell.waiter ∷ rs) done.3.1,
    ),
  );
}
