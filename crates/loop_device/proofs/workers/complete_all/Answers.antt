-- Each turn pops one more number and serves it, or finds none.
use Rattle.loop_device.proofs.Uses.{begins, Faults, rules, ServesPopped, subst, sym, view}
use Rattle.loop_device.proofs.Served.{ended, none_popped, still, serves_more}
use Rattle.loop_device.proofs.workers.complete_all.Goals as goal

pub loop-init : goal.loop-init
loop-init g c =
    let tags = c.args.device.now.tags in let ios = c.args.log.now.ios.items in
    let first = begins c.args.hand (view c.args.pass) in record {
      turns = search rules;
      hand = c.requires.hand;
      pass = c.requires.pass;
      served = subst (λ (faults : Faults). ServesPopped tags ios first (record first { faults = faults }))
          (sym c.none-faults.ensures) (none_popped tags ios first);
    }

pub loop-preserved-in-Tag : goal.loop-preserved-in-Tag
loop-preserved-in-Tag g c =
    let tags = c.args.device.now.tags in let ios = c.args.log.now.ios.items in
    let hand = c.loop.hand in let last = c.complete-done.new.hand in let done = c.complete-done.result in record {
      turns = search rules;
      hand = c.complete-done.ensures.hand;
      pass = c.pop.ensures.pass;
      served = serves_more tags ios (begins c.args.hand (view c.args.pass)) hand last (view c.loop.pass)
          (view c.pop.new.pass) c.loop.faults c.note.new.self c.in-Tag.tag done c.in-Tag.ensures.tells.1
          (ended tags ios c.in-Tag.tag hand last done c.complete-done.ensures.ok c.complete-done.ensures.fault)
          c.note.ensures c.loop.invariant.served;
    }

pub returns-in-Last-clause-served : goal.returns-in-Last-clause-served
returns-in-Last-clause-served g c =
    still c.args.device.now.tags c.args.log.now.ios.items (begins c.args.hand (view c.args.pass)) c.loop.hand
    (view c.loop.pass) (view c.pop.new.pass) c.loop.faults c.in-Last.ensures.tells.2 c.loop.invariant.served
