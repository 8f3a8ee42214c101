-- Each turn submits one more line of the share, or passes over another's.
use Rattle.loop_device.proofs.Uses.{begins, ruled_capacity, view}
use Rattle.loop_device.proofs.Served.{state}
use Rattle.loop_device.proofs.Submitted.{passed_over, submits_more}
use Rattle.loop_device.proofs.workers.submit_all.Goals as goal

pub loop-index-preserved-then-index-submitters : goal.loop-index-preserved-then-index-submitters
loop-index-preserved-then-index-submitters g c =
    let was = c.loop-index.invariant in record {
      hand = was.hand;
      pass = was.pass;
      submitter = was.submitter;
      submitted = passed_over c.args.device.now.tags (ruled_capacity c.args.device.now.queue)
          c.deref-io-items.result.now c.args.log.now.ios.items c.deref-io-items.ensures.value c.args.number
          c.args.submitters c.loop-index.index c.loop-index-test.true
          (begins c.args.hand (view c.args.pass))
          (state c.loop-index.hand (view c.loop-index.pass) c.loop-index.faults) was.submitted
          c.if-index-submitters.true;
    }

pub loop-index-preserved : goal.loop-index-preserved
loop-index-preserved g c =
    let was = c.loop-index.invariant in let ensures = c.submit-done.ensures in record {
      hand = ensures.hand;
      pass = ensures.pass;
      submitter = ensures.submitter;
      submitted = submits_more c.args.device.now.tags (ruled_capacity c.args.device.now.queue)
          c.deref-io-items.result.now c.args.log.now.ios.items c.deref-io-items.ensures.value c.args.number
          c.args.submitters c.loop-index.index c.loop-index-test.true
          (begins c.args.hand (view c.args.pass))
          (state c.loop-index.hand (view c.loop-index.pass) c.loop-index.faults) was.submitted _
          c.if-index-submitters.false
          (state c.submit-done.new.hand (view c.submit-done.new.pass) c.note.new.self)
          record { done = c.submit-done.result; way = ensures.submits; notes = c.note.ensures };
    }
