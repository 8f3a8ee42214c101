-- A write or a trim leaves its stamp, a read finds the greatest, and the others change nothing.
use Rattle.loop_device.proofs.Uses.{AnswersAs, false, IoKind, leaves_stamp, subst, sym, true, ◌∙◌}
use Rattle.std.proofs.Common.{◌≡◌}
use Rattle.loop_device.proofs.Keeping.{stamped_kept, unstamped_kept, answers_line, answers_0, reads_greatest}
use Rattle.loop_device.proofs.store.answer.Goals as goal

pub returns-then-leaves_stamp-clause-ok : goal.returns-then-leaves_stamp-clause-ok
returns-then-leaves_stamp-clause-ok c =
    let leaves : leaves_stamp c.args.io.now.kind ≡ true = sym c.leaves_stamp.ensures ∙ c.if-leaves_stamp.true in
    record {
      sound = c.in_ok-leave_stamp.ensures.sound;
      stamps_are = stamped_kept c.args.stamps.now c.leave_stamp.new.stamps c.args.io.now
          c.in_ok-leave_stamp.ensures.small leaves c.in_ok-leave_stamp.ensures.ok;
      answers = λ history are. answers_line c.args.io.now.kind history c.args.io.now leaves;
    }

pub returns-in-Read-clause-ok : goal.returns-in-Read-clause-ok
returns-in-Read-clause-ok c =
    let plain : leaves_stamp c.args.io.now.kind ≡ false = sym c.leaves_stamp.ensures ∙ c.if-leaves_stamp.false in
    record {
      sound = c.requires;
      stamps_are = unstamped_kept c.args.stamps.now c.args.io.now c.greatest.result plain;
      answers = λ history are. subst (λ (kind : IoKind). AnswersAs kind history c.args.io.now c.greatest.result) (sym
          c.in-Read.is)
          (reads_greatest c.args.stamps.now c.args.io.now c.span-first.ensures.small c.greatest.result
          (rw (c.span-first.ensures.first, c.span-first.ensures.end) at c.greatest.ensures) history are);
    }

pub returns-in_default : goal.returns-in_default
returns-in_default c =
    let plain : leaves_stamp c.args.io.now.kind ≡ false = sym c.leaves_stamp.ensures ∙ c.if-leaves_stamp.false in
    record {
      ok = record {
        sound = c.requires;
        stamps_are = unstamped_kept c.args.stamps.now c.args.io.now 0 plain;
        answers = λ history are. answers_0 c.args.io.now.kind history c.args.io.now plain c.in_default.not-Read;
      };
      err = tt;
    }
