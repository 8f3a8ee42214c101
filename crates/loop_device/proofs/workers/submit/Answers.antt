-- The line was passed on, or its submitter took the tag back and ended the request as a completer does.
use Rattle.loop_device.proofs.Uses.{inl, inr, PostsLine, refl, ruled_capacity, subst, sym, view, WasFull, ℕ}
use Rattle.loop_device.proofs.Completing.{completed, told, told_back}
use Rattle.loop_device.proofs.Served.{ended}
use Rattle.loop_device.proofs.workers.submit.Goals as goal

pub returns-in_default-push-clause-submits : goal.returns-in_default-push-clause-submits
returns-in_default-push-clause-submits g c = inl record {
  tag = c.in-Ok.tag;
  posts = c.in-Ok.ensures.posts;
  pushes = c.in_default-push.ensures.pushed;
  is_done = refl;
}

pub returns-in_default-taken-clause-submits : goal.returns-in_default-taken-clause-submits
returns-in_default-taken-clause-submits g c =
    let tags = c.args.device.now.tags in let posted = c.post_line.new.hand in inr (inl record {
      tag = c.in-Err.tag;
      posted = posted;
      posts = subst (λ (tag : ℕ). PostsLine tags c.args.line tag c.args.hand.now posted) (sym c.in-Err.ensures.back)
          c.in-Ok.ensures.posts;
      full = subst (λ (total : ℕ). WasFull total (ruled_capacity c.args.device.now.queue) (view c.args.pass.now))
          (sym c.requires.total) c.in-Err.ensures.full;
      ends = told_back tags c.in-Err.tag posted c.take-taken.new.hand c.args.log.now.ios.items c.take-taken.result
          c.in_default-taken.field-0 c.in_default-taken.is c.take-taken.ensures.does.no_such_tag
          c.in_default-taken.ensures.does.refuses c.in_default-taken.ensures.unchanged c.take-taken.ensures.counts;
      same = c.in-Err.ensures.err;
    })

pub finish-requires-clause-held : goal.finish-requires-clause-held
finish-requires-clause-held g c κs within = c.in-Ok-taken.ensures.does.takes.more.joined c.in-Err.tag refl

pub returns-clause-submits : goal.returns-clause-submits
returns-clause-submits g c =
    let tags = c.args.device.now.tags in let ios = c.args.log.now.ios.items in let tag = c.in-Err.tag in
    let posted = c.post_line.new.hand in let taken = c.take-taken.new.hand in let last = c.finish.new.hand in
    let takes = c.in-Ok-taken.ensures.does.takes in let counts = c.take-taken.ensures.counts in
    let done = c.finish.result in inr (inl record {
      tag = tag;
      posted = posted;
      posts = subst (λ (tag : ℕ). PostsLine tags c.args.line tag c.args.hand.now posted) (sym c.in-Err.ensures.back)
          c.in-Ok.ensures.posts;
      full = subst (λ (total : ℕ). WasFull total (ruled_capacity c.args.device.now.queue) (view c.args.pass.now))
          (sym c.requires.total) c.in-Err.ensures.full;
      ends = ended tags ios tag posted last done
          (completed tags tag posted taken last takes counts done c.finish.ensures.ok)
          (told tags tag posted taken last takes counts ios done c.finish.ensures.fault);
      same = c.in-Err.ensures.err;
    })

-- no tag was got, so nothing changed
pub returns-in_default-clause-submits : goal.returns-in_default-clause-submits
returns-in_default-clause-submits g c = let refused = c.in_default.ensures.refusals in inr (inr record {
  fault = c.in_default.field-0;
  refused = refused.first;
  same = refl;
  same_hand = refused.same;
  is_lost = refl;
})
