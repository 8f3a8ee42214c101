-- The hand could wait, and made the round; or something came before that, and its wait has ended.
use Rattle.tag_c.proofs.Uses.{None, Option, refl, Some, subst}
use Rattle.tag_pool.specs.declared.gets.rounds.Next.{Next}
use Rattle.tag_c.specs.Rounds.{BeginsOver}
use Rattle.tag_c.proofs.Going.{ends_unchanged, gains_at_once_over, gains_by_over, not_over}
use Rattle.tag_c.proofs.rounds.caching.make_round_over.Goals as goal

pub returns-in-Ok-None-clause-makes : goal.returns-in-Ok-None-clause-makes
returns-in-Ok-None-clause-makes c = let pool = c.args.pool.now in let over = c.args.is_over in
    let old = c.args.cache.now in let ready = c.begin_over.new.cache in let round = c.wait_on-next in
    let begins = subst (λ (e : Option Next). BeginsOver pool c.args.kind over e old ready) c.in-Ok-None.field-0-is
    c.in-Ok-None.ensures.begins in let ne = not_over round.result.0 round.ensures.over in record {
      end = None;
      ready = ready;
      begins = begins;
      goes = (ne, round.ensures.goes);
      more = gains_by_over pool c.args.kind c.args.waiter c.args.turn over round.result.1 old ready round.new.self
          round.result.0 begins ne round.ensures.goes;
    }

pub returns-in-Ok-Some-clause-makes : goal.returns-in-Ok-Some-clause-makes
returns-in-Ok-Some-clause-makes c = let pool = c.args.pool.now in let over = c.args.is_over in
    let old = c.args.cache.now in let ready = c.begin_over.new.cache in let ends = c.end_wait in
    let end = c.in-Ok-Some.end in
    let begins = subst (λ (e : Option Next). BeginsOver pool c.args.kind over e old ready) c.in-Ok-Some.field-0-is
    c.in-Ok-Some.ensures.begins in record {
      end = Some end;
      ready = ready;
      begins = begins;
      goes = (refl, ends.ensures.ends);
      more = gains_at_once_over pool c.args.kind c.args.waiter c.args.turn over ends.result old ready ends.new.self end
          begins ends.ensures.ends;
    }

pub returns-in-Err-clause-refusals : goal.returns-in-Err-clause-refusals
returns-in-Err-clause-refusals c = let refuses = c.in-Err.ensures.refusals in let ends = c.end_wait-in-Err in record {
  first = refuses.first;
  passes = tt;
  same = ends_unchanged c.args.pool.now c.args.kind c.args.waiter c.args.turn c.args.is_over ends.result
      c.args.cache.now c.begin_over.new.cache ends.new.self refuses.same ends.ensures.ends;
}
