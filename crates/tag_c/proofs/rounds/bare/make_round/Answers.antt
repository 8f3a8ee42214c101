-- The hand could wait, and made the round; or something came before that, and its wait has ended.
use Rattle.tag_c.proofs.Uses.{None, Option, refl, Some, subst}
use Rattle.tag_pool.specs.declared.gets.rounds.Next.{Next}
use Rattle.tag_c.specs.Rounds.{Begins}
use Rattle.tag_c.proofs.Going.{gains_at_once, gains_by, not_over}
use Rattle.tag_c.proofs.rounds.bare.make_round.Goals as goal

pub returns-in-Ok-None-clause-makes : goal.returns-in-Ok-None-clause-makes
returns-in-Ok-None-clause-makes c = let pool = c.args.pool.now in let over = c.args.is_over in
    let old = c.args.hand.now in let ready = c.begin.new.hand in let round = c.wait_on-next in
    let begins = subst (λ (e : Option Next). Begins pool c.args.kind over e old ready) c.in-Ok-None.field-0-is
    c.in-Ok-None.ensures.begins in let ne = not_over round.result.0 round.ensures.over in record {
      end = None;
      ready = ready;
      begins = begins;
      goes = (ne, round.ensures.goes);
      more = gains_by pool c.args.kind c.args.waiter c.args.turn over round.result.1 old ready round.new.hand
          round.result.0 begins ne round.ensures.goes;
    }

pub returns-in-Ok-Some-clause-makes : goal.returns-in-Ok-Some-clause-makes
returns-in-Ok-Some-clause-makes c = let pool = c.args.pool.now in let over = c.args.is_over in
    let old = c.args.hand.now in let ready = c.begin.new.hand in let ends = c.end_wait in let end = c.in-Ok-Some.end in
    let begins = subst (λ (e : Option Next). Begins pool c.args.kind over e old ready) c.in-Ok-Some.field-0-is
    c.in-Ok-Some.ensures.begins in record {
      end = Some end;
      ready = ready;
      begins = begins;
      goes = (refl, ends.ensures.ends);
      more = gains_at_once pool c.args.kind c.args.waiter c.args.turn over ends.result old ready ends.new.hand end
          begins ends.ensures.ends;
    }
