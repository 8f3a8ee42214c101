-- The tags that the hand gains are the user's, and what it won in vain it gave back.
use Rattle.tag_cache.proofs.Uses.{IfOk, IfOk-weaker, rules}
use Rattle.tag_cache.proofs.Carrying.{owns}
use Rattle.tag_cache.proofs.ManyGains.{all_or_fewer, all_or_same, GainsMany, looked_many, many_still, refuses_many}
use Rattle.tag_cache.proofs.cache.Cache.get_many.Goals as goal

pub invariant_of-self : goal.invariant_of-self
invariant_of-self g c = let cache = c.args.self.now in let call = c.get_many in let tags = call.new.tags in
    let hand = call.new.hand in
    let gains : IfOk call.result (λ got. GainsMany tags got.answer cache.hand hand) =
    IfOk-weaker call.result _ _ (λ got. looked_many c.args.pool.now tags got.answer got.woken cache.hand hand)
    call.ensures.gets in
    owns c.args.pool.now cache hand c.requires call.ensures.hand.0
    (many_still tags (λ got. got.answer) _ call.result cache.hand hand gains call.ensures.refusals.same)

pub returns : goal.returns
returns g c = let cache = c.args.self.now in let call = c.get_many in let tags = call.new.tags in
    let hand = call.new.hand in
    let gains : IfOk call.result (λ got. GainsMany tags got.answer cache.hand hand) =
    IfOk-weaker call.result _ _ (λ got. looked_many c.args.pool.now tags got.answer got.woken cache.hand hand)
    call.ensures.gets in record {
      cache = search rules;
      refusals = refuses_many call.result cache _ (search rules) (search rules) call.ensures.refusals;
      count = search rules;
      gets = search rules;
      more = all_or_same tags cache _ (search rules) (λ got. got.answer) call.result gains;
      kept = search rules;
      window = search rules;
      tally = all_or_fewer tags cache _ (search rules) (λ got. got.answer) call.result gains;
    }
