-- The tags that the hand gains are the user's, and what it won in vain it gave back.
use Rattle.tag_cache.proofs.Uses.{IfOk, IfOk-weaker, rules}
use Rattle.tag_cache.proofs.Carrying.{owns}
use Rattle.tag_cache.proofs.ManyGains.{all_or_fewer, all_or_same, GainsMany, many_gains, many_still, refuses_many}
use Rattle.tag_cache.proofs.cache.Cache.get_many_quietly.Goals as goal

pub invariant_of-self : goal.invariant_of-self
invariant_of-self g c = let cache = c.args.self.now in let call = c.get_many_quietly in let tags = call.new.tags in
    let hand = call.new.hand in let does = call.ensures.does in
    let gains : IfOk call.result (λ found. GainsMany tags found.0 cache.hand hand) =
    IfOk-weaker call.result _ _ (λ found. many_gains c.args.pool.now tags found.0 found.1 cache.hand hand) does.gets in
    owns c.args.pool.now cache hand c.requires call.ensures.hand.0
    (many_still tags (λ found. found.0) _ call.result cache.hand hand gains does.refusals.same)

pub returns-clause-does : goal.returns-clause-does
returns-clause-does g c = let cache = c.args.self.now in let call = c.get_many_quietly in
    let tags = call.new.tags in let hand = call.new.hand in let does = call.ensures.does in
    let gains : IfOk call.result (λ found. GainsMany tags found.0 cache.hand hand) =
    IfOk-weaker call.result _ _ (λ found. many_gains c.args.pool.now tags found.0 found.1 cache.hand hand) does.gets in
    record {
      refusals = refuses_many call.result cache _ (search rules) (search rules) does.refusals;
      count = does.count;
      gets = does.gets;
      more = all_or_same tags cache _ (search rules) (λ found. found.0) call.result gains;
      kept = search rules;
      window = search rules;
      tally = all_or_fewer tags cache _ (search rules) (λ found. found.0) call.result gains;
    }
