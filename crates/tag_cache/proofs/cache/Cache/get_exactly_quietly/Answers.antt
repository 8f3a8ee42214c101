-- A kept tag, or one that the hand gains.
use Rattle.tag_cache.proofs.Uses.{IsKept, rules}
use Rattle.tag_pool.specs.Exact as hands
use Rattle.std.specs.Prelude.{Some}
use Rattle.tag_cache.proofs.Carrying.{not_true, owns}
use Rattle.tag_cache.proofs.ExactGets.{exact_quiet_call, kept_left, kept_passes, kept_tally, quiet_gets, quiet_tally, refused, was_kept}
use Rattle.tag_cache.proofs.Gaining.{gained_still}
use Rattle.tag_cache.proofs.cache.Cache.get_exactly_quietly.Goals as goal

pub invariant_of-self : goal.invariant_of-self
invariant_of-self g c = let cache = c.args.self.now in let call = c.get_exactly_quietly in
    owns c.args.pool.now cache call.new.hand c.requires call.ensures.hand.0 (gained_still
    (exact_quiet_call c.args.pool.now c.args.tag cache.hand call.new.hand call.result call.ensures.does))

pub returns-then-keeps-clause-does : goal.returns-then-keeps-clause-does
returns-then-keeps-clause-does g c = let pool = c.args.pool.now in let cache = c.args.self.now in
    let new = c.hand_out.new.self in let out = c.hand_out.ensures in record {
      refusals = record { first = tt; passes = kept_passes pool c.args.tag cache new c.requires out; same = tt };
      gets = was_kept pool c.args.tag cache new c.requires out (hands.GetsExactly pool c.args.tag (Some c.args.tag));
      left = kept_left pool c.args.tag cache new c.requires out;
      tally = kept_tally pool c.args.tag cache new c.requires out;
    }

pub returns-clause-does : goal.returns-clause-does
returns-clause-does g c = let pool = c.args.pool.now in let tag = c.args.tag in let cache = c.args.self.now in
    let call = c.get_exactly_quietly in let does = call.ensures.does in
    let other = not_true _ (IsKept cache tag) c.keeps.ensures c.if-keeps.false in record {
      refusals = refused pool tag cache _ (search rules) (search rules) other call.result does.refusals;
      gets = quiet_gets pool tag cache _ (search rules) (search rules) other call.result does.gets;
      left = does.left;
      tally = quiet_tally pool tag cache _ (search rules) (search rules) other call.result does.gets;
    }
