-- A kept tag, or one that the hand gains.
use Rattle.tag_cache.proofs.Uses.{IsKept, kind_of, reserved_of, rules}
use Rattle.std.specs.Prelude.{Some}
use Rattle.tag_pool.specs.Exact as hands
use Rattle.tag_pool.specs.Gets as hand_gets
use Rattle.tag_cache.proofs.Carrying.{not_true, owns}
use Rattle.tag_cache.proofs.ExactGets.{exact_call, kept_passes, kept_tally, looking_gets, looking_tally, refused, was_kept}
use Rattle.tag_cache.proofs.Gaining.{gained_still}
use Rattle.tag_cache.proofs.cache.Cache.get_exactly.Goals as goal

pub invariant_of-self : goal.invariant_of-self
invariant_of-self g c = let cache = c.args.self.now in let call = c.get_exactly in
    owns c.args.pool.now cache call.new.hand c.requires call.ensures.hand.0 (gained_still
    (exact_call c.args.pool.now c.args.tag cache.hand call.new.hand call.result call.ensures.gets
    call.ensures.refusals.same))

pub returns-then-keeps : goal.returns-then-keeps
returns-then-keeps g c = let pool = c.args.pool.now in let tag = c.args.tag in let cache = c.args.self.now in
    let new = c.hand_out.new.self in let out = c.hand_out.ensures in record {
      cache = search rules;
      refusals = record { first = tt; passes = kept_passes pool tag cache new c.requires out; same = tt };
      gets = record {
        gets = was_kept pool tag cache new c.requires out
            (hand_gets.GetsAndLooks (kind_of (reserved_of pool) tag) (hands.GetsExactly pool tag (Some tag)) c.none.result);
        quiet = λ kept. c.none.ensures;
      };
      tally = kept_tally pool tag cache new c.requires out;
    }

pub returns : goal.returns
returns g c = let pool = c.args.pool.now in let tag = c.args.tag in let cache = c.args.self.now in
    let call = c.get_exactly in let other = not_true _ (IsKept cache tag) c.keeps.ensures c.if-keeps.false in record {
      cache = search rules;
      refusals = refused pool tag cache _ (search rules) (search rules) other call.result call.ensures.refusals;
      gets = looking_gets pool tag cache _ (search rules) (search rules) other call.result call.ensures.gets;
      tally = looking_tally pool tag cache _ (search rules) (search rules) other call.result call.ensures.gets;
    }
