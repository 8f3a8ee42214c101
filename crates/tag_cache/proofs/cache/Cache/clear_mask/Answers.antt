-- The tags of the mask go their way, and what the hand then sees to changes nothing that the user holds.
use Rattle.std.specs.Prelude.{◌+◌}
use Rattle.tag_model.proofs.HoldingFacts.{less_then_same}
use Rattle.tag_bell.specs.Sleeping.{told_by}
use Rattle.tag_cache.specs.Sleeping.{SeesToAndWakes}
use Rattle.tag_cache.proofs.Tallying.{tallies_on}
use Rattle.tag_cache.proofs.Rested.{knows_none_then_same, saw}
use Rattle.tag_cache.proofs.Uses.{arith, count_of, count_ones, length, Ordinary, subst, tags_in, tags_in-length, ℕ}
use Rattle.tag_cache.proofs.cache.Cache.clear_mask.Goals as goal

pub returns : goal.returns
returns g c = let pool = c.args.pool.now in let old = c.args.self.now in let mid = c.clear_mask_quietly.new.self in
    let list = tags_in c.args.first c.args.mask in
    let new = c.wake.new.self in let does = c.in_ok-clear_mask_quietly.ensures.does in
    let many = tags_in-length c.args.first c.args.mask c.ranges.mask.fits in let kept = c.count-kept.ensures.count in
    let wakes = subst (λ (n : ℕ). SeesToAndWakes Ordinary n pool c.wake.result mid new) (omega arith) c.wake.ensures.wakes in
    let rested = saw Ordinary pool (count_of old + length list) (told_by c.wake.result) mid new wakes in record {
      cache = c.wake.ensures.cache;
      refusals = record { first = tt; passes = does.refusals.passes; same = tt };
      less = less_then_same does.less rested.same;
      wakes = record { between = mid; goes = does.way; wakes = wakes };
      knows = knows_none_then_same list old mid new does.knows rested.window.knows;
      tally = tallies_on 0 (count_ones c.args.mask) old mid new does.tally rested.tally;
    }
