-- What is said of the list of the mask's tags is said of the mask.
use Rattle.std.specs.Prelude.{◌≤◌}
use Rattle.tag_cache.proofs.Uses.{All, AreOrdinary, BadCount, Holds, NoSuchTag, NotHeld, rules, subst, tags_in, tags_in-length, Tallies, ℕ}
use Rattle.tag_cache.proofs.ClearedLists.{list_less, list_tallies}
use Rattle.tag_cache.proofs.Refused.{refused_user}
use Rattle.tag_cache.proofs.cache.Cache.clear_mask_quietly.Goals as goal

pub returns-in_err-check_mask-clause-does : goal.returns-in_err-check_mask-clause-does
returns-in_err-check_mask-clause-does g c = let list = tags_in c.args.first c.args.mask in
    let held = All (Holds c.args.self.now) list in
    let first = refused_user (1 ≤ c.args.mask) (AreOrdinary c.args.pool.now list) BadCount NoSuchTag NotHeld held held
    (λ h. h) _ c.from_residual.result c.from_residual.ensures.1 c.in_err-check_mask.ensures.refusals.first in
    search rules

pub returns-clause-does : goal.returns-clause-does
returns-clause-does g c = let pool = c.args.pool.now in let old = c.args.self.now in
    let new = c.give_back_mask.new.self in let list = tags_in c.args.first c.args.mask in
    let e = c.give_back_mask.ensures in record {
      refusals = record { first = tt; passes = c.in_ok-check_mask.ensures.refusals.passes; same = tt };
      less = list_less pool list old new e.way;
      way = e.way;
      freed = e.freed;
      knows = e.knows;
      tally = subst (λ (n : ℕ). Tallies 0 n old new) (tags_in-length c.args.first c.args.mask c.ranges.mask.fits)
          (list_tallies pool list old new e.way);
    }
