-- The hand's refusals are the user's, and a tag that is kept is one that the user does not hold.
use Rattle.std.specs.Prelude.{◌≡◌, ◌≤◌}
use Rattle.tag_cache.proofs.Uses.{All, AreOrdinary, arith, BadCount, bit_and, Holds, inl, inr, NoSuchTag, NotHeld, refl, rules, tags_in}
use Rattle.tag_pool.specs.Hands as hands
use Rattle.tag_cache.proofs.Refused.{refused_user}
use Rattle.tag_cache.proofs.Shifting.{no_common}
use Rattle.tag_cache.proofs.cache.Cache.check_mask.Goals as goal

pub returns-in_err-check_mask : goal.returns-in_err-check_mask
returns-in_err-check_mask g c = let cache = c.args.self.now in let list = tags_in c.args.first c.args.mask in
    let first = refused_user (1 ≤ c.args.mask) (AreOrdinary c.args.pool.now list) BadCount NoSuchTag NotHeld
    (All (hands.Holds cache.hand) list) (All (Holds cache) list) (λ held k d l. (held k d l).0) _
    c.from_residual.result c.from_residual.ensures.1 c.in_err-check_mask.ensures.refusals.first in search rules

pub returns-then-self-inside-ne0 : goal.returns-then-self-inside-ne0
returns-then-self-inside-ne0 g c = let cache = c.args.self.now in
    let passed = c.in_ok-check_mask.ensures.refusals.passes in
    let apart = no_common cache.first cache.kept c.args.first c.args.mask c.inside.result cache.wide.0
    c.ranges.mask.fits c.inside.ensures.inside in
    let not_held : ¬ (All (Holds cache) (tags_in c.args.first c.args.mask)) = λ held.
    let none = apart.1 (λ k d l. (held k d l).1) in let some = c.if-self-inside-ne0.true in omega arith in record {
      refusals = record {
        first = inr (passed.0, inr (passed.1.0, inl (not_held, refl)));
        passes = tt;
        same = tt;
      };
    }

pub returns : goal.returns
returns g c = let cache = c.args.self.now in let passed = c.in_ok-check_mask.ensures.refusals.passes in
    let zero : bit_and cache.kept c.inside.result ≡ 0 = let z = c.if-self-inside-ne0.false in omega arith in
    let none = (no_common cache.first cache.kept c.args.first c.args.mask c.inside.result cache.wide.0
    c.ranges.mask.fits c.inside.ensures.inside).0 zero in record {
      refusals = record {
        first = tt;
        passes = (passed.0, (passed.1.0, ((λ k d l. (passed.1.1.0 k d l, none k d l)), tt)));
        same = tt;
      };
    }
