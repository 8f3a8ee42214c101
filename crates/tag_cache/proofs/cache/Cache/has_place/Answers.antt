-- A known tag is in the window, so it has a place if there is one.
use Rattle.std.specs.Prelude.{◌≤◌}
use Rattle.tag_cache.proofs.Uses.{arith, count_of, IsLast, ⊎_elim}
use Rattle.tag_cache.proofs.Carrying.{is_not}
use Rattle.tag_cache.proofs.Reusing.{known_within}
use Rattle.tag_cache.proofs.cache.Cache.has_place.Goals as goal

pub returns : goal.returns
returns g c = let cache = c.args.self.now in let tag = c.args.tag in
    let known = c.knows.ensures.0 (let no = c.if-not-knows.false in cc) in let within = known_within cache tag known in
    let room = c.is_full.ensures.room c.if-is_full.false in (
      (λ t. record {
        known = known;
        place = λ full. ⊎_elim (λ (most : cache.most ≤ count_of cache). omega arith) (λ o. o.0 within) full;
        can = record { some = omega arith; alive = omega arith; within = λ careful. within };
        other = λ last. let yes = c.is_last.ensures.1 last in absurd (cc);
      }),
      (λ p. is_not c.is_last.result (IsLast tag cache) c.is_last.ensures p.other),
    )
