-- The tag's bit leaves the mask of known tags.
use Rattle.std.proofs.Common.{arith, ⊎_elim, refl, ◌≡◌}
use Rattle.tag_cache.proofs.Reusing.{another_known, none_kept}
use Rattle.tag_cache.proofs.cache.Cache.forget.Goals as goal

pub invariant_of-self-clause-knows : goal.invariant_of-self-clause-knows
invariant_of-self-clause-knows g c = λ other i. c.args.self.now.knows other ((c.known_without-self.ensures other).0 i).0

pub invariant_of-self-clause-apart : goal.invariant_of-self-clause-apart
invariant_of-self-clause-apart g c = λ other k i.
    c.args.self.now.apart other k ((c.known_without-self.ensures other).0 i).0

pub invariant_of-self-clause-careful : goal.invariant_of-self-clause-careful
invariant_of-self-clause-careful g c = let cache = c.args.self.now in λ careful some. ⊎_elim
    (λ none. let zero : cache.kept ≡ 0 = none_kept cache none in absurd (omega arith))
    (λ more. another_known cache c.args.tag c.known_without-self.result c.known_without-self.type_inv
    c.known_without-self.ensures more careful)
    c.requires

pub returns : goal.returns
returns g c = record {
  same = record {
    hand = refl;
    kept = record {
      kept = λ tag. ((λ k. k), (λ k. k));
      count = refl;
      terms = record { most = refl; keeping = refl };
      reused = refl;
    };
  };
  knows = c.known_without-self.ensures;
}
