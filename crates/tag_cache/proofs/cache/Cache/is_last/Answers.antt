-- The tag is the last one known exactly if the mask without it is 0.
use Rattle.tag_cache.proofs.Uses.{eq-eqb, eqb-true, false≢true}
use Rattle.tag_cache.proofs.Windows.{none_else}
use Rattle.tag_cache.proofs.cache.Cache.is_last.Goals as goal

pub returns-in-Always : goal.returns-in-Always
returns-in-Always g c = let is = c.in-Always.is in (
  (λ t. absurd (false≢true t)),
  (λ l. let careful = l.0 in absurd (cc)),
)

pub returns-in-WhileHolding : goal.returns-in-WhileHolding
returns-in-WhileHolding g c = let cache = c.args.self.now in let rest = c.known_without.result in
    let zero = none_else cache.first cache.known rest c.args.tag
    c.known_without.type_inv c.known_without.ensures in (
      (λ t. (c.in-WhileHolding.is, zero.0 (eqb-true rest 0 t))),
      (λ l. eq-eqb rest 0 (zero.1 l.1)),
    )
