-- The cache gets an ordinary tag, kept or not, and the hand a reserved one.
use Rattle.tag_c.proofs.Uses.{RefusesBy, subst, sym}
use Rattle.tag_pool.specs.declared.kind.Kind.{Kind}
use Rattle.tag_cache.specs.Changes.{IsUnchanged}
use Rattle.tag_c.specs.Rounds.{get_checks_over}
use Rattle.tag_c.proofs.Going.{ordinary_refuses}
use Rattle.tag_c.proofs.rounds.caching.get_over.Goals as goal

pub returns-in-Ordinary-clause-refusals : goal.returns-in-Ordinary-clause-refusals
returns-in-Ordinary-clause-refusals c = let old = c.args.cache.now in let new = c.get_quietly.new.self in
    subst (λ (k : Kind). RefusesBy (get_checks_over k old) (IsUnchanged old new) c.get_quietly.result) (sym c.in-Ordinary.is)
    (ordinary_refuses c.args.pool.now old new c.get_quietly.result c.get_quietly.ensures.does.refusals)
