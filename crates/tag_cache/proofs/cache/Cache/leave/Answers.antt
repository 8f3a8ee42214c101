-- Nothing is kept any more, so any of the tags that were known may be said to be.
use Rattle.tag_cache.proofs.Uses.{arith, IsIn, subst, ℕ}
use Rattle.tag_cache.proofs.SameWindows.{same_known}
use Rattle.tag_cache.proofs.Reusing.{none_kept}
use Rattle.tag_cache.proofs.cache.Cache.leave.Goals as goal

pub invariant_of-self-clause-knows : goal.invariant_of-self-clause-knows
invariant_of-self-clause-knows g c = let new = c.give_back_kept-freed.new.self in
    let w = c.give_back_kept-freed.ensures.window in λ other i. new.knows other
    ((same_known c.args.self.now new w.0 w.1 other).1
    (c.requires.left other (subst (λ (f : ℕ). IsIn f c.args.left other) w.0 i)))

pub invariant_of-self-clause-apart : goal.invariant_of-self-clause-apart
invariant_of-self-clause-apart g c = λ other k i. c.give_back_kept-freed.ensures.none other k

pub invariant_of-self-clause-careful : goal.invariant_of-self-clause-careful
invariant_of-self-clause-careful g c = λ careful some.
    let zero = none_kept c.give_back_kept-freed.new.self c.give_back_kept-freed.ensures.none in absurd (omega arith)
