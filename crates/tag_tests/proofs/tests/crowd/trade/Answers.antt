-- The caller that joins the others is one of the tags' own, as they are.
use Rattle.tag_tests.proofs.Uses.{All-set, subst, sym}
use Rattle.tag_tests.proofs.tests.crowd.trade.Goals as goal

pub returns-in-Some-clause-own : goal.returns-in-Some-clause-own
returns-in-Some-clause-own g c = let own = g.T.TagAllocator.is_own c.args.tags.now in
    All-set own c.args.callers.now.items c.args.at c.replace.new.dest
    (subst own (sym c.replace.ensures.after) c.requires.1) c.requires.0
