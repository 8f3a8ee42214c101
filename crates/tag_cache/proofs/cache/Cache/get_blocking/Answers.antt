-- A kept tag, or one that the hand gains.
use Rattle.tag_cache.proofs.Uses.{rules}
use Rattle.tag_cache.proofs.Sleeping.{kept_got, refused_empty, waited_for}
use Rattle.tag_cache.proofs.cache.Cache.get_blocking.Goals as goal

pub returns-then-keeps_none-clause-refusals : goal.returns-then-keeps_none-clause-refusals
returns-then-keeps_none-clause-refusals g c = refused_empty c.args.pool.now c.args.self.now c.wait_for.new.self
    (c.keeps_none.ensures.0 c.if-keeps_none.true) c.wait_for.result c.wait_for.ensures.refusals

pub returns-then-keeps_none-clause-gets : goal.returns-then-keeps_none-clause-gets
returns-then-keeps_none-clause-gets g c = let waited = c.wait_for in
    waited_for c.args.pool.now c.args.self.now waited.new.self waited.ensures.kept
    (c.keeps_none.ensures.0 c.if-keeps_none.true) waited.result waited.ensures.gets waited.ensures.knows

pub returns-clause-gets : goal.returns-clause-gets
returns-clause-gets g c = kept_got c.args.pool.now c.args.self.now c.reuse.new.self c.reuse.result c.none.result
    c.requires c.reuse.ensures c.none.ensures (search rules)
