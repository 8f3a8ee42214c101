-- A kept tag, or one that the hand gains.
use Rattle.tag_cache.proofs.Uses.{Ordinary, rules}
use Rattle.std.specs.Prelude.{Some}
use Rattle.tag_pool.specs.Gets as hand_gets
use Rattle.tag_cache.proofs.HandGets.{gets_after, gets_kept}
use Rattle.tag_cache.proofs.cache.Cache.get.Goals as goal

pub returns-then-keeps_none : goal.returns-then-keeps_none
returns-then-keeps_none g c = let win = c.win in let none = c.keeps_none.ensures.0 c.if-keeps_none.true in
    let after = gets_after c.args.pool.now c.args.self.now win.new.self win.ensures.kept none win.result
    win.ensures.gets in
    search rules

pub returns-clause-gets : goal.returns-clause-gets
returns-clause-gets g c = record {
  gets = gets_kept (hand_gets.GetsAndLooks Ordinary (hand_gets.Gets c.args.pool.now Ordinary (Some c.reuse.result)) c.none.result)
      c.args.pool.now c.args.self.now c.reuse.new.self c.reuse.result c.requires c.reuse.ensures;
  quiet = λ some. c.none.ensures;
}
