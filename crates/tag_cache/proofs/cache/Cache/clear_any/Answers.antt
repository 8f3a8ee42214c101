-- An ordinary tag goes the way that is called for, and a reserved one goes back.
use Rattle.std.specs.Prelude.{◌≤◌}
use Rattle.tag_cache.proofs.Uses.{arith, inl, inr, ordinary_at, reserved_at, reserved_of, sym, ◌∙◌}
use Rattle.tag_cache.proofs.Answering.{does_clear}
use Rattle.tag_cache.proofs.Going.{reserved_back}
use Rattle.tag_cache.proofs.Reusing.{known_ordinary_of, unknown_other}
use Rattle.tag_cache.proofs.cache.Cache.clear_any.Goals as goal

pub give_back-requires-clause-other : goal.give_back-requires-clause-other
give_back-requires-clause-other g c = let pool = c.args.pool.now in let tag = c.args.tag in
    let below = (reserved_at (reserved_of pool) tag (sym c.in_ok-find_held.ensures.kind ∙ c.in-Reserved.is)).below in
    unknown_other c.args.self.now tag (λ known.
    let above : reserved_of pool ≤ tag = known_ordinary_of pool c.args.self.now tag c.requires known in omega arith)

pub returns-in-Ordinary-clause-does : goal.returns-in-Ordinary-clause-does
returns-in-Ordinary-clause-does g c = let pool = c.args.pool.now in let tag = c.args.tag in
    let e = c.clear_ordinary.ensures in
    does_clear pool tag c.args.self.now c.clear_ordinary.new.self c.clear_ordinary.result
    c.in_ok-find_held.ensures.refusals.passes
    (inl (
      (ordinary_at (reserved_of pool) tag (sym c.in_ok-find_held.ensures.kind ∙ c.in-Ordinary.is)).above,
      e.way,
    ))
    e.freed e.knows

pub returns-in-Reserved-clause-does : goal.returns-in-Reserved-clause-does
returns-in-Reserved-clause-does g c = let pool = c.args.pool.now in let tag = c.args.tag in
    let e = c.give_back.ensures in
    let kind = sym c.in_ok-find_held.ensures.kind ∙ c.in-Reserved.is in
    does_clear pool tag c.args.self.now c.give_back.new.self 0 c.in_ok-find_held.ensures.refusals.passes
    (inr ((reserved_at (reserved_of pool) tag kind).below, e.goes))
    (reserved_back pool tag c.args.self.now.hand c.give_back.new.self.hand c.requires.2 kind e.goes.gives)
    (λ leaves. e.knows)
