-- The port added the steps of the batch to its caller. They determine the tags gained, and what its sweeps freed; round
-- robin has no steps.
use Rattle.std.specs.Prelude.{◌≡◌}
use Rattle.tag_search.proofs.Uses.{ap, arith, cases_Bool, freed_of, inl, inr, layout_of, left_free, Ok, rules, Shared, sym, ◌∙◌}
use Rattle.tag_search.proofs.FreedFacts.{left_is}
use Rattle.tag_search.proofs.MapGets.{batch_got, none_got}
use Rattle.tag_search.proofs.on_map.get_batch.Goals as goal

pub returns-clause-gains : goal.returns-clause-gains
returns-clause-gains g c = let made = c.new-port.ensures.lent in elim (cases_Bool c.args.hint.now.round_robin) [
  | inl round ↦ (let none = c.get_batch.ensures.round_robin round in
      let kept = ap (λ (p : Shared g.row.R.Denot). p.caller.ghost_name) none.1 in
      let same = ap (λ (p : Shared g.row.R.Denot). p.caller.now) none.1 ∙ c.new-port.ensures.caller in
      let done = none_got (layout_of c.args.map.now) (Ok c.in_ok-answer.answer) c.args.caller.now
      c.get_batch.new.port.caller.now (sym c.in_ok-answer.was ∙ none.0) same in search rules)
  | inr plain ↦ (let a = c.in_ok-answer.ensures.steps plain in let kept = a.added.lent in
      let done = (batch_got c.args.map.now c.args.caller.now c.new-port.result c.get_batch.new.port
      c.new-port.ensures.map c.new-port.ensures.caller c.requires.caller c.args.n c.args.hint.now.at
      c.in_ok-answer.answer a).gains in search rules)
]

pub returns-clause-alone : goal.returns-clause-alone
returns-clause-alone g c = λ plain one.
    let a = c.in_ok-answer.ensures.steps plain in let made = c.new-port.ensures.lent in let kept = a.added.lent in
    let done = (batch_got c.args.map.now c.args.caller.now c.new-port.result c.get_batch.new.port
    c.new-port.ensures.map c.new-port.ensures.caller c.requires.caller c.args.n c.args.hint.now.at
    c.in_ok-answer.answer a).alone one in search rules

pub returns-clause-left : goal.returns-clause-left
returns-clause-left g c = let made = c.new-port.ensures.lent in elim (cases_Bool c.args.hint.now.round_robin) [
  | inl round ↦ (let none = c.get_batch.ensures.round_robin round in
      let kept = ap (λ (p : Shared g.row.R.Denot). p.caller.ghost_name) none.1 in
      let same = ap (λ (p : Shared g.row.R.Denot). p.caller.now) none.1 ∙ c.new-port.ensures.caller in
      let done : c.left-left.result ≡ left_free c.args.caller.now c.get_batch.new.port.caller.now =
      (let zero = ap (λ (p : Shared g.row.R.Denot). p.freed) none.1 ∙ c.new-port.ensures.freed in
      let unfreed = ap freed_of same in let is = c.left-left.ensures in omega arith) in search rules)
  | inr plain ↦ (let a = c.in_ok-answer.ensures.steps plain in let kept = a.added.lent in
      let done = left_is c.args.caller.now c.new-port.result c.get_batch.new.port a.steps c.new-port.ensures.caller
      c.new-port.ensures.freed a.added c.left-left.result a.holds.bound c.left-left.ensures in search rules)
]
