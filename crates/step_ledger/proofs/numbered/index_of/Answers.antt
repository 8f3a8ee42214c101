-- If the loop returns, the member at its index has the number; if it runs to its end, none has it.
use Rattle.std.specs.Prelude.{◌≡◌, ◌≢◌}
use Rattle.step_ledger.proofs.Uses.{ap, arith, at_index, at_map, below_more, get_elem?, length, map, some, some-injective, sym, ℕ, ◌∙◌}
use Rattle.std.proofs.lemmas.List.{length-map}
use Rattle.step_ledger.proofs.Turned.{nowhere}
use Rattle.step_ledger.proofs.numbered.index_of.Given as given
use Rattle.step_ledger.proofs.numbered.index_of.Goals.{After-number}
use Rattle.step_ledger.proofs.numbered.index_of.Goals as goal

-- the number of the member at the loop's index
number_here : (g : given.Over) (c : After-number g)
    → get_elem? (map g.M.Numbered.number_of c.args.members.now) c.loop-index.index ≡ some c.number.result
number_here g c = let ms = c.args.members.now in let i : ℕ = c.loop-index.index in let m = c.index-members-index in
    at_map g.M.Numbered.number_of ms i m.result (at_index ms i m.result c.loop-index-test.true m.is)
    ∙ ap some (sym c.number.ensures)

pub returns-then-number-clause-some : goal.returns-then-number-clause-some
returns-then-number-clause-some g c = number_here g c.before ∙ ap some c.if-number.true

pub loop-index-preserved : goal.loop-index-preserved
loop-index-preserved g c = below_more
    (λ (i : ℕ). get_elem? (map g.M.Numbered.number_of c.args.members.now) i ≢ some c.args.number)
    c.loop-index.index c.loop-index.invariant
    (λ e. c.if-number.false (some-injective _ _ (sym (number_here g c.before) ∙ e)))

pub returns-clause-none : goal.returns-clause-none
returns-clause-none g c = let ns = map g.M.Numbered.number_of c.args.members.now in let stop = c.loop-index-test.false in
    let long : length ns ≡ length c.args.members.now = length-map c.args.members.now g.M.Numbered.number_of in
    nowhere ns c.args.number (λ i l. c.loop-index.invariant i (omega arith))
