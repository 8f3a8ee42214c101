-- The output is that of the kind of script that was run.
use Rattle.tag_script.proofs.Uses.{Bool, IfOk, IsTold, subst, sym}
use Rattle.tag_script.proofs.script.carry_out.Goals as goal

pub returns-then-options-clause-told : goal.returns-then-options-clause-told
returns-then-options-clause-told g c =
    let o = c.args.options.now in
    subst (λ (plain : Bool). IfOk c.run_alone.result (λ text. IsTold plain o c.args.orders.now text.items))
    (sym c.if-options.true)
    c.run_alone.ensures.told

pub returns-else-options-clause-told : goal.returns-else-options-clause-told
returns-else-options-clause-told g c =
    let o = c.args.options.now in
    subst (λ (plain : Bool). IfOk c.run_shared.result (λ text. IsTold plain o c.args.orders.now text.items))
    (sym c.if-options.false)
    c.run_shared.ensures.told
