-- The line stands nowhere, where its index has another line or there is none for its number.
use Rattle.loop_device.proofs.Uses.{answers_always, arith, get_or_default, nat_tests, ranked, rules, sym}
use Rattle.loop_device.proofs.Indexes.{absent_beside, absent_between}
use Rattle.loop_device.proofs.judging.index_of.Goals as goal

pub returns-else-eq-clause-absent : goal.returns-else-eq-clause-absent
returns-else-eq-clause-absent c none =
    let by_line = c.in-Ok.ensures.position (λ found. found.line) (answers_always _ _ _ (λ f a r g called. search
    rules)) in
    absent_beside c.args.ios.now c.requires c.args.io.now c.in-Ok.index (search rules) (ranked _ _ _ (sym (by_line
    c.args.io.now)))
    (λ same. grind (arith, nat_tests, same, c.eq.ensures, c.if-eq.false, get_or_default c.args.ios.now c.in-Ok.index))

pub returns-in-Err-clause-absent : goal.returns-in-Err-clause-absent
returns-in-Err-clause-absent c none =
    absent_between c.args.ios.now c.requires c.args.io.now c.in-Err.field-0
    (c.in-Err.ensures.position (λ found. found.line) (answers_always _ _ _ (λ f a r g called. search rules)))
