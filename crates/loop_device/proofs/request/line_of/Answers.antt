-- The line stands where the search found its number, and nowhere where the search found none.
use Rattle.loop_device.proofs.Uses.{answers_always, Contains-get_or, Err, Io, IsBinarySearchResult, nat_cmp, ranked, rules, subst, sym}
use Rattle.loop_device.proofs.Indexes.{absent_between}
use Rattle.loop_device.proofs.request.line_of.Goals as goal

pub returns-in-Ok-clause-found : goal.returns-in-Ok-clause-found
returns-in-Ok-clause-found c =
    let by_line = c.in-Ok.ensures.position (λ found. found.line) (answers_always _ _ _ (λ f a r g called. search
    rules)) in
    (Contains-get_or c.args.ios.now c.in-Ok.index _ (search rules), ranked _ _ _ (sym (by_line _)))

pub returns-in-Err-clause-absent : goal.returns-in-Err-clause-absent
returns-in-Err-clause-absent c none has =
    let ios = c.args.ios.now in
    let gap = c.in-Err.field-0 in
    let parted : IsBinarySearchResult (λ (found : Io). nat_cmp found.line c.args.line) ios (Err gap) =
    c.in-Err.ensures.position (λ found. found.line) (answers_always _ _ _ (λ f a r g called. search rules)) in
    absent_between ios c.requires has.0 gap
    (subst (λ line. IsBinarySearchResult (λ (found : Io). nat_cmp found.line line) ios (Err gap))
    (sym has.2) parted) has.1
