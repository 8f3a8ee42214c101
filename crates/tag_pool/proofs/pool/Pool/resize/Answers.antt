-- The checks leave the hands unchanged, so each refusal, and the resize itself, is about the hands passed in.
use Rattle.std.specs.Prelude.{◌≡◌}
use Rattle.std.proofs.lemmas.Result.{IfErr-weaker, IfOk-weaker}
use Rattle.tag_pool.proofs.Uses.{arith, List, Ordinary, Record, refl, subst, sym, ℕ}
use Rattle.step_ledger.specs.Gather.{HasAll}
use Rattle.tag_pool.specs.Hands.{hands_of}
use Rattle.tag_pool.specs.Resizing.{IsResized}
use Rattle.tag_pool.specs.Using.{AreUnchanged, NoneInUse}
use Rattle.tag_pool.proofs.Refusals.{AreTold, told_err, told_free}
use Rattle.tag_pool.proofs.Resized.{resized_from, unchanged-trans}
use Rattle.tag_pool.proofs.Unchanged.{unchanged-numbers, unchanged-records}
use Rattle.tag_pool.specs.Resizing.{IsRefusedAs}
use Rattle.tag_pool.proofs.pool.Pool.resize.Given as given
use Rattle.tag_pool.proofs.pool.Pool.resize.Goals.{After-reopen, In-Err}
use Rattle.tag_pool.proofs.pool.Pool.resize.Goals as goal

pub reopen-requires-clause-every : goal.reopen-requires-clause-every
reopen-requires-clause-every g c = subst (λ (z : List ℕ). HasAll z (hands_of c.args.pool))
    (sym (unchanged-numbers c.args.hands.items c.next_layout.new.hands.items c.next_layout.ensures.unchanged))
    (c.in-Ok.ensures.may refl).0.0

pub reopen-requires-clause-unused : goal.reopen-requires-clause-unused
reopen-requires-clause-unused g c =
    let none = (c.in-Ok.ensures.may refl).1 in let held = none.0 in let posted = none.1 in
    subst (λ (z : List (Record g.row.R.Denot)). NoneInUse z)
    (sym (unchanged-records c.args.hands.items c.next_layout.new.hands.items c.next_layout.ensures.unchanged Ordinary))
    (omega arith, omega arith)

pub reopen-requires-clause-layout : goal.reopen-requires-clause-layout
reopen-requires-clause-layout g c = c.in-Ok.ensures.layout

pub reopen-requires-clause-range : goal.reopen-requires-clause-range
reopen-requires-clause-range g c = (c.in-Ok.ensures.may refl).0.1

pub returns-in-Ok-clause-ok : goal.returns-in-Ok-clause-ok
returns-in-Ok-clause-ok g c =
    let olds = c.args.hands.items in let news = c.next_layout.new.hands.items in
    IfOk-weaker c.reopen.result (λ p. IsResized c.args.pool news c.args.depth p.0 p.1.items)
    (λ p. IsResized c.args.pool olds c.args.depth p.0 p.1.items)
    (λ p is. resized_from c.args.pool olds news c.args.depth p.0 p.1.items c.next_layout.ensures.unchanged is)
    c.reopen.ensures.ok

pub returns-in-Ok-clause-may : goal.returns-in-Ok-clause-may
returns-in-Ok-clause-may g c = λ ok. c.in-Ok.ensures.may refl

late : (g : given.Over) (c : After-reopen g) → AreTold c.args.pool c.args.hands.items c.args.depth (IsRefusedAs c.reopen.result)
late g c = told_free c.args.pool c.args.hands.items c.args.depth c.reopen.result (c.in-Ok.ensures.may refl)
    c.reopen.ensures.cause

pub returns-in-Ok-clause-missing : goal.returns-in-Ok-clause-missing
returns-in-Ok-clause-missing g c = (late g c).missing

pub returns-in-Ok-clause-too_deep : goal.returns-in-Ok-clause-too_deep
returns-in-Ok-clause-too_deep g c = (late g c).too_deep

pub returns-in-Ok-clause-in_use : goal.returns-in-Ok-clause-in_use
returns-in-Ok-clause-in_use g c = (late g c).in_use

pub returns-in-Ok-clause-waiting : goal.returns-in-Ok-clause-waiting
returns-in-Ok-clause-waiting g c = (late g c).waiting

pub returns-in-Ok-clause-memory : goal.returns-in-Ok-clause-memory
returns-in-Ok-clause-memory g c = λ told. c.in-Ok.ensures.may refl

pub returns-in-Ok-clause-err : goal.returns-in-Ok-clause-err
returns-in-Ok-clause-err g c =
    let olds = c.args.hands.items in let news = c.next_layout.new.hands.items in
    IfErr-weaker c.reopen.result (λ fault. (fault.pool ≡ c.args.pool) × AreUnchanged news fault.hands.items)
    (λ fault. (fault.pool ≡ c.args.pool) × AreUnchanged olds fault.hands.items)
    (λ fault h. (h.0, unchanged-trans olds news fault.hands.items c.next_layout.ensures.unchanged h.1))
    c.reopen.ensures.err

early : (g : given.Over) (c : In-Err g) → AreTold c.args.pool c.args.hands.items c.args.depth (λ other. c.in-Err.cause ≡ other)
early g c = told_err c.args.pool c.args.hands.items c.args.depth c.in-Err.cause c.in-Err.ensures.cause

pub returns-in-Err-clause-missing : goal.returns-in-Err-clause-missing
returns-in-Err-clause-missing g c = (early g c).missing

pub returns-in-Err-clause-too_deep : goal.returns-in-Err-clause-too_deep
returns-in-Err-clause-too_deep g c = (early g c).too_deep

pub returns-in-Err-clause-in_use : goal.returns-in-Err-clause-in_use
returns-in-Err-clause-in_use g c = (early g c).in_use

pub returns-in-Err-clause-waiting : goal.returns-in-Err-clause-waiting
returns-in-Err-clause-waiting g c = (early g c).waiting

pub returns-in-Err-clause-memory : goal.returns-in-Err-clause-memory
returns-in-Err-clause-memory g c = (early g c).memory
