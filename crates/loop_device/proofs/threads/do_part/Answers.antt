-- A thread does the part that its number says.
use Rattle.loop_device.proofs.Uses.{[], ap, begins, DoesPart, ends, false, Option, ServesPopped, SubmitsShare, subst, sym, true, view, Worker, worker, ℕ, ◌∙◌}
use Rattle.std.proofs.Common.{◌≡◌}
use Rattle.std.specs.Prelude.{is_some}
use Rattle.loop_device.proofs.threads.do_part.Goals as goal

pub returns-in-Some : goal.returns-in-Some
returns-in-Some g c =
    let tags = c.args.device.now.tags in let ios = c.args.log.now.ios.items in let setup = c.args.setup in
    let worked = c.submit_all.result.0 in let last = view c.submit_all.result.1 in
    let begun : view c.args.pass ≡ worker true [] [] = c.requires.begins
    ∙ ap (λ (number : Option ℕ). worker (is_some number) [] []) c.in-Some.is in (
      c.submit_all.ensures.hand,
      subst (λ (number : Option ℕ). DoesPart tags setup ios number worked) (sym c.in-Some.is) record {
        first = c.args.hand;
        fresh = c.requires.hand;
        last = last;
        shared = subst (λ (z : ℕ × Worker). SubmitsShare tags z.0 ios c.in-Some.number setup.submitters
            (begins c.args.hand z.1) (ends worked last)) (λ i. (c.requires.room i, begun i))
            c.submit_all.ensures.submitted;
      },
    )

pub returns-in-None : goal.returns-in-None
returns-in-None g c =
    let tags = c.args.device.now.tags in let ios = c.args.log.now.ios.items in let setup = c.args.setup in
    let worked = c.complete_all.result.0 in let last = view c.complete_all.result.2 in
    let begun : view c.args.pass ≡ worker false [] [] = c.requires.begins
    ∙ ap (λ (number : Option ℕ). worker (is_some number) [] []) c.in-None.is in (
      c.complete_all.ensures.hand,
      subst (λ (number : Option ℕ). DoesPart tags setup ios number worked) (sym c.in-None.is) record {
        first = c.args.hand;
        fresh = c.requires.hand;
        last = last;
        served = subst (λ (v : Worker). ServesPopped tags ios (begins c.args.hand v) (ends worked last)) begun
            c.complete_all.ensures.served;
      },
    )
