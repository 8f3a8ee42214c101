-- All hands of the pool, tellers and waiters were gathered, so the totals of the three parts are those of the hands.
use Rattle.std.specs.Prelude.{◌≡◌}
use Rattle.tag_queue.proofs.Uses.{All, ap, GroupStep, Hand, length, List, map, subst, sym, Teller, Waiter, ℕ, ◌∙◌}
use Rattle.std.proofs.lemmas.Bool.{false≢true}
use Rattle.std.proofs.lemmas.List.{length-map, nil_from_length}
use Rattle.step_ledger.proofs.Turned.{some_there}
use Rattle.step_ledger.specs.Gather.{HasAll}
use Rattle.step_ledger.specs.Records.{numbers}
use Rattle.step_ledger.specs.declared.record.Record.{Record}
use Rattle.tag_pool.specs.Gathering as pool
use Rattle.tag_pool.specs.Hands as tags
use Rattle.wake_book.specs.Balance.{IsBalanced}
use Rattle.wake_book.specs.Book as book
use Rattle.wake_book.specs.Booked.{IsBooked}
use Rattle.wake_book.specs.Groups as groups
use Rattle.wake_book.specs.declared.steps.BookStep.{BookStep}
use Rattle.tag_queue.specs.Gathering.{shell_tellers, shell_waiters}
use Rattle.tag_queue.specs.Hands.{all_in_pool, hands_of, number_of, tellers_of, waiters_of}
use Rattle.tag_queue.specs.Parts.{shell_of}
use Rattle.tag_queue.specs.declared.room.Shell.{Shell}
use Rattle.tag_queue.proofs.Gathering.{gathers, inner_numbers, inners_own, teller_numbers, tellers_out, tellers_own, waiter_numbers, waiters_out, waiters_own}
use Rattle.tag_queue.proofs.queue.Queue.close.Goals as goal

pub gather-requires : goal.gather-requires
gather-requires g c =
    let inners : c.part-inners.result.0.items ≡ all_in_pool c.args.hands.items =
    c.part-inners.ensures.inners ∙ ap (λ v. all_in_pool v.items) c.assert_hand_count-hands.ensures.same in
    subst (All (tags.IsHandOf c.args.self.pool)) (sym inners) (inners_own c.args.self c.args.hands.items c.requires.own)

pub unreachable-requires : goal.unreachable-requires
unreachable-requires g c =
    let inners : c.part-inners.result.0.items ≡ all_in_pool c.args.hands.items =
    c.part-inners.ensures.inners ∙ ap (λ v. all_in_pool v.items) c.assert_hand_count-hands.ensures.same in
    false≢true (c.in_default.ensures.succeeds.1
    (subst (λ (ns : List ℕ). HasAll ns (hands_of c.args.self))
    (sym (ap (λ (l : List (Hand g.row.R.Denot)). pool.numbers_of l) inners ∙ inner_numbers c.args.hands.items))
    c.requires.all))

pub gather_shells-tellers-requires-clause-some : goal.gather_shells-tellers-requires-clause-some
gather_shells-tellers-requires-clause-some g c = λ none.
    let hands = c.args.hands.items in
    let shells : c.part-inners.result.1.items ≡ map shell_of hands =
    c.part-inners.ensures.shells ∙ ap (λ v. map shell_of v.items) c.assert_hand_count-hands.ensures.same in
    some_there number_of hands (hands_of c.args.self) c.requires.all c.args.self.pool.ordinary.few.0
    (nil_from_length hands (sym (length-map hands shell_of)
    ∙ ap (λ (l : List (Shell g.row.R.Denot)). length l) (sym shells ∙ none)))

pub gather_shells-tellers-requires-clause-tellers : goal.gather_shells-tellers-requires-clause-tellers
gather_shells-tellers-requires-clause-tellers g c =
    let hands = c.args.hands.items in
    let shells : c.part-inners.result.1.items ≡ map shell_of hands =
    c.part-inners.ensures.shells ∙ ap (λ v. map shell_of v.items) c.assert_hand_count-hands.ensures.same in
    subst (All (book.IsTellerOf c.args.self.book))
    (sym (ap (λ (l : List (Shell g.row.R.Denot)). shell_tellers l) shells ∙ tellers_out hands))
    (tellers_own c.args.self hands c.requires.own)

pub gather_shells-tellers-requires-clause-waiters : goal.gather_shells-tellers-requires-clause-waiters
gather_shells-tellers-requires-clause-waiters g c =
    let hands = c.args.hands.items in
    let shells : c.part-inners.result.1.items ≡ map shell_of hands =
    c.part-inners.ensures.shells ∙ ap (λ v. map shell_of v.items) c.assert_hand_count-hands.ensures.same in
    subst (All (groups.IsWaiterOf c.args.self.groups))
    (sym (ap (λ (l : List (Shell g.row.R.Denot)). shell_waiters l) shells ∙ waiters_out hands))
    (waiters_own c.args.self hands c.requires.own)

pub finish-requires-clause-all : goal.finish-requires-clause-all
finish-requires-clause-all g c =
    let hands = c.args.hands.items in
    let shells : c.part-inners.result.1.items ≡ map shell_of hands =
    c.part-inners.ensures.shells ∙ ap (λ v. map shell_of v.items) c.assert_hand_count-hands.ensures.same in
    let all : book.gathered c.gather_shells-tellers.result.0 ≡ book.records_of (tellers_of hands) =
    c.gather_shells-tellers.ensures.tellers.1
    ∙ ap (λ (l : List (Shell g.row.R.Denot)). book.records_of (shell_tellers l)) shells
    ∙ ap (λ (l : List Teller). book.records_of l) (tellers_out hands) in
    subst (λ (z : List ℕ × ℕ). HasAll z.0 z.1)
    (λ j. (
      (teller_numbers hands ∙ ap (λ (rs : List (Record BookStep)). numbers rs) (sym all)) j,
      sym c.args.self.as_many.0 j,
    )) c.requires.all

pub finish-requires-2-clause-all : goal.finish-requires-2-clause-all
finish-requires-2-clause-all g c =
    let hands = c.args.hands.items in
    let shells : c.part-inners.result.1.items ≡ map shell_of hands =
    c.part-inners.ensures.shells ∙ ap (λ v. map shell_of v.items) c.assert_hand_count-hands.ensures.same in
    let all : groups.gathered c.gather_shells-tellers.result.1 ≡ groups.records_of (waiters_of hands) =
    c.gather_shells-tellers.ensures.waiters.1
    ∙ ap (λ (l : List (Shell g.row.R.Denot)). groups.records_of (shell_waiters l)) shells
    ∙ ap (λ (l : List Waiter). groups.records_of l) (waiters_out hands) in
    subst (λ (z : List ℕ × ℕ). HasAll z.0 z.1)
    (λ j. (
      (waiter_numbers hands ∙ ap (λ (rs : List (Record GroupStep)). numbers rs) (sym all)) j,
      sym c.args.self.as_many.1 j,
    )) c.requires.all

pub returns : goal.returns
returns g c =
    let hands = c.args.hands.items in let queue = c.args.self in
    let inners : c.part-inners.result.0.items ≡ all_in_pool hands =
    c.part-inners.ensures.inners ∙ ap (λ v. all_in_pool v.items) c.assert_hand_count-hands.ensures.same in
    let shells : c.part-inners.result.1.items ≡ map shell_of hands =
    c.part-inners.ensures.shells ∙ ap (λ v. map shell_of v.items) c.assert_hand_count-hands.ensures.same in
    let tellers : book.gathered c.gather_shells-tellers.result.0 ≡ book.records_of (tellers_of hands) =
    c.gather_shells-tellers.ensures.tellers.1
    ∙ ap (λ (l : List (Shell g.row.R.Denot)). book.records_of (shell_tellers l)) shells
    ∙ ap (λ (l : List Teller). book.records_of l) (tellers_out hands) in
    let waiters : groups.gathered c.gather_shells-tellers.result.1 ≡ groups.records_of (waiters_of hands) =
    c.gather_shells-tellers.ensures.waiters.1
    ∙ ap (λ (l : List (Shell g.row.R.Denot)). groups.records_of (shell_waiters l)) shells
    ∙ ap (λ (l : List Waiter). groups.records_of l) (waiters_out hands) in
    gathers queue hands c.in-Ok.tags c.finish.result c.finish-2.result
    (subst (λ (l : List (Hand g.row.R.Denot)). pool.IsGathered queue.pool l c.in-Ok.tags) inners c.in-Ok.ensures.ok)
    (subst (λ (l : List (Record BookStep)). IsBooked (book.limits_of queue.book) l c.finish.result) tellers
    c.finish.ensures)
    (subst (λ (l : List (Record GroupStep)). IsBalanced (groups.waiters_of queue.groups) l c.finish-2.result) waiters
    c.finish-2.ensures)
