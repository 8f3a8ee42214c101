-- The hand did not hold the tag before, and no other caller holds it now, so no caller held it.
use Rattle.std.proofs.Common.{◌≡◌, ℕ, set, rules, Option, Some, Result, Ok, Err, IfErr, ⊎_elim, refl, sym, ap, subst, arith}
use Rattle.tag_board.proofs.Uses.{Board, in_pool, pool_of, State, state_of_all, TagFault, total_of, state_of, Takes, is_answer}
use Rattle.tag_pool.specs.Gets.{IsAnswer}
use Rattle.tag_board.proofs.Postings.{err_is, within_total}
use Rattle.tag_board.proofs.Ranges.{tag_low}
use Rattle.tag_board.proofs.Commands.{effect_on, free_before, holds_gained, miss_does, seated, names_answer, names_one, take_does, own_here, sits, unchanged}
use Rattle.tag_board.proofs.board.Board.take.Goals as goal

pub invariant_of-self : goal.invariant_of-self
invariant_of-self c =
    let b = c.args.self.now in let at = sits (omega arith) c.index_mut.ensures.value in
    seated b at c.take.new.hand c.take.ensures.hand

pub tell_free-requires-clause-held : goal.tell_free-requires-clause-held
tell_free-requires-clause-held c =
    let b = c.args.self.now in let at = sits c.requires c.index_mut.ensures.value in let old = c.index_mut.result.now in
    let answer : Option ℕ = Some c.args.tag in
    holds_gained b at c.take.new.hand (is_answer answer) (IsAnswer answer) (names_answer answer)
    c.in_ok-take.ensures.does.takes.more

pub returns : goal.returns
returns c =
    let b = c.args.self.now in let at = sits c.requires c.index_mut.ensures.value in let old = c.index_mut.result.now in
    let new = c.take.new.hand in let i : ℕ = c.args.caller in let tag : ℕ = c.args.tag in
    let takes = c.in_ok-take.ensures.does.takes in let answer : Option ℕ = Some tag in
    let own = own_here b.queue at b.own in
    let k = effect_on b at new c.take.ensures.hand.0
    (take_does b.queue old new own tag takes c.in_ok-take.ensures.counts) in
    let free = free_before b at new (is_answer answer) (IsAnswer answer) (names_answer answer) takes.more k
    c.tell_free.ensures.alone in
    subst (λ (x : Board). Takes tag i (state_of b) (Ok tt) (state_of x)) (sym c.tell_free.ensures.same) (
      tag_low (pool_of b.queue) (in_pool new) c.take.ensures.hand.0.0 tag (takes.more.joined tag refl),
      (λ caller other is. free caller other ((names_answer answer other).1 ((names_one tag other).0 is))),
      k,
    )

pub returns-in_err-take : goal.returns-in_err-take
returns-in_err-take c =
    let fault = c.in_err-take.field-0.0 in let r = c.from_residual.result in
    let told : IfErr r (λ f. f ≡ fault) = search rules in
    let is = err_is r fault c.from_residual.ensures.0 told in
    let b = c.args.self.now in let at = sits c.requires c.index_mut.ensures.value in let old = c.index_mut.result.now in
    let new = c.take.new.hand in let i : ℕ = c.args.caller in let tag : ℕ = c.args.tag in
    let own = own_here b.queue at b.own in let counts = c.in_err-take.ensures.counts in
    let e = c.in_err-take.ensures.does in
    let now : State = state_of_all b.queue (set b.hands.items i new) in
    subst (λ (x : Result (Unit {0}) TagFault). Takes tag i (state_of b) x now) (sym is)
    (⊎_elim
    (λ none. subst (λ (f : TagFault). Takes tag i (state_of b) (Err f) now) (sym none.0)
    (e.no_such_tag.0 (ap Err none.0), unchanged b at new none.1 counts))
    (λ missed. subst (λ (f : TagFault). Takes tag i (state_of b) (Err f) now) (sym missed.0) (
      within_total (total_of (pool_of b.queue)) tag fault (λ high. let none = e.no_such_tag.1 high in cc) missed.0,
      effect_on b at new c.take.ensures.hand.0 (miss_does b.queue old new own tag missed.1 counts),
    )) e.refuses)
