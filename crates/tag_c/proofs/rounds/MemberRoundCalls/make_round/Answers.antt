-- The hand makes the round, and its number fits into 32 bits.
use Rattle.std.specs.Prelude.{◌≡◌}
use Rattle.tag_c.proofs.Uses.{ap, Bare, Bool, refl, subst, sym, w32, ℤ, ◌∙◌}
use Rattle.tag_bell.specs.declared.told.Told.{Told}
use Rattle.tag_c.specs.Bell.{told_of}
use Rattle.tag_c.specs.Rounds.{code_of_round, DoesRound, DoesRoundOf, is_over}
use Rattle.std.proofs.lemmas.Int.{to_z-of_z}
use Rattle.tag_c.proofs.Calling.{as_stored, through}
use Rattle.tag_c.proofs.Going.{round_fits}
use Rattle.tag_c.proofs.rounds.MemberRoundCalls.make_round.Goals as goal

pub round_code-requires : goal.round_code-requires
round_code-requires c = let round = c.make_round-answer in
    round_fits c.deref.result.now.tags c.args.kind c.args.waiter c.args.turn c.is_over.result round.result.1
    round.result.0 c.args.self.now.hand round.new.hand round.ensures.makes

pub returns : goal.returns
returns c = let round = c.make_round-answer in let why = c.args.why in let old = c.args.self.now.hand in
    let kind = c.args.kind in let waiter = c.args.waiter in let turn = c.args.turn in
    let tags = c.deref.result.now.tags in let answer = round.result.0 in
    let same : as_stored why ≡ why = to_z-of_z w32 why c.ranges.why in (
      refl,
      through (DoesRound kind waiter turn (is_over why) (told_of c.of.result)) (code_of_round why)
          {old = Bare old} {new = Bare round.new.hand} {answer = answer}
          (c.round_code.ensures ∙ ap (λ (w : ℤ). code_of_round w answer) same) c.round_code.type_inv c.deref.ensures
          (subst (λ (t : Told). DoesRoundOf kind waiter turn (is_over why) t tags answer old round.new.hand)
          (sym c.of.ensures)
          (subst (λ (b : Bool). DoesRoundOf kind waiter turn b round.result.1 tags answer old round.new.hand)
          (c.is_over.ensures ∙ ap (λ (w : ℤ). is_over w) same)
          (record { refusals = round.ensures.refusals; makes = round.ensures.makes }))),
    )
