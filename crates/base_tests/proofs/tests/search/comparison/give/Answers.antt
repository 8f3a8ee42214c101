-- The mask keeps only bits that are set and not aside, so its tags are taken.
use Rattle.std.proofs.Common.{◌≡◌, ◌^◌, ◌<◌, get_or, arith, sym, ap, ◌∙◌, subst}
use Rattle.tag_search.specs.Plain.{Plain}
use Rattle.tag_search.specs.Writes.{IsTidy}
use Rattle.tag_search.proofs.TakenPlaces.{held_within, held_taken}
use Rattle.base_tests.proofs.tests.search.comparison.give.Goals as goal

pub give-requires-clause-mask : goal.give-requires-clause-mask
give-requires-clause-mask c =
    let same : c.look_aside.new.self ≡ c.look.new.self = c.look_aside.ensures.same in
    let tidy : IsTidy c.look_aside.new.self = subst IsTidy (sym same) c.look_aside.ensures.tidy in
    let fits : c.look.result < 2 ^ 64 = omega arith in let fits' : c.look_aside.result < 2 ^ 64 = omega arith in
    held_within c.look_aside.new.self c.args.word c.look.result c.look_aside.result c.args.mask tidy fits fits'
    (c.look.ensures.value ∙ sym (ap (λ (x : Plain). get_or x.word c.args.word 0) (same ∙ c.look.ensures.same)))

pub give-requires-clause-taken : goal.give-requires-clause-taken
give-requires-clause-taken c place one =
    let same : c.look_aside.new.self ≡ c.look.new.self = c.look_aside.ensures.same in
    let fits : c.look.result < 2 ^ 64 = omega arith in let fits' : c.look_aside.result < 2 ^ 64 = omega arith in
    held_taken c.look_aside.new.self c.args.word c.look.result c.look_aside.result c.args.mask place fits fits'
    (c.look.ensures.value ∙ sym (ap (λ (x : Plain). get_or x.word c.args.word 0) (same ∙ c.look.ensures.same)))
    (c.look_aside.ensures.value ∙ sym (ap (λ (x : Plain). get_or x.aside c.args.word 0) same)) one
