-- Both looks find the spots of the word shut, if it has no 0 and its cleared set is empty; else one of them found a tag free.
use Rattle.std.specs.Prelude.{◌+◌, ◌<◌, ◌^◌, ◌≡◌}
use Rattle.tag_bell.proofs.Uses.{ap, arith, Layout, Shape, subst, sym, word_depth, ◌∙◌}
use Rattle.tag_bell.proofs.ListBits.{bit_and-common, bit_missing}
use Rattle.tag_bell.proofs.Rung.{seen_both, seen_looks, seen_shut}
use Rattle.tag_bell.proofs.Seeing.{saw_aside, saw_word}
use Rattle.tag_bell.proofs.settling.has_free.Goals as goal

pub returns-then-aside-usable-ne0-clause-looks : goal.returns-then-aside-usable-ne0-clause-looks
returns-then-aside-usable-ne0-clause-looks g c =
    let old = c.args.caller.now in let new = c.look_aside-aside.new.caller in
    let i = c.args.word in let taken = c.look-taken.result in let aside = c.look_aside-aside.result in
    seen_looks i taken aside old new (seen_both i taken aside old c.look-taken.new.caller new c.look-taken.ensures.step
    c.look_aside-aside.ensures.step)

pub returns-then-taken-usable-clause-looks : goal.returns-then-taken-usable-clause-looks
returns-then-taken-usable-clause-looks g c =
    let old = c.args.caller.now in let new = c.look_aside-aside.new.caller in
    let i = c.args.word in let taken = c.look-taken.result in let aside = c.look_aside-aside.result in
    seen_looks i taken aside old new (seen_both i taken aside old c.look-taken.new.caller new c.look-taken.ensures.step
    c.look_aside-aside.ensures.step)

pub returns-clause-shut : goal.returns-clause-shut
returns-clause-shut g c is kind =
    let old = c.args.caller.now in let new = c.look_aside-aside.new.caller in let usable = c.usable-usable.result in
    let i = c.args.word in let taken = c.look-taken.result in let aside = c.look_aside-aside.result in
    let wide : usable + 1 ≡ 2 ^ word_depth old.shape.value.layout i = c.usable-usable.ensures.value
    ∙ ap (λ (l : Layout). 2 ^ word_depth l i) (c.layout.ensures ∙ sym (ap (λ (k : Shape). k.layout) c.requires.caller.1)) in
    seen_shut kind i taken aside usable old new (seen_both i taken aside old c.look-taken.new.caller new
    c.look-taken.ensures.step c.look_aside-aside.ensures.step) wide c.if-taken-usable.false c.if-aside-usable-ne0.false

pub returns-clause-looks : goal.returns-clause-looks
returns-clause-looks g c =
    let old = c.args.caller.now in let new = c.look_aside-aside.new.caller in
    let i = c.args.word in let taken = c.look-taken.result in let aside = c.look_aside-aside.result in
    seen_looks i taken aside old new (seen_both i taken aside old c.look-taken.new.caller new c.look-taken.ensures.step
    c.look_aside-aside.ensures.step)

pub returns-then-aside-usable-ne0-clause-free : goal.returns-then-aside-usable-ne0-clause-free
returns-then-aside-usable-ne0-clause-free g c is =
    let old = c.args.caller.now in let new = c.look_aside-aside.new.caller in let usable = c.usable-usable.result in
    let i = c.args.word in let taken = c.look-taken.result in let aside = c.look_aside-aside.result in
    let bit = bit_and-common aside usable c.if-aside-usable-ne0.true in
    let low : bit.0 < word_depth old.shape.value.layout i = subst (λ (l : Layout). bit.0 < word_depth l i)
    (c.layout.ensures ∙ sym (ap (λ (k : Shape). k.layout) c.requires.caller.1))
    ((c.usable-usable.ensures.bits bit.0).0 bit.2) in
    saw_aside i taken aside bit.0 old new (seen_both i taken aside old c.look-taken.new.caller new
    c.look-taken.ensures.step c.look_aside-aside.ensures.step) low bit.1

pub returns-then-taken-usable-clause-free : goal.returns-then-taken-usable-clause-free
returns-then-taken-usable-clause-free g c is =
    let old = c.args.caller.now in let new = c.look_aside-aside.new.caller in let usable = c.usable-usable.result in
    let i = c.args.word in let taken = c.look-taken.result in let aside = c.look_aside-aside.result in
    let bit = bit_missing taken usable (omega arith) (omega arith) c.if-taken-usable.true in
    let low : bit.0 < word_depth old.shape.value.layout i = subst (λ (l : Layout). bit.0 < word_depth l i)
    (c.layout.ensures ∙ sym (ap (λ (k : Shape). k.layout) c.requires.caller.1))
    ((c.usable-usable.ensures.bits bit.0).0 bit.2) in
    saw_word i taken aside bit.0 old new (seen_both i taken aside old c.look-taken.new.caller new
    c.look-taken.ensures.step c.look_aside-aside.ensures.step) low bit.1
