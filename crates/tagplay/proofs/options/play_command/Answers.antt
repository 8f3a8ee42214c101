-- The options are added one at a time.
use Rattle.std.proofs.Common.{◌∙◌, ap, refl}
use Rattle.clap.specs.Words.{App, rule_of}
use Rattle.clap.specs.declared.builder.arg.Arg.{Arg}
use Rattle.tagplay.proofs.Building.{adds, begins, sets}
use Rattle.tagplay.proofs.options.play_command.Goals as goal

pub returns : goal.returns
returns c =
    let new = begins c.new.result _ c.new.ensures.app c.new.ensures.local in
    let about = sets (λ a. a) c.new.result c.about.result _ _ new c.about.ensures refl refl in
    let tags = adds _ _ _ _ _ about c.in_ok-arg.ensures c.tags.ensures.rule c.tags.ensures.local in
    let reserved = adds _ _ _ _ _ tags c.in_ok-arg-2.ensures (ap rule_of c.help.ensures ∙ c.count.ensures.rule)
    (ap (λ (a : Arg). a.global) c.help.ensures ∙ c.count.ensures.local) in
    let shift = adds _ _ _ _ _ reserved c.in_ok-arg-3.ensures c.shift.ensures.rule c.shift.ensures.local in
    let submitters = adds _ _ _ _ _ shift c.in_ok-arg-4.ensures (ap rule_of c.help-2.ensures ∙ c.count-2.ensures.rule)
    (ap (λ (a : Arg). a.global) c.help-2.ensures ∙ c.count-2.ensures.local) in
    let completers =
    adds _ _ _ _ _ submitters c.in_ok-arg-5.ensures (ap rule_of c.help-3.ensures ∙ c.count-3.ensures.rule)
    (ap (λ (a : Arg). a.global) c.help-3.ensures ∙ c.count-3.ensures.local) in
    let queue = adds _ _ _ _ _ completers c.in_ok-arg-6.ensures (ap rule_of c.help-4.ensures ∙ c.count-4.ensures.rule)
    (ap (λ (a : Arg). a.global) c.help-4.ensures ∙ c.count-4.ensures.local) in
    let times = adds _ _ _ _ _ queue c.in_ok-arg-7.ensures c.with_times.ensures.rule c.with_times.ensures.local in
    let all =
    sets (λ a. a) c.in_ok-arg-7.field-0 c.after_help-play.result _ _ times c.after_help-play.ensures refl refl in
    record { shape = ap (λ (a : App). a.top) all.is; local = all.local }
