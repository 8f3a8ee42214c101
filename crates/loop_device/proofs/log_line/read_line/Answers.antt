-- What follows an action is a range.
use Rattle.loop_device.proofs.Uses.{ap, arith, common_steps, entry_of, index_of, line_words, names_of, parts_of, range_action, range_words, rules, sym, ◌∙◌}
use Rattle.std.proofs.Common.{◌≡◌, ◌∷◌}
use Rattle.loop_device.proofs.LogWords.{is_told, range_said}
use Rattle.loop_device.proofs.log_line.read_line.Goals as goal

pub returns-in-Some-rest-clause-err : goal.returns-in-Some-rest-clause-err
returns-in-Some-rest-clause-err c =
    let names = names_of c.args.names.now.items in let range = c.in-Some-rest.range.now in
    let name = c.cut_word.result.0.now in let action = c.cut_word-2.result.0.now in
    let words : line_words c.args.line.now ≡ name ∷ action ∷ parts_of range = grind (arith, common_steps) in
    let same : c.deref.result.now ≡ c.args.names.now.items = search rules in
    is_told _ c.range_line.result (c.range_line.ensures.said
    ∙ ap (λ n. range_words c.args.number (range_action action) (parts_of range) (index_of (names_of n) name)) same
    ∙ sym (ap (entry_of names c.args.number) words ∙ range_said names c.args.number name action range))
