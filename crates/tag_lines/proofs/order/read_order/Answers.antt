-- What follows the name of a list are its tags, and what follows one argument is too much.
use Rattle.std.proofs.Common.{◌≡◌, ◌^◌, true, false, List, ℕ, ◌∷◌, sym, ap, ◌∙◌, rules, arith}
use Rattle.std.specs.Prelude.{codes}
use Rattle.std.specs.Str.{bytes_eq}
use Rattle.std.proofs.lemmas.Grind.{common_steps}
use Rattle.tag_lines.specs.declared.dialect.Dialect.{Dialect}
use Rattle.tag_lines.specs.declared.tag_list.TheConstants.{FIRST}
use Rattle.tag_lines.specs.Lines.{parts_of, line_words, number_below, numbers_below}
use Rattle.tag_lines.specs.ScriptLines.{order_of, listed_line, unknown}
use Rattle.tag_lines.proofs.LineFacts.{first_part}
use Rattle.tag_lines.proofs.order.read_order.Goals as goal

module _ (dialect : Dialect) (callers : ℕ) (a b text : List ℕ) where
  -- a list of tags
  listed : bytes_eq b (codes "clear-batch") ≡ true → order_of dialect callers (a ∷ b ∷ parts_of text)
      ≡ listed_line callers (number_below (2 ^ 32) a) (numbers_below (2 ^ 32) FIRST (parts_of text))
  listed is = rw (first_part text, is)

  -- more than one argument of a name that takes no list
  longer : (d : List ℕ) → bytes_eq b (codes "clear-batch") ≡ false
      → order_of dialect callers (a ∷ b ∷ d ∷ parts_of text) ≡ unknown
  longer d is = rw (first_part text, is)

pub returns-then-eq : goal.returns-then-eq
returns-then-eq c =
    let caller = c.cut_word.result.0.now in let name = c.cut_word-2.result.0.now in
    let rest = c.in-Some-rest.words.now in
    let words : line_words c.args.line.now ≡ caller ∷ name ∷ parts_of rest = grind (arith, common_steps) in
    c.listed_order.ensures ∙ ap (listed_line c.args.callers (number_below (2 ^ 32) caller)) c.in_ok-tags.ensures
    ∙ sym (ap (order_of c.args.dialect c.args.callers) words
    ∙ listed c.args.dialect c.args.callers caller name rest (search rules))

pub returns-in-Some-more : goal.returns-in-Some-more
returns-in-Some-more c =
    let caller = c.cut_word.result.0.now in let name = c.cut_word-2.result.0.now in
    let word = c.cut_word-3.result.0.now in let rest = c.in-Some-more.field-0.now in
    let words : line_words c.args.line.now ≡ caller ∷ name ∷ word ∷ parts_of rest = grind (arith, common_steps) in
    sym (ap (order_of c.args.dialect c.args.callers) words
    ∙ longer c.args.dialect c.args.callers caller name rest word (search rules))
