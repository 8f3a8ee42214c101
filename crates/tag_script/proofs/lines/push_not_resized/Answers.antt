-- The number of the cause, its own numbers and the line feed are appended in this order.
use Rattle.tag_script.proofs.Uses.{ap, codes, field, hindrance_text, List, ℕ, ◌∙◌}
use Rattle.std.proofs.Common.{◌≡◌, ◌++◌}
use Rattle.std.proofs.lemmas.Result.{on_ok_weaker}
use Rattle.tag_script.specs.Faults.{number_of_resize_cause}
use Rattle.tag_script.proofs.TextFacts.{after}
use Rattle.tag_script.proofs.lines.push_not_resized.Goals as goal

pub returns : goal.returns
returns c =
    let t : List ℕ = c.args.text.now.items in
    let first : List ℕ = field (codes "resize refused ") (number_of_resize_cause c.args.cause) in
    let second : List ℕ = hindrance_text c.args.cause in
    let head : c.push_field.new.text.items ≡ t ++ first =
    c.in_ok-push_field.ensures.ok ∙ ap (λ (n : ℕ). t ++ field (codes "resize refused ") n) c.number_of_cause.ensures in
    let two = after t c.push_field.new.text.items c.push_hindrance.new.text.items first second head
    c.in_ok-push_hindrance.ensures.ok in
    record {
      ok = on_ok_weaker c.end_line.result
          (after t c.push_hindrance.new.text.items c.end_line.new.text.items (first ++ second) (codes "\n") two) c.end_line.ensures.ok;
    }
