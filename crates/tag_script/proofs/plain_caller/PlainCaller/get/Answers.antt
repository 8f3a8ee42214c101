-- The port makes the choice and moves the hint, and the count of tags won grows by that of the answer.
use Rattle.std.proofs.Common.{ℕ, ◌+◌, refl, ap}
use Rattle.tag_script.proofs.plain_caller.PlainCaller.get.Goals as goal

pub returns : goal.returns
returns c = record {
  layout = c.choose-answer.ensures.layout;
  least = refl;
  choice = c.choose-answer.ensures.choice;
  hint = c.choose-answer.ensures.hint;
  won = ap (λ (n : ℕ). c.args.self.now.won + n) c.won_by.ensures.value;
  back = refl;
}
