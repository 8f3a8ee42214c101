-- The least depth is tested before the port makes its choice, and the count grows by that of the answer.
use Rattle.std.proofs.Common.{ℕ, ◌+◌, refl, ap, arith}
use Rattle.tag_script.specs.PlainWorld.{too_shallow, deep_enough}
use Rattle.tag_script.proofs.plain_caller.PlainCaller.get_shallow.Goals as goal

pub returns-then-depth-self : goal.returns-then-depth-self
returns-then-depth-self c = too_shallow (omega arith)

pub returns : goal.returns
returns c = deep_enough c.choose_shallow-answer.result _ (omega arith) (record {
  layout = c.choose_shallow-answer.ensures.layout;
  least = refl;
  choice = c.choose_shallow-answer.ensures.choice;
  hint = c.choose_shallow-answer.ensures.hint;
  won = ap (λ (n : ℕ). c.args.self.now.won + n) c.won_by.ensures.value;
  back = refl;
})
