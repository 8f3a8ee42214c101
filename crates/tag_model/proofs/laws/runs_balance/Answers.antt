-- An opened world balances, and each event keeps the balance.
use Rattle.tag_model.specs.World.{opened}
use Rattle.tag_model.proofs.BalanceFacts.{balances-opened, balances-run}
use Rattle.tag_model.proofs.laws.runs_balance.Goals as goal

pub returns : goal.returns
returns c l callers events may = balances-run l callers events opened may (balances-opened l callers)
