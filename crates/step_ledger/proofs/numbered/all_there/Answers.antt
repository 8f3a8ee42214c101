-- The numbers were looked for in a slice of all members.
use Rattle.step_ledger.proofs.Uses.{HasAll, IsLeastMissing, List, map, refl, subst}
use Rattle.std.proofs.lemmas.Bool.{false≢true}
use Rattle.step_ledger.proofs.numbered.all_there.Given as given
use Rattle.step_ledger.proofs.numbered.all_there.Goals.{In-Some}
use Rattle.step_ledger.proofs.numbered.all_there.Goals as goal

least : (g : given.Over) (c : In-Some g)
    → IsLeastMissing (map g.M.Numbered.number_of c.args.members.now.items) c.args.count c.in-Some.number
least g c = subst (λ (ms : List _). IsLeastMissing (map g.M.Numbered.number_of ms) c.args.count c.in-Some.number)
    c.as_slice.ensures.value c.in-Some.ensures

pub returns-in-None-clause-succeeds : goal.returns-in-None-clause-succeeds
returns-in-None-clause-succeeds g c = (
  λ t. subst (λ (ms : List _). HasAll (map g.M.Numbered.number_of ms) c.args.count)
      c.as_slice.ensures.value c.in-None.ensures,
  λ all. refl,
)

pub returns-in-Some-clause-succeeds : goal.returns-in-Some-clause-succeeds
returns-in-Some-clause-succeeds g c = let m = least g c in
    (λ t. absurd (false≢true t), λ all. absurd (m.1 (all c.in-Some.number m.0)))

pub returns-in-Some-clause-missing : goal.returns-in-Some-clause-missing
returns-in-Some-clause-missing g c = (c.in-Some.number, refl, least g c)
