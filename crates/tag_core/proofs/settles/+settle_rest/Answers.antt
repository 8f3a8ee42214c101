-- The last caller's record comes before those gathered; on the way back it is the latest again.
use Rattle.std.specs.Prelude.{◌++◌, ◌≡◌}
use Rattle.tag_core.proofs.Uses.{[], All, All-push, all_front, all_last, ap, AreUnchanged, Caller, gathered, get_elem?, HasAll, IsCallerOf, IsUnchanged, List, map, numbers, Record, record_of, rules, subst, sym, ◌∙◌}
use Rattle.tag_core.proofs.Settlings.{unchanged-more, last_before}
use Rattle.tag_core.proofs.settles.+settle_rest.Goals as goal

pub settle-requires-clause-all : goal.settle-requires-clause-all
settle-requires-clause-all g t c =
    let R = g.row.R.Denot in let m = c.args.tags.now in let rs : List (Record R) = gathered c.args.all in
    let none : c.args.callers.now.items ≡ [] = search rules in
    subst (λ (z : List (Caller R)). HasAll (numbers (map record_of z ++ rs)) m.shape.callers) none c.requires.every

pub settle_rest-loans-requires : goal.settle_rest-loans-requires
settle_rest-loans-requires g t c κs within =
    let R = g.row.R.Denot in let m = c.args.tags.now in let P : Caller R → Type 0 = IsCallerOf m in
    let front : List (Caller R) = c.pop.new.self.items in let last = c.in-Some.last in
    let rs : List (Record R) = gathered c.args.all in let came = c.lend-lender.ensures.gathered in
    let own = subst (All P) c.in-Some.ensures.items c.requires.own in (
      search rules,
      (
        within,
        (
          all_front P front last own,
          (
            c.lend-lender.ensures.map,
            (
              (record_of last, ap (λ (z : List (Record R)). get_elem? z 0) came, (all_last P front last own).1),
              subst (λ (z : List (Record R)). HasAll (numbers z) m.shape.callers)
                  (ap (λ (z : List (Caller R)). map record_of z ++ rs) c.in-Some.ensures.items
                  ∙ last_before front last rs
                  ∙ ap (λ (z : List (Record R)). map record_of front ++ z) (sym came)) c.requires.every,
            ),
          ),
        ),
      ),
    )

pub give_back-last-requires-clause-caller : goal.give_back-last-requires-clause-caller
give_back-last-requires-clause-caller g t c =
    let R = g.row.R.Denot in let P : Caller R → Type 0 = IsCallerOf c.args.tags.now in
    subst P (sym c.lend-lender.ensures.lender)
    (all_last P c.pop.new.self.items c.in-Some.last (subst (All P) c.in-Some.ensures.items c.requires.own))

pub returns-clause-own : goal.returns-clause-own
returns-clause-own g t c =
    let R = g.row.R.Denot in let P : Caller R → Type 0 = IsCallerOf c.args.tags.now in
    subst (All P) (sym {A = List (Caller R)} c.push_reserved.ensures.items)
    (All-push P c.settle_rest-loans.new.callers.items c.give_back-last.result c.settle_rest-loans.ensures.own
    c.give_back-last.ensures.caller)

pub returns-clause-unchanged : goal.returns-clause-unchanged
returns-clause-unchanged g t c =
    let R = g.row.R.Denot in let last = c.in-Some.last in
    subst (λ (z : List (Caller R) × List (Caller R)). AreUnchanged z.0 z.1)
    (λ j. (sym c.in-Some.ensures.items j, sym c.push_reserved.ensures.items j))
    (unchanged-more c.pop.new.self.items c.settle_rest-loans.new.callers.items last c.give_back-last.result
    c.settle_rest-loans.ensures.unchanged
    (subst (λ (z : Caller R). IsUnchanged z c.give_back-last.result) c.lend-lender.ensures.lender
    c.give_back-last.ensures.unchanged))
