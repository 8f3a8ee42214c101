-- The last caller lends its record first, and has it back last.
use Rattle.std.specs.Prelude.{◌++◌, ◌∷◌, ◌≡◌}
use Rattle.tag_core.proofs.Uses.{[], All, All-push, all_front, all_last, ap, AreSettled, AreUnchanged, Caller, get_elem?, HasAll, IsCallerOf, IsUnchanged, List, map, numbers, numbers_of, Record, record_of, Shape, subst, sym, taken_first, Totals, ℕ, ◌∙◌}
use Rattle.tag_core.proofs.Numbers.{numbers-records}
use Rattle.tag_core.proofs.Settlings.{unchanged-more, unchanged-records}
use Rattle.tag_core.proofs.settles.settle_all.Goals as goal

module _ {R : Type 0} (olds front news rest : List (Caller R)) (last back : Caller R) (rs : List (Record R))
    (taken : olds ≡ front ++ last ∷ []) (came : rs ≡ record_of last ∷ []) where
  -- these are all records
  all_records : map record_of olds ≡ map record_of front ++ rs
  all_records = sym (taken_first (record_of {R = R}) olds front last taken)
      ∙ ap (λ (z : List (Record R)). map record_of front ++ z) (sym came)

  -- so none is missing
  all_numbers : (count : ℕ) → HasAll (numbers_of olds) count → HasAll (numbers (map record_of front ++ rs)) count
  all_numbers count all = subst (λ (z : List ℕ). HasAll z count)
      (sym (numbers-records olds) ∙ ap (λ (z : List (Record R)). numbers z) all_records) all

  module _ (lender : Caller R) (is : lender ≡ last) (one : IsUnchanged lender back) (same : AreUnchanged front rest)
      (pushed : news ≡ rest ++ back ∷ []) where
    -- each is as it was
    all_same : AreUnchanged olds news
    all_same = subst (λ (z : List (Caller R) × List (Caller R)). AreUnchanged z.0 z.1)
        (λ j. (sym taken j, sym pushed j))
        (unchanged-more front rest last back same (subst (λ (z : Caller R). IsUnchanged z back) is one))

    -- and their records are those that one history showed
    all_settled : (k : Shape) (totals : Totals) → AreSettled k (map record_of front ++ rs) totals
        → AreSettled k (map record_of news) totals
    all_settled k totals = subst (λ (z : List (Record R)). AreSettled k z totals)
        (sym (unchanged-records olds news all_same ∙ all_records))

pub settle_rest-loans-requires-clause-own : goal.settle_rest-loans-requires-clause-own
settle_rest-loans-requires-clause-own g c = let P : Caller g.row.R.Denot → Type 0 = IsCallerOf c.args.tags.now in
    all_front P c.pop.new.self.items c.in-Some.last (subst (All P) c.in-Some.ensures.items c.requires.own)

pub settle_rest-loans-requires-clause-first : goal.settle_rest-loans-requires-clause-first
settle_rest-loans-requires-clause-first g c =
    let R = g.row.R.Denot in let P : Caller R → Type 0 = IsCallerOf c.args.tags.now in (
      record_of c.in-Some.last,
      ap (λ (z : List (Record R)). get_elem? z 0) c.start_lending-all.ensures.gathered,
      (all_last P c.pop.new.self.items c.in-Some.last (subst (All P) c.in-Some.ensures.items c.requires.own)).1,
    )

pub settle_rest-loans-requires-clause-every : goal.settle_rest-loans-requires-clause-every
settle_rest-loans-requires-clause-every g c =
    all_numbers c.args.callers.now.items c.pop.new.self.items [] [] c.in-Some.last c.in-Some.last _
    c.in-Some.ensures.items c.start_lending-all.ensures.gathered c.args.tags.now.shape.callers c.requires.every

pub give_back-last-requires-clause-caller : goal.give_back-last-requires-clause-caller
give_back-last-requires-clause-caller g c = let P : Caller g.row.R.Denot → Type 0 = IsCallerOf c.args.tags.now in
    subst P (sym c.start_lending-all.ensures.lender)
    (all_last P c.pop.new.self.items c.in-Some.last (subst (All P) c.in-Some.ensures.items c.requires.own))

pub returns-clause-own : goal.returns-clause-own
returns-clause-own g c =
    let R = g.row.R.Denot in let P : Caller R → Type 0 = IsCallerOf c.args.tags.now in
    subst (All P) (sym {A = List (Caller R)} c.push_reserved.ensures.items)
    (All-push P c.settle_rest-loans.new.callers.items c.give_back-last.result c.settle_rest-loans.ensures.own
    c.give_back-last.ensures.caller)

pub returns-clause-unchanged : goal.returns-clause-unchanged
returns-clause-unchanged g c =
    all_same c.args.callers.now.items c.pop.new.self.items c.push_reserved.new.self.items
    c.settle_rest-loans.new.callers.items
    c.in-Some.last c.give_back-last.result _ c.in-Some.ensures.items c.start_lending-all.ensures.gathered _
    c.start_lending-all.ensures.lender c.give_back-last.ensures.unchanged c.settle_rest-loans.ensures.unchanged
    c.push_reserved.ensures.items

pub returns-clause-settled : goal.returns-clause-settled
returns-clause-settled g c =
    all_settled c.args.callers.now.items c.pop.new.self.items c.push_reserved.new.self.items
    c.settle_rest-loans.new.callers.items
    c.in-Some.last c.give_back-last.result _ c.in-Some.ensures.items c.start_lending-all.ensures.gathered _
    c.start_lending-all.ensures.lender c.give_back-last.ensures.unchanged c.settle_rest-loans.ensures.unchanged
    c.push_reserved.ensures.items c.args.tags.now.shape c.settle_rest-loans.result.1 c.settle_rest-loans.ensures.settled
