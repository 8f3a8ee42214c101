-- The next place is in the first part or, if that has none, in the second, and all places before it are taken.
use Rattle.std.specs.Prelude.{◌++◌, ◌+◌, ◌∷◌, ◌≡◌}
use Rattle.tag_search.proofs.Uses.{[], All-append, ap, append-nil, append_assoc, bit_at, List, numbers, sym, ℕ, ◌∙◌}
use Rattle.tag_search.proofs.Orders.{numbers-at, all_numbers}
use Rattle.tag_search.proofs.rank.Rank.next.Goals as goal

pub returns-in-Some-clause-next : goal.returns-in-Some-clause-next
returns-in-Some-clause-next c =
    let r = c.args.self.now in let p = c.in-Some.place in let is = c.in-Some.ensures in
    record {
      before = numbers r.from p;
      order = ap (λ (xs : List ℕ). xs ++ numbers 0 r.then) (numbers-at r.from p r.limit is.behind is.within)
          ∙ append_assoc (numbers r.from p) (p ∷ numbers (p + 1) r.limit) (numbers 0 r.then);
      taken = all_numbers (λ k. bit_at c.args.taken k ≡ 1) r.from p is.first;
      clear = is.clear;
    }

pub returns-in_err-place-clause-next : goal.returns-in_err-place-clause-next
returns-in_err-place-clause-next c =
    let r = c.args.self.now in let Taken : ℕ → Type 0 = λ k. bit_at c.args.taken k ≡ 1 in
    rw c.from_residual.ensures (All-append Taken (numbers r.from r.limit) (numbers 0 r.then)
    (all_numbers Taken r.from r.limit c.in_default.ensures) (all_numbers Taken 0 r.then c.in_err-place.ensures))

pub returns-clause-next : goal.returns-clause-next
returns-clause-next c =
    let r = c.args.self.now in let p = c.in_ok-place.place in let is = c.in_ok-place.ensures in
    let Taken : ℕ → Type 0 = λ k. bit_at c.args.taken k ≡ 1 in
    let front = numbers r.from r.limit in let back = numbers (p + 1) r.then in
    let split : numbers 0 r.then ≡ numbers 0 p ++ p ∷ back = numbers-at 0 p r.then is.behind is.within in
    record {
      before = front ++ numbers 0 p;
      order =
          ap (λ (xs : List ℕ). front ++ xs)
          (split ∙ ap (λ (xs : List ℕ). numbers 0 p ++ p ∷ xs) (sym (append-nil back)))
          ∙ sym (append_assoc front (numbers 0 p) (p ∷ (back ++ [])));
      taken = All-append Taken front (numbers 0 p) (all_numbers Taken r.from r.limit c.in_default.ensures)
          (all_numbers Taken 0 p is.first);
      clear = is.clear;
    }
