-- Which tags the tests of a state name.
use Rattle.std.proofs.Common.{◌≡◌, ℕ, zero, suc, [], ◌∷◌, get_or, ◌-◌, ◌<◌, nat_eq, nat_le, true, List, length, Option, Some, None, sym, ap, ◌∙◌, arith, eq-eqb, eqb-true}
use Rattle.tag_board.proofs.Uses.{and_parts, and_from, or_left, or_right, le-leb, leb-true, bit_at, list_any, is_answer, is_in_run, is_in_list}
use Rattle.std.proofs.lemmas.Map.Views.{Contains-from_any}
use Rattle.std.specs.Prelude.{Contains}
use Rattle.tag_pool.specs.Gets as gets
use Rattle.tag_board.proofs.Holdings.{Names}

-- the test for equality with a tag names exactly that tag
pub names_one : (tag : ℕ) → Names (nat_eq tag) (λ other. other ≡ tag)
names_one tag other = (λ e. sym (eqb-true tag other e), λ e. eq-eqb tag other (sym e))

pub names_answer : (answer : Option ℕ) → Names (is_answer answer) (gets.IsAnswer answer)
names_answer None tag = (λ e. absurd cc, λ n. absurd n)
names_answer (Some answer) tag = (λ e. eqb-true tag answer e, λ e. eq-eqb tag answer e)

pub names_run : (answer : Option (ℕ × ℕ)) → Names (is_in_run answer) (gets.IsInRun answer)
names_run None tag = (λ e. absurd cc, λ n. absurd n)
names_run (Some run) tag = (
  (λ e. let both = and_parts (nat_le run.0 tag) (nat_eq (bit_at run.1 (tag - run.0)) 1) e in
      let le = leb-true run.0 tag both.0 in
      (tag - run.0, omega arith, eqb-true (bit_at run.1 (tag - run.0)) 1 both.1)),
  (λ n. let e = n.1 in let less : tag - run.0 ≡ n.0 = omega arith in
      and_from (nat_le run.0 tag) (nat_eq (bit_at run.1 (tag - run.0)) 1) (le-leb run.0 tag (omega arith))
      (eq-eqb (bit_at run.1 (tag - run.0)) 1 (ap (bit_at run.1) less ∙ n.2))),
)

pub names_list : (tags : List ℕ) → Names (is_in_list tags) (Contains tags)
names_list tags tag = (λ e. Contains-from_any eqb-true tag tags e, λ c. found tags c.0 c.1 c.2)
  where
    found : (xs : List ℕ) (k : ℕ) → k < length xs → get_or xs k tag ≡ tag → list_any (nat_eq tag) xs ≡ true
    found [] k low e = absurd (omega arith)
    found (x ∷ xs) zero low e = or_left (nat_eq tag x) (list_any (nat_eq tag) xs) (eq-eqb tag x (sym e))
    found (x ∷ xs) (suc k) low e = or_right (nat_eq tag x) (list_any (nat_eq tag) xs) (found xs k (omega arith) e)
