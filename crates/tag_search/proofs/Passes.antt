-- What is left of a pass after the first clear place of its rank.
use Rattle.std.specs.Prelude.{◌++◌, ◌+◌, ◌<◌, ◌∷◌, ◌≡◌}
use Rattle.tag_search.proofs.Uses.{[], All, All-head, All-tail, AllTaken, ap, arith, IsFirstInRank, IsPass, length, length-append, List, Look, None, none_left, Option, pass, subst, suc, sym, WordStep, ℕ, ◌∙◌}

-- a fact of each element holds of one in the middle, and of those after it
pub all_behind : {X : Type 0} (P : X → Type 0) (xs : List X) (y : X) (ys : List X) → All P (xs ++ y ∷ ys) → P y
    × All P ys
all_behind P [] y ys h = (All-head P y ys h, All-tail P y ys h)
all_behind P (x ∷ xs) y ys h = all_behind P xs y ys (All-tail P x (xs ++ y ∷ ys) h)

-- fewer places are left after the first clear one
pub fewer_left : (found : ℕ) (left behind : List ℕ) (place : ℕ) → IsFirstInRank found left place behind
    → length behind < length left
fewer_left found left behind place first =
    let e : length left ≡ length first.before + suc (length behind) = ap length first.order
    ∙ length-append first.before (place ∷ behind) in omega arith

-- a fact of each place left holds of the first clear one, and of those after it
pub all_left : (P : ℕ → Type 0) (found : ℕ) (left behind : List ℕ) (place : ℕ) → IsFirstInRank found left place behind
    → All P left → P place × All P behind
all_left P found left behind place first h = all_behind P first.before place behind (subst (All P) first.order h)

-- a load that found every place of the rank taken is the whole pass
pub full_pass : (i : ℕ) (rank : List ℕ) (found : ℕ) → AllTaken found rank → (rest : List WordStep)
    (answer : Option ℕ) → (rest ≡ []) × (answer ≡ None) → IsPass i rank (Look i found ∷ rest) answer
full_pass i rank found taken rest answer none =
    subst (λ (x : List WordStep). IsPass i rank (Look i found ∷ x) answer) (sym none.0)
    (subst (λ (a : Option ℕ). IsPass i rank (Look i found ∷ []) a) (sym none.1) (pass (none_left taken)))
