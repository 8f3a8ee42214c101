-- What holds of all in a list holds of the last one, and of all before it.
use Rattle.std.proofs.Common.{[], All, arith, List, subst, ◌++◌, ◌∷◌, ◌≡◌}
use Rattle.std.proofs.lemmas.List.Elements.{All-cons, All-tail}

parts : {X : Type 0} (P : X → Type 0) (xs : List X) (x : X) → All P (xs ++ x ∷ []) → P x × All P xs
parts P [] x h = (h 0 x (omega arith), λ k d low. absurd (omega arith))
parts P (y ∷ ys) x h = let rest = parts P ys x (All-tail P y (ys ++ x ∷ []) h) in
    (rest.0, All-cons P y ys (h 0 y (omega arith)) rest.1)

pub last_one : {X : Type 0} (P : X → Type 0) (all xs : List X) (x : X) → all ≡ xs ++ x ∷ [] → All P all → P x × All P xs
last_one P all xs x is h = parts P xs x (subst (All P) is h)
