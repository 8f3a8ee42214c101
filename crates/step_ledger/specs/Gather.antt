-- Who is there when members come together, who is missing, and why a gather is refused.
use Rattle.std.specs.Prelude.{◌≡◌, ℕ, ◌<◌, List, [], ◌∷◌, ◌++◌, length}
use mathlib.Core.Option.{some}
use lib.ListN.{get_elem?}
use Rattle.step_ledger.specs.declared.numbered.GatherCause.{GatherCause}
use Rattle.step_ledger.specs.declared.numbered.GatherCause.TheVariants.{Missing}

-- the number is in the list
abbrev pub Has : List ℕ → ℕ → Type 0
Has ns n = (i : ℕ) × (get_elem? ns i ≡ some n)

-- each number below n is in the list
abbrev pub HasAll : List ℕ → ℕ → Type 0
HasAll ns n = (c : ℕ) → c < n → Has ns c

-- the least number below n that isn't in the list
abbrev pub IsLeastMissing : List ℕ → ℕ → ℕ → Type 0
IsLeastMissing ns n c = (c < n) × ¬ Has ns c × HasAll ns c

-- the cause names the least number below the count that isn't among these
abbrev pub IsCauseOf : List ℕ → ℕ → GatherCause → Type 0
IsCauseOf numbers count cause = (number : ℕ) × (cause ≡ Missing number) × IsLeastMissing numbers count number

-- there are n members, and each stands in the list at its number
abbrev pub AreNumbered : {A : Type 0} → (ℕ → A → Type 0) → ℕ → List A → Type 0
AreNumbered {A} IsNumber n members = (length members ≡ n)
    × ((number : ℕ) (member : A) → get_elem? members number ≡ some member → IsNumber number member)

-- the list in reverse order
abbrev pub turned : {A : Type 0} → List A → List A
turned [] = []
turned (x ∷ xs) = turned xs ++ x ∷ []
