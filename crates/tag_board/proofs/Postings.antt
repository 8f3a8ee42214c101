-- Why a take is refused.
use Rattle.std.proofs.Common.{◌≡◌, ℕ, ◌<◌, ◌≤◌, ⊎_elim, Result, Ok, Err, IfErr, IsErr, ap}
use Rattle.tag_board.proofs.Uses.{cases_lt, TagFault, NoSuchTag, NotPosted}

-- a tag that is not posted is in range, since the fault of any other is another one
pub within_total : (total tag : ℕ) (fault : TagFault) → (total ≤ tag → fault ≡ NoSuchTag) → fault ≡ NotPosted
    → tag < total
within_total total tag fault past posted = ⊎_elim (λ (low : tag < total). low)
    (λ (high : total ≤ tag). let none = past high in absurd (cc)) (cases_lt tag total)

-- a result that is this fault
pub err_is : {A : Type 0} (r : Result A TagFault) (fault : TagFault) → IsErr r → IfErr r (λ f. f ≡ fault) → r ≡ Err fault
err_is (Ok a) fault bad told = absurd (cc)
err_is (Err f) fault bad told = ap Err told
