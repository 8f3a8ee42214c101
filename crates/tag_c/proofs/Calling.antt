-- The number of an answer is returned in 32 bits, and the caller changed as the answer says.
use Rattle.std.specs.Prelude.{◌<◌, ◌≡◌}
use Rattle.tag_c.proofs.Uses.{code_of_done, Err, Holder, mag, of_z, Ok, Pool, PoolState, refl, Result, subst, TagFault, Through, to_z, w32, ℕ, ℤ, ◌∙◌}
use Rattle.tag_c.specs.Codes.{counted}
use Rattle.std.proofs.lemmas.Int.{to_z-of_z}

-- a number as it is stored in 32 bits
abbrev pub as_stored : ℤ → ℤ
as_stored code = to_z w32 (of_z w32 code)

-- a number below 2^31 in magnitude keeps its value when it is stored
pub stored : (code : ℤ) → mag code < 2147483648 → as_stored code ≡ code
stored code small = to_z-of_z w32 code record { sfits = small }

-- an answer of the pool's tags has this number, and the caller changed as the contract says for that answer
pub through : {A : Type 0} (does : Pool ℕ → A → Holder → Holder → Type 0) (number : A → ℤ) {code : ℤ}
    {state shared : PoolState} {old new : Holder} {answer : A}
    → code ≡ number answer → mag code < 2147483648 → shared ≡ state → does shared.tags answer old new
    → Through does number (as_stored code) state.tags old new
through does number {code} {state} {shared} {old} {new} {answer} is small at did =
    (answer, stored code small ∙ is, subst (λ (s : PoolState). does s.tags answer old new) at did)

-- an answer has the same number whatever it counts
pub done_code : {A : Type 0} (n : ℕ) (answer : Result A TagFault) → code_of_done (counted n answer) ≡ code_of_done answer
done_code n (Ok x) = refl
done_code n (Err fault) = refl
