-- Who is told, listed or up, and what a tell leaves of a berth.
use Rattle.std.specs.Prelude.{◌≡◌, ◌⊎◌}
use Rattle.std.proofs.lemmas.Bool.{false≢true}
use Rattle.tag_bell.proofs.Uses.{ap, Berth, Bool, cond, eq-eqb, false, inl, inr, IsListed, IsListedAs, IsTold, IsTrue, IsUp, Listed, nat_eq, refl, same_waiter, subst, Told, told_as, true, Up, Waiter, ℕ, ◌∙◌}
use Rattle.tag_core.proofs.Berths.{same_waiter-refl}

truth : (b : Bool) → IsTrue b ⊎ (¬ IsTrue b)
truth true = inl refl
truth false = inr (λ no. false≢true no)

pub told_or_not : (kinds : Waiter → Bool) (b : Berth) → IsTold kinds b ⊎ (¬ IsTold kinds b)
told_or_not kinds Up = inr (λ no. no)
told_or_not kinds (Listed waiter turn) = inr (λ no. no)
told_or_not kinds (Told waiter turn) = truth (kinds waiter)

-- whoever was told, or is listed, is not up
pub told-not_up : (kinds : Waiter → Bool) (b : Berth) → IsTold kinds b → ¬ IsUp b
told-not_up kinds Up told up = told
told-not_up kinds (Listed waiter turn) told up = told
told-not_up kinds (Told waiter turn) told up = up

pub listed-not_up : (kinds : Waiter → Bool) (b : Berth) → IsListed kinds b → ¬ IsUp b
listed-not_up kinds Up listed up = listed
listed-not_up kinds (Listed waiter turn) listed up = up
listed-not_up kinds (Told waiter turn) listed up = listed

pub listed-not_told : (kinds : Waiter → Bool) (b : Berth) → IsListed kinds b → ¬ IsTold kinds b
listed-not_told kinds Up listed told = told
listed-not_told kinds (Listed waiter turn) listed told = told
listed-not_told kinds (Told waiter turn) listed told = listed

-- a listed berth after a tell: it was told, or is as it was
outcome : (a b : Bool) (x y : Berth) → (cond a (cond b x y) y ≡ x) ⊎ (cond a (cond b x y) y ≡ y)
outcome true true x y = inl refl
outcome true false x y = inr refl
outcome false b x y = inr refl

-- whoever was told stays so
pub as-told : (kinds : Waiter → Bool) (waiter : Waiter) (turn : ℕ) (b : Berth) → IsTold kinds b → IsTold kinds (told_as waiter turn b)
as-told kinds waiter turn Up told = told
as-told kinds waiter turn (Listed k t) told = absurd told
as-told kinds waiter turn (Told k t) told = told

-- whoever is still listed is listed as before
pub as-same : (kinds : Waiter → Bool) (waiter : Waiter) (turn : ℕ) (b : Berth) → IsListed kinds (told_as waiter turn b)
    → told_as waiter turn b ≡ b
as-same kinds waiter turn Up listed = absurd listed
as-same kinds waiter turn (Listed k t) listed = which (outcome (same_waiter k waiter) (nat_eq t turn) (Told k t) (Listed k t))
  where
    which : (told_as waiter turn (Listed k t) ≡ Told k t) ⊎ (told_as waiter turn (Listed k t) ≡ Listed k t)
        → told_as waiter turn (Listed k t) ≡ Listed k t
    which (inl told) = absurd (subst (IsListed kinds) told listed)
    which (inr same) = same
as-same kinds waiter turn (Told k t) listed = absurd listed

-- nobody is listed any more as the tell expected it
pub as-never : (waiter : Waiter) (turn : ℕ) (b : Berth) → ¬ IsListedAs waiter turn (told_as waiter turn b)
as-never waiter turn Up so = so
as-never waiter turn (Listed k t) so = which (outcome (same_waiter k waiter) (nat_eq t turn) (Told k t) (Listed k t))
  where
    which : (told_as waiter turn (Listed k t) ≡ Told k t) ⊎ (told_as waiter turn (Listed k t) ≡ Listed k t) → ⊥
    which (inl told) = subst (IsListedAs waiter turn) told so
    which (inr same) = let is = subst (IsListedAs waiter turn) same so in
        let done : told_as waiter turn (Listed k t) ≡ Told k t
        = ap (λ (a : Bool). cond a (cond (nat_eq t turn) (Told k t) (Listed k t)) (Listed k t)) (ap (λ (w : Waiter). same_waiter w waiter) is.0 ∙ same_waiter-refl waiter)
        ∙ ap (λ (a : Bool). cond a (Told k t) (Listed k t)) (eq-eqb t turn is.1) in
        subst (IsListedAs waiter turn) done so
as-never waiter turn (Told k t) so = so

-- whoever is listed so after it was before
pub as-so : (k waiter : Waiter) (t turn : ℕ) (b : Berth) → IsListedAs k t (told_as waiter turn b) → IsListedAs k t b
as-so k waiter t turn b so =
    subst (IsListedAs k t) (as-same (λ any. true) waiter turn b (listed (told_as waiter turn b) so)) so
  where
    listed : (now : Berth) → IsListedAs k t now → IsListed (λ any. true) now
    listed Up is = is
    listed (Listed own_waiter own_turn) is = refl
    listed (Told own_waiter own_turn) is = is
