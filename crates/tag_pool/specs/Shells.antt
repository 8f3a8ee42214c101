-- Hands taken apart into their ordinary callers and shells.
use Rattle.std.specs.Prelude.{◌∷◌, ◌≡◌}
use Rattle.tag_pool.specs.Uses.{[], Caller, List, record_of}
use Rattle.tag_pool.specs.declared.hand.Hand.{Hand}
use Rattle.tag_pool.specs.declared.resizes.shells.Shell.{Shell}

-- the hand without its ordinary caller
abbrev pub shell_of : {R : Type 0} → Hand R → Shell R
shell_of hand = record {
  reserved_count = hand.reserved_count;
  reserved = hand.reserved;
  hint = hand.ordinary.hint;
  number = hand.ordinary.number;
}

-- there are as many callers as shells, and each caller has the number of its shell's hand
abbrev pub FitShells : {R : Type 0} → List (Caller R) → List (Shell R) → Type 0
FitShells [] [] = Unit {0}
FitShells [] (shell ∷ shells) = ⊥
FitShells (caller ∷ callers) [] = ⊥
FitShells (caller ∷ callers) (shell ∷ shells) = ((record_of caller).number ≡ shell.number) × FitShells callers shells
