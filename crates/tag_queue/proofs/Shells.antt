-- Parts of members that come off the end of a list, one by one.
use Rattle.std.specs.Prelude.{◌++◌, ◌∷◌, ◌≡◌}
use Rattle.tag_queue.proofs.Uses.{[], All, ap, length, List, map, refl, subst, sym, ◌∙◌}
use Rattle.std.proofs.Common.{append_assoc}
use Rattle.atomic_table.proofs.Lists.{at_map}
use Rattle.step_ledger.proofs.Turned.{all_last, taken_first}
use Rattle.tag_core.proofs.Entries.{all_at}
use Rattle.tag_queue.proofs.Uniting.{was_at}

-- the one that came off is the first of those that have
pub came_first : {A : Type 0} (left before done all : List A) (x : A) → before ++ done ≡ all → before ≡ left ++ x ∷ []
    → left ++ x ∷ done ≡ all
came_first {A} left before done all x parts off =
    sym (append_assoc left (x ∷ []) done) ∙ ap (λ (l : List A). l ++ done) (sym off) ∙ parts

module _ {A B : Type 0} (f : A → B) (P : B → Type 0) where
  -- what holds of all parts holds of that of the member that came off first
  pub first_part : (all left : List A) (x : A) → All P (map f all) → all ≡ left ++ x ∷ [] → P (f x)
  first_part all left x own off =
      all_last P (map f left) (f x) (subst (All P) (sym (taken_first f all left x off)) own)

  -- and of that of each one that came off later
  pub next_part : (left before done all : List A) (x : A) → All P (map f all) → before ++ done ≡ all
      → before ≡ left ++ x ∷ [] → P (f x)
  next_part left before done all x own parts off = all_at P (map f all) own (length left) (f x)
      (at_map f all (length left) x (was_at left before x done all (length left) parts off refl))
