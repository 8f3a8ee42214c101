-- Hands that lend their records one after another, and are unchanged afterwards.
use Rattle.std.specs.Prelude.{◌++◌, ◌+◌, ◌∷◌, ◌≡◌}
use Rattle.std.proofs.lemmas.List.Elements.{All-push}
use Rattle.std.proofs.Common.{length-append}
use Rattle.tag_pool.proofs.Uses.{[], All, ap, append_assoc, arith, Hand, IsHandOf, Kind, List, Ordinary, Pool, Record, record_of, refl, Reserved, subst, suc, sym, ℕ, ◌∙◌}
use Rattle.step_ledger.proofs.Turned.{all_front, all_last}
use Rattle.step_ledger.specs.Gather.{HasAll}
use Rattle.step_ledger.proofs.Seats.{pairs_more}
use Rattle.tag_core.specs.Gathering.{numbers}
use Rattle.tag_pool.specs.Gathering.{numbers_of, records_of, shape_of}
use Rattle.tag_pool.specs.Hands.{caller_of}
use Rattle.tag_pool.specs.Holding.{IsUnchanged}
use Rattle.tag_pool.specs.Using.{AreUnchanged, IsSetUsage, IsUsage}
use Rattle.tag_pool.specs.declared.usage.Usage.{Usage}
use Rattle.tag_pool.proofs.Gathered.{record_numbers}
use Rattle.tag_pool.proofs.StillSame.{number_kept}

module _ {R : Type 0} where
  -- one more hand is unchanged
  unchanged-more : (olds news : List (Hand R)) (a b : Hand R) → AreUnchanged olds news → IsUnchanged a b
      → AreUnchanged (olds ++ a ∷ []) (news ++ b ∷ [])
  unchanged-more olds news a b same one = record {
    count = length-append news (b ∷ []) ∙ ap (λ (z : ℕ). z + 1) same.count ∙ sym (length-append olds (a ∷ []));
    each = pairs_more IsUnchanged olds news a b same.count same.each one;
  }

  -- the last hand of a pool, and those before it, belong to it
  module _ (pool : Pool R) (olds front : List (Hand R)) (last : Hand R) (taken : olds ≡ front ++ last ∷ [])
      (own : All (IsHandOf pool) olds) where
    pub last_own : IsHandOf pool last
    last_own = all_last (IsHandOf pool) front last (subst (All (IsHandOf pool)) taken own)

    pub front_own : All (IsHandOf pool) front
    front_own = all_front (IsHandOf pool) front last (subst (All (IsHandOf pool)) taken own)

  -- what holds of all hands still holds once one more is pushed
  pub all_pushed : (P : Hand R → Type 0) (news rest : List (Hand R)) (back : Hand R) → news ≡ rest ++ back ∷ []
      → All P rest → P back → All P news
  all_pushed P news rest back pushed all one = subst (All P) (sym pushed) (All-push P rest back all one)

  -- the last hand was taken off the end, and is there again
  pub unchanged-back : (olds front news rest : List (Hand R)) (last back : Hand R) → olds ≡ front ++ last ∷ []
      → news ≡ rest ++ back ∷ []
      → AreUnchanged front rest → IsUnchanged last back → AreUnchanged olds news
  unchanged-back olds front news rest last back taken pushed same one =
      subst (λ (z : List (Hand R) × List (Hand R)). AreUnchanged z.0 z.1) (λ j. (sym taken j, sym pushed j))
      (unchanged-more front rest last back same one)

  -- unchanged hands have the same records
  pub unchanged-records : (olds news : List (Hand R)) → AreUnchanged olds news → (kind : Kind)
      → records_of news kind ≡ records_of olds kind
  unchanged-records [] [] same kind = refl
  unchanged-records [] (b ∷ news) same kind = let e = same.count in absurd (omega arith)
  unchanged-records (a ∷ olds) [] same kind = let e = same.count in absurd (omega arith)
  unchanged-records (a ∷ olds) (b ∷ news) same kind = let e = same.count in
      (λ j. ((same.each 0 a b refl refl).sets kind).caller.known j
      ∷ unchanged-records olds news record { count = omega arith; each = λ n x y p q. same.each (suc n) x y p q } kind j)

  -- and the same numbers
  pub unchanged-numbers : (olds news : List (Hand R)) → AreUnchanged olds news → numbers_of news ≡ numbers_of olds
  unchanged-numbers [] [] same = refl
  unchanged-numbers [] (b ∷ news) same = let e = same.count in absurd (omega arith)
  unchanged-numbers (a ∷ olds) [] same = let e = same.count in absurd (omega arith)
  unchanged-numbers (a ∷ olds) (b ∷ news) same = let e = same.count in
      (λ j. number_kept a.ordinary b.ordinary ((same.each 0 a b refl refl).sets Ordinary) j
      ∷ unchanged-numbers olds news record { count = omega arith; each = λ n x y p q. same.each (suc n) x y p q } j)

  records-append : (olds news : List (Hand R)) (kind : Kind)
      → records_of (olds ++ news) kind ≡ records_of olds kind ++ records_of news kind
  records-append [] news kind = refl
  records-append (a ∷ olds) news kind =
      ap (λ (z : List (Record R)). record_of (caller_of a kind) ∷ z) (records-append olds news kind)

  -- the last hand lent its records, which came before those gathered
  module _ (olds front : List (Hand R)) (last : Hand R) (taken : olds ≡ front ++ last ∷ []) (kind : Kind)
      (rs came : List (Record R)) (is : came ≡ record_of (caller_of last kind) ∷ rs) where
    pub all_records : records_of olds kind ++ rs ≡ records_of front kind ++ came
    all_records = ap (λ (z : List (Hand R)). records_of z kind ++ rs) taken
        ∙ ap (λ (z : List (Record R)). z ++ rs) (records-append front (last ∷ []) kind)
        ∙ append_assoc (records_of front kind) (record_of (caller_of last kind) ∷ []) rs
        ∙ ap (λ (z : List (Record R)). records_of front kind ++ z) (sym is)

    -- so no number is missing
    pub all_there : (count : ℕ) → HasAll (numbers (records_of olds kind ++ rs)) count
        → HasAll (numbers (records_of front kind ++ came)) count
    all_there count = subst (λ (z : List (Record R)). HasAll (numbers z) count) all_records

  -- the last hand is the first that lent its records
  module _ (pool : Pool R) (olds front : List (Hand R)) (last : Hand R) (taken : olds ≡ front ++ last ∷ [])
      (own : All (IsHandOf pool) olds) (kind : Kind) (came : List (Record R))
      (is : came ≡ record_of (caller_of last kind) ∷ []) where
    pub first_records : records_of olds kind ≡ records_of front kind ++ came
    first_records = ap (λ (z : List (Hand R)). records_of z kind) taken ∙ records-append front (last ∷ []) kind
        ∙ ap (λ (z : List (Record R)). records_of front kind ++ z) (sym is)

    pub first_there : (count : ℕ) → HasAll (numbers_of olds) count → HasAll (numbers (records_of front kind ++ came)) count
    first_there count = subst (λ (z : List ℕ). HasAll z count)
        (record_numbers pool olds own kind ∙ ap (λ (z : List (Record R)). numbers z) first_records)

  -- what the same records have in use is the same
  pub usage_like : (pool : Pool R) (before after : Kind → List (Record R)) (usage : Usage)
      → before Reserved ≡ after Reserved → before Ordinary ≡ after Ordinary → IsUsage pool before usage
      → IsUsage pool after usage
  usage_like pool before after usage reserved ordinary u = record {
    reserved = subst (λ (rs : List (Record R)). IsSetUsage (shape_of pool Reserved) rs usage.reserved) reserved u.reserved;
    ordinary = subst (λ (rs : List (Record R)). IsSetUsage (shape_of pool Ordinary) rs usage.ordinary) ordinary u.ordinary;
  }
