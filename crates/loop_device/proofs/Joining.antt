-- Threads that are started one after another, and joined from the last on.
use Rattle.loop_device.proofs.Uses.{[], added, All-cons, All-nil, ap, append_assoc, AreJoined, arith, Bool, clean, DidParts, false, Faults, fold-append, HasRun, HavePromised, Io, IsHandOf, IsPart, IsTrue, KeepInTurn, Keeps, length, length-append, List, map, map-append, nat_tests, nil_from_length, None, not, Option, Part, Queue, QueueHand, refl, Returns, rules, Some, SomeIff, submitter_at, subst, sym, true, ℕ, ⊎_elim, ◌∙◌}
use Rattle.std.proofs.Common.{◌≡◌, ◌+◌, ◌-◌, ◌≤◌, ◌∷◌, ◌++◌, fold}
use Rattle.std.specs.List.{All}
use Rattle.std.specs.declared.thread.PromisedHandle.{PromisedHandle}
use Rattle.std.proofs.lemmas.List.{append-nil}
use Rattle.loop_device.specs.declared.setup.Setup.{Setup as Asked}
use Rattle.loop_device.specs.declared.workers.Worked.{Worked}
use Rattle.loop_device.proofs.Parting.{parted}

abbrev Handles : Type 0
Handles = List (PromisedHandle Worked Part)

abbrev hand_of : Worked → QueueHand ℕ
hand_of worked = worked.hand

abbrev with_faults : Faults → Worked → Faults
with_faults faults worked = added faults worked.faults

-- the number among the submitters, as it is computed
pub numbered : (o : Option ℕ) (completers thread : ℕ) → SomeIff o (completers ≤ thread) (thread - completers)
    → o ≡ submitter_at completers thread
numbered None completers thread none = grind (arith, nat_tests)
numbered (Some number) completers thread is = grind (arith, nat_tests)

module _ (tags : Queue ℕ) (setup : Asked) (ios : List Io) where
  -- before the first
  pub promised_none : HavePromised tags setup ios []
  promised_none before handle after parts =
      let long = ap length parts ∙ length-append before (handle ∷ after) in absurd (omega arith)

  -- one thread more that promises its part
  pub promised_more : (old new : Handles) (handle : PromisedHandle Worked Part) → HavePromised tags setup ios old
      → IsPart tags setup ios (length old) handle.promise → new ≡ old ++ handle ∷ [] → HavePromised tags setup ios new
  promised_more old new handle were is joined before last after parts = ⊎_elim
      (λ (t : (old ≡ before) × (handle ≡ last)). subst (λ (z : Handles × PromisedHandle Worked Part). IsPart tags setup ios
      (length z.0) z.1.promise) (λ i. (t.0 i, t.1 i)) is)
      (λ (t : (rest : Handles) × (old ≡ before ++ last ∷ rest)). were before last t.0 t.1)
      (parted old handle before last after (sym joined ∙ parts))

  -- without its last thread, each still does
  promised_fewer : (rest : Handles) (last : PromisedHandle Worked Part) → HavePromised tags setup ios (rest ++ last ∷ [])
      → HavePromised tags setup ios rest
  promised_fewer rest last were before handle after parts = were before handle (after ++ last ∷ [])
      (ap (λ (l : Handles). l ++ last ∷ []) parts ∙ append_assoc before (handle ∷ after) (last ∷ []))

  kept_as : (thread : ℕ) (part : Part) (worked : Worked) → IsPart tags setup ios thread part → Keeps part worked
      → Returns tags setup ios (submitter_at setup.completers thread) worked
  kept_as thread part worked is keeps = subst
      (λ (z : Queue ℕ × Asked × List Io × Option ℕ). Returns z.0 z.1 z.2 z.3 worked)
      (λ i. (is.tags_are i, is.setup_is i, is.ios_are i, is.number_is i)) keeps

  -- the threads that were joined did their parts, and returned hands of the tags
  record Joined (old new : Handles) (works : List Worked) : Type 0 where
    count : length old ≡ length new + length works
    did : DidParts tags setup ios (length new) works
    own : All (IsHandOf tags) (map hand_of works)

  joined_parts : (old new : Handles) (works : List Worked) → KeepInTurn old new works → HavePromised tags setup ios old
      → Joined old new works
  joined_parts old new [] same were = record {
    count = let long = ap length same in omega arith;
    did = tt;
    own = All-nil (IsHandOf tags);
  }
  joined_parts old new (worked ∷ works) turn were =
      let rest = turn.0 in let last = turn.1 in
      let all = subst (HavePromised tags setup ios) turn.2 were in
      let before = joined_parts rest new works turn.4 (promised_fewer rest last all) in
      let returns = kept_as (length rest) last.promise worked (all rest last [] refl) turn.3 in
      let long = ap length turn.2 ∙ length-append rest (last ∷ []) in
      let fewer = before.count in record {
        count = omega arith;
        did = (
          (subst (λ (n : ℕ). Returns tags setup ios (submitter_at setup.completers n) worked) fewer returns).1,
          before.did,
        );
        own = All-cons (IsHandOf tags) worked.hand (map hand_of works) returns.0 before.own;
      }

-- threads were joined in two goes
kept_both : (old mid new : Handles) (works more : List Worked) → KeepInTurn old mid works → KeepInTurn mid new more
    → KeepInTurn old new (works ++ more)
kept_both old mid new [] more same turn = subst (λ (l : Handles). KeepInTurn l new more) same turn
kept_both old mid new (w ∷ ws) more turn then =
    (turn.0, turn.1, turn.2, turn.3, kept_both turn.0 mid new ws more turn.4 then)

-- nothing is joined
pub joined_none : (handles : Handles) (hands : List (QueueHand ℕ)) (faults : Faults)
    → AreJoined handles handles hands hands faults faults
joined_none handles hands faults =
    record { works = []; kept = refl; back_is = sym (append-nil hands); all_are = refl }

-- joined in two goes
pub joined_both : (old mid new : Handles) (hands middle back : List (QueueHand ℕ)) (faults between all : Faults)
    → AreJoined old mid hands middle faults between → AreJoined mid new middle back between all
    → AreJoined old new hands back faults all
joined_both old mid new hands middle back faults between all one other = record {
  works = one.works ++ other.works;
  kept = kept_both old mid new one.works other.works one.kept other.kept;
  back_is = other.back_is ∙ ap (λ (l : List (QueueHand ℕ)). l ++ map hand_of other.works) one.back_is
      ∙ append_assoc hands (map hand_of one.works) (map hand_of other.works)
      ∙ ap (λ (l : List (QueueHand ℕ)). hands ++ l) (sym (map-append hand_of one.works other.works));
  all_are = other.all_are ∙ ap (λ (f : Faults). fold with_faults f other.works) one.all_are
      ∙ sym (fold-append with_faults faults one.works other.works);
}

-- one thread more
pub joined_more : (old mid rest : Handles) (last : PromisedHandle Worked Part) (worked : Worked)
    (hands middle back : List (QueueHand ℕ)) (faults between all : Faults) → AreJoined old mid hands middle faults between
    → mid ≡ rest ++ last ∷ [] → Keeps last.promise worked → back ≡ middle ++ worked.hand ∷ []
    → all ≡ added between worked.faults → AreJoined old rest hands back faults all
joined_more old mid rest last worked hands middle back faults between all was parts keeps pushed noted =
    joined_both old mid rest hands middle back faults between all was record {
      works = worked ∷ [];
      kept = (rest, last, parts, keeps, refl);
      back_is = pushed;
      all_are = noted;
    }

-- faults that were noted at first are among those of all
none_first : (faults : Faults) (works : List Worked) → (fold with_faults faults works).memory ≡ false
    → faults.memory ≡ false
none_first faults [] none = none
none_first faults (worked ∷ works) none =
    let either = none_first (with_faults faults worked) works none in grind (arith, nat_tests)

-- all threads are joined in two goes
module _ (tags : Queue ℕ) (setup : Asked) (ios : List Io) (old mid new : Handles) (hands middle back : List (QueueHand ℕ))
    (faults between all : Faults) (were : HavePromised tags setup ios old) (none_yet : hands ≡ [])
    (none_left : length new ≤ 0) (one : AreJoined old mid hands middle faults between)
    (other : AreJoined mid new middle back between all) where
  done : AreJoined old [] [] back faults all
  done =
      let none : length new ≡ 0 = omega arith in
      subst (λ (z : Handles × List (QueueHand ℕ)). AreJoined old z.0 z.1 back faults all)
      (λ i. (nil_from_length new none i, none_yet i))
      (joined_both old mid new hands middle back faults between all one other)

  parts : Joined tags setup ios old [] done.works
  parts = joined_parts tags setup ios old [] done.works done.kept were

  -- the hands that came back are hands of the tags
  own_hands : All (IsHandOf tags) back
  own_hands = subst (All (IsHandOf tags)) (sym done.back_is) parts.own

  -- where none ran out of memory, all threads were started and did their parts
  have_run : (faults.memory ≡ false → (faults ≡ clean) × (length old ≡ setup.completers + setup.submitters))
      → all.memory ≡ false → HasRun tags setup ios back all
  have_run started none =
      let first = started (none_first faults done.works (subst (λ (f : Faults). f.memory ≡ false) done.all_are none)) in
      let count = parts.count in let full = first.1 in record {
        works = done.works;
        count = omega arith;
        parts = parts.did;
        hands_are = done.back_is;
        faults_are = done.all_are ∙ ap (λ (f : Faults). fold with_faults f done.works) first.0;
      }

  pub all_joined : (faults.memory ≡ false → (faults ≡ clean) × (length old ≡ setup.completers + setup.submitters))
      → All (IsHandOf tags) back × (all.memory ≡ false → HasRun tags setup ios back all)
  all_joined started = (own_hands, have_run started)

-- a flag that is not unset is set
pub is_set : (b : Bool) → not b ≡ false → IsTrue b
is_set true e = search rules
is_set false e = cc
