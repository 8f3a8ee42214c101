-- A refusal of the hand's is one of the user's, who holds no more than the hand.
use Rattle.std.specs.Prelude.{◌∷◌, ◌≡◌}
use Rattle.tag_cache.proofs.Uses.{[], Checks, Err, FailsFirst, inl, inr, Ok, Result}
use Rattle.std.specs.Result.{IsErrAnd, IfErr}

module _ {F : Type 0} (counts ordinary : Type 0) (bad_count no_such_tag not_held : F) where
  -- the checks of several tags, the last of which is that they are held
  abbrev pub several_checks : Type 0 → Checks F
  several_checks held = (counts, bad_count) ∷ (ordinary, no_such_tag) ∷ (held, not_held) ∷ []

  module _ (hand user : Type 0) (holds : user → hand) where
    -- the check that fails first for the hand fails first for the user
    fails_user : (fault : F) → FailsFirst (several_checks hand) fault → FailsFirst (several_checks user) fault
    fails_user fault (inl first) = inl first
    fails_user fault (inr (counted, inl first)) = inr (counted, inl first)
    fails_user fault (inr (counted, inr (of_kind, inl first))) =
        inr (counted, inr (of_kind, inl ((λ held. first.0 (holds held)), first.1)))
    fails_user fault (inr (counted, inr (of_kind, inr last))) = absurd last.1

    pub refused_user : {A : Type 0} (fault : F) (told : Result A F) → IsErrAnd told (λ f. f ≡ fault)
        → FailsFirst (several_checks hand) fault → IfErr told (FailsFirst (several_checks user))
    refused_user fault (Ok x) is first = tt
    refused_user fault (Err f) is first = rw is (fails_user fault first)
