-- What a caller in a round knows of those that it found listed, and what a part of a round says.
use Rattle.std.specs.Prelude.{◌++◌, ◌<◌, ◌^◌, ◌∷◌, ◌≡◌, ◌≢◌, ◌≤◌, slice_index}
use Rattle.tag_bell.proofs.Uses.{[], arith, Bell, Berth, bit_at, bit_at_above, Bool, dec_le, dite, inl, inr, IsDoneWith, IsInRound, IsListed, IsListedAs, List, Listed, LookAll, LookAt, Owes, refl, same_waiter, Saw, Spot, Step, subst, sym, Tell, Told, Up, Waiter, waits_as, without, ℕ, ℕ_discrete}
use Rattle.tag_core.proofs.ListedBits.{without-else, without-of}
use Rattle.tag_bell.specs.Lines.{IsLine}
use Rattle.tag_bell.specs.Order.{FoundAs, IsNotBefore, MayPass}
use Rattle.tag_bell.specs.Rounds.{IsRound}

-- whoever is listed with this turn is not before a lower one; nor is one that is not listed so
found_low : (kinds : Waiter → Bool) (turn t : ℕ) (w : Waiter) (b : Berth) → turn ≤ t → IsListedAs w t b
    → IsNotBefore kinds turn b
found_low kinds turn t w Up low is = absurd is
found_low kinds turn t w (Listed v u) low is = λ meant. let same = is.1 in omega arith
found_low kinds turn t w (Told v u) low is = absurd is

not_low : (kinds : Waiter → Bool) (turn : ℕ) (b : Berth) → ¬ IsListed kinds b → IsNotBefore kinds turn b
not_low kinds turn Up not = tt
not_low kinds turn (Listed v u) not = λ meant. absurd (not meant)
not_low kinds turn (Told v u) not = tt

module _ {R : Type 0} (kinds : Waiter → Bool) (e : ℕ) where
  -- what it found in a round it has seen
  found_saw : (own : List (Step R)) (spot : Spot) → IsInRound own → (w : Waiter) (t : ℕ) → FoundAs own e w t
      → Saw kinds own spot e w t
  found_saw [] spot are w t found = absurd found
  found_saw (Bell (LookAll all) ∷ older) spot are w t found = absurd found
  found_saw (Bell (LookAt whom b) ∷ older) spot are w t (inl there) = inl there
  found_saw (Bell (LookAt whom b) ∷ older) spot are w t (inr there) = inr (found_saw older spot are w t there)
  found_saw (Bell (Tell whom v u b) ∷ older) spot are w t found = found_saw older spot are w t found
  found_saw (step ∷ older) spot are w t found = absurd are

  -- it has to see to nothing for the sake of one that it is done with
  pub done_owes : (own : List (Step R)) (spot : Spot) → IsInRound own → IsDoneWith kinds own e → ¬ Owes kinds own spot e
  done_owes [] spot are done owes = done
  done_owes (Bell (LookAll all) ∷ older) spot are done owes = owes.0 done
  done_owes (Bell (LookAt whom b) ∷ older) spot are (inl it) owes = it.1 (owes.0.1 it.0)
  done_owes (Bell (LookAt whom b) ∷ older) spot are (inr done) owes = done_owes older spot are done owes.1
  done_owes (Bell (Tell whom w t b) ∷ older) spot are (inl it) owes = owes.1 it.0 (found_saw older spot are w t it.1)
  done_owes (Bell (Tell whom w t b) ∷ older) spot are (inr done) owes = done_owes older spot are done owes.2
  done_owes (step ∷ older) spot are done owes = absurd are

  -- it may pass over one that it is done with, and over one that it found with a higher turn
  pub done_pass : (turn : ℕ) (own : List (Step R)) → IsDoneWith kinds own e → MayPass kinds own turn e
  done_pass turn [] done = done
  done_pass turn (Bell (LookAll all) ∷ older) done = done
  done_pass turn (Bell (LookAt whom b) ∷ older) (inl it) = inl (it.0, not_low kinds turn b it.1)
  done_pass turn (Bell (LookAt whom b) ∷ older) (inr done) = inr (done_pass turn older done)
  done_pass turn (Bell (Tell whom w t b) ∷ older) (inl it) = inl (it.0, inr it.1)
  done_pass turn (Bell (Tell whom w t b) ∷ older) (inr done) = inr (done_pass turn older done)
  done_pass turn (step ∷ older) done = done_pass turn older done

  pub found_pass : (turn t : ℕ) (w : Waiter) → turn ≤ t → (own : List (Step R)) → FoundAs own e w t → MayPass kinds own turn e
  found_pass turn t w low [] found = found
  found_pass turn t w low (Bell (LookAll all) ∷ older) found = absurd found
  found_pass turn t w low (Bell (LookAt whom b) ∷ older) (inl there) = inl (there.0, found_low kinds turn t w b low there.1)
  found_pass turn t w low (Bell (LookAt whom b) ∷ older) (inr there) = inr (found_pass turn t w low older there)
  found_pass turn t w low (Bell (Tell whom v u b) ∷ older) found = inr (found_pass turn t w low older found)
  found_pass turn t w low (step ∷ older) found = found_pass turn t w low older found

  -- a part of a round changes none of this
  pub found_on : (w : Waiter) (t : ℕ) (ys own : List (Step R)) → IsRound ys → FoundAs own e w t → FoundAs (ys ++ own) e w t
  found_on w t [] own are found = found
  found_on w t (Bell (LookAt whom b) ∷ ys) own are found = inr (found_on w t ys own are found)
  found_on w t (Bell (Tell whom v u b) ∷ ys) own are found = found_on w t ys own are found
  found_on w t (step ∷ ys) own are found = absurd are

  pub done_on : (ys own : List (Step R)) → IsRound ys → IsDoneWith kinds own e → IsDoneWith kinds (ys ++ own) e
  done_on [] own are done = done
  done_on (Bell (LookAt whom b) ∷ ys) own are done = inr (done_on ys own are done)
  done_on (Bell (Tell whom w t b) ∷ ys) own are done = inr (done_on ys own are done)
  done_on (step ∷ ys) own are done = absurd are

module _ {R : Type 0} where
  pub round_on : (ys own : List (Step R)) → IsRound ys → IsInRound own → IsInRound (ys ++ own)
  round_on [] own are now = now
  round_on (Bell (LookAt whom b) ∷ ys) own are now = round_on ys own are now
  round_on (Bell (Tell whom w t b) ∷ ys) own are now = round_on ys own are now
  round_on (step ∷ ys) own are now = absurd are

  pub waits_on : (ys own : List (Step R)) → IsRound ys → waits_as (ys ++ own) ≡ waits_as own
  waits_on [] own are = refl
  waits_on (Bell (LookAt whom b) ∷ ys) own are = waits_on ys own are
  waits_on (Bell (Tell whom w t b) ∷ ys) own are = waits_on ys own are
  waits_on (step ∷ ys) own are = absurd are

  pub line_on : (waiter : Waiter) (here : ℕ → Type 0) (mask : ℕ) (turns : List ℕ) (ys own : List (Step R)) → IsRound ys
      → IsLine waiter here mask turns own → IsLine waiter here mask turns (ys ++ own)
  line_on waiter here mask turns ys own are line = record {
    found = λ e set. found_on (same_waiter waiter) e waiter (slice_index turns e) ys own are (line.found e set);
    fits = line.fits;
    others = λ e clear is. done_on (same_waiter waiter) e ys own are (line.others e clear is);
  }

  -- one that was tried is no longer in the line
  module _ (waiter : Waiter) (left : ℕ) (turns : List ℕ) (own : List (Step R))
      (line : IsLine waiter (λ e. Unit {0}) left turns own) (whom : ℕ) (set : bit_at left whom ≡ 1) (low : whom < 64)
      (fits : left < 2 ^ 64) (found : Berth) where
    pub tell_line : IsLine waiter (λ e. Unit {0}) (without left (2 ^ whom)) turns
        (Bell (Tell whom waiter (slice_index turns whom) found) ∷ own)
    tell_line = record {
      found = λ e on. line.found e (without-of left (2 ^ whom) e on);
      fits = λ e on. line.fits e (without-of left (2 ^ whom) e on);
      others = λ e off is. dite (ℕ_discrete whom e)
          (λ (it : whom ≡ e). inl (
            it,
            subst (λ (z : ℕ). FoundAs own z waiter (slice_index turns whom)) it
                (line.found whom set),
          ))
          (λ (ne : whom ≢ e). inr (line.others e (λ on. off (still e ne on)) is));
    }
      where
        still : (e : ℕ) → whom ≢ e → bit_at left e ≡ 1 → bit_at (without left (2 ^ whom)) e ≡ 1
        still e ne on = dite (dec_le 64 e)
            (λ (high : 64 ≤ e). let none = bit_at_above left 64 e fits high in absurd (omega arith))
            (λ (under : ¬ (64 ≤ e)). without-else left whom e low (omega arith) (λ is. ne (sym is)) on)

    -- and it was told in its turn
    pub tell_turn : ((e : ℕ) → bit_at left e ≡ 1 → slice_index turns whom ≤ slice_index turns e) → (e : ℕ)
        → MayPass (same_waiter waiter) own (slice_index turns whom) e
    tell_turn first e = dite (ℕ_discrete (bit_at left e) 1)
        (λ (on : bit_at left e ≡ 1). found_pass (same_waiter waiter) e (slice_index turns whom) (slice_index turns e)
        waiter (first e on) own (line.found e on))
        (λ (off : bit_at left e ≢ 1). done_pass (same_waiter waiter) e (slice_index turns whom) own (line.others e off tt))
