-- One look more, and what it shows of those listed.
use Rattle.std.specs.Prelude.{◌+◌, ◌<◌, ◌∷◌, ◌≡◌, ◌≢◌, ◌≤◌, ◌⊎◌, count_ones, slice_index}
use Rattle.tag_bell.proofs.Uses.{[], Adds, ap, arith, Bell, Berth, bit_at, bit_at-zero, bit_or, Caller, dite, inl, inr, IsDoneWith, IsListedAs, List, Listed, Listener, LookAt, record_of, refl, same_waiter, Sleeper, Step, subst, sym, Told, TURNS, Up, Waiter, ℕ, ℕ_discrete, ◌∙◌}
use Rattle.tag_core.proofs.OneBit.{count_ones-zero}
use Rattle.tag_core.specs.Berths.{TurnFits}
use Rattle.tag_bell.specs.declared.found.Found.{Found}
use Rattle.tag_bell.specs.declared.found.Masks.{Masks}
use Rattle.tag_bell.specs.Coming.{coming_bit, coming_in}
use Rattle.tag_bell.specs.Lines.{GoesOn, IsNoted, nobody_of}
use Rattle.tag_bell.specs.Order.{FoundAs}
use Rattle.tag_bell.specs.Telling.{IsDoneOutside}
use Rattle.tag_bell.proofs.Goes.{goes_after, goes_look, goes_none, goes_within}
use Rattle.tag_bell.proofs.ListBits.{no_bit}
use Rattle.tag_bell.proofs.Noting.{IsMarked, noted_marks}
use Rattle.tag_bell.proofs.Rung.{rung, steps_added}

-- those below a number, and those that were not found waiting
abbrev pub Below : ℕ → ℕ → ℕ → Type 0
Below waiting n e = (e < n) ⊎ (bit_at waiting e ≢ 1)

-- all others are so before the next one
before : (waiting n e : ℕ) → e ≢ n → Below waiting (n + 1) e → Below waiting n e
before waiting n e ne (inl low) = inl (omega arith)
before waiting n e ne (inr not) = inr not

-- of those of which this holds the caller is done with each outside the mask
abbrev pub DoneOutside : {R : Type 0} → Waiter → (ℕ → Type 0) → ℕ → List (Step R) → Type 0
DoneOutside waiter here mask own = (e : ℕ) → bit_at mask e ≢ 1 → here e → IsDoneWith (same_waiter waiter) own e

module _ {R : Type 0} (waiter : Waiter) (waiting mask : ℕ) (own : List (Step R)) where
  -- of nobody yet
  none_done : ((e : ℕ) → bit_at waiting e ≢ 1 → IsDoneWith (same_waiter waiter) own e)
      → DoneOutside waiter (Below waiting 0) mask own
  none_done others e off (inl low) = absurd (omega arith)
  none_done others e off (inr not) = others e not

  module _ (n : ℕ) (done : DoneOutside waiter (Below waiting n) mask own) where
    -- the next one was not found waiting
    skip_done : bit_at waiting n ≢ 1 → DoneOutside waiter (Below waiting (n + 1)) mask own
    skip_done not e off here = done e off (dite (ℕ_discrete e n)
        (λ (it : e ≡ n). inr (λ on. not (sym (ap (bit_at waiting) it) ∙ on)))
        (λ (ne : e ≢ n). before waiting n e ne here))

    -- a look at the next one
    look_done : (mask' : ℕ) (b : Berth) → IsMarked waiter n b mask mask'
        → DoneOutside waiter (Below waiting (n + 1)) mask' (Bell (LookAt n b) ∷ own)
    look_done mask' b marked e off here = dite (ℕ_discrete e n)
        (λ (it : e ≡ n). inl (sym it, marked.other (λ on. off (ap (bit_at mask') it ∙ on))))
        (λ (ne : e ≢ n). inr (done e (λ on. off (marked.rest e ne ∙ on)) (before waiting n e ne here)))

-- of the callers below a number it has looked at each that was found waiting, and is done with those outside the masks
pub record LooksOn {R : Type 0} (waiting n : ℕ) (masks : Masks) (first now : Caller R) : Type 0 where
  pub sleepers : DoneOutside Sleeper (Below waiting n) masks.sleepers (record_of now).steps
  pub listeners : DoneOutside Listener (Below waiting n) masks.listeners (record_of now).steps
  pub coming : masks.coming ≡ coming_in (record_of now).steps
  pub goes : GoesOn n nobody_of first now

module _ {R : Type 0} (waiting : ℕ) (first : Caller R) where
  pub looks_none : (masks : Masks) → masks.coming ≡ coming_in (record_of first).steps
      → ((kind : Waiter) → IsDoneOutside kind waiting first) → LooksOn waiting 0 masks first first
  looks_none masks come others = let own = (record_of first).steps in record {
    sleepers = none_done Sleeper waiting masks.sleepers own (others Sleeper);
    listeners = none_done Listener waiting masks.listeners own (others Listener);
    coming = come;
    goes = goes_none 0 nobody_of first (λ kind. refl);
  }

  module _ (n : ℕ) (masks : Masks) (old : Caller R) (so_far : LooksOn waiting n masks first old) where
    pub looks_past : bit_at waiting n ≢ 1 → LooksOn waiting (n + 1) masks first old
    looks_past not = let own = (record_of old).steps in record {
      sleepers = skip_done Sleeper waiting masks.sleepers own n so_far.sleepers not;
      listeners = skip_done Listener waiting masks.listeners own n so_far.listeners not;
      coming = so_far.coming;
      goes = goes_within n (n + 1) nobody_of first old (omega arith) so_far.goes;
    }

    module _ (new : Caller R) (b : Berth) (did : Adds (Bell (LookAt n b)) old new) where
      pub look_adds : (record_of new).steps ≡ Bell (LookAt n b) ∷ (record_of old).steps
      look_adds = steps_added (Bell (LookAt n b) ∷ []) old new (rung (LookAt n b) old new did)

      pub looks_more : (more : Masks) → IsMarked Sleeper n b masks.sleepers more.sleepers
          → IsMarked Listener n b masks.listeners more.listeners
          → more.coming ≡ bit_or masks.coming (coming_bit n b) → LooksOn waiting (n + 1) more first new
      looks_more more s l m = let own = (record_of old).steps in record {
        sleepers = subst (λ (steps : List (Step R)). DoneOutside Sleeper (Below waiting (n + 1)) more.sleepers steps)
            (sym look_adds) (look_done Sleeper waiting masks.sleepers own n so_far.sleepers more.sleepers b s);
        listeners = subst (λ (steps : List (Step R)). DoneOutside Listener (Below waiting (n + 1)) more.listeners steps)
            (sym look_adds) (look_done Listener waiting masks.listeners own n so_far.listeners more.listeners b l);
        coming = m ∙ ap (λ (mask : ℕ). bit_or mask (coming_bit n b)) so_far.coming ∙ sym (ap coming_in look_adds);
        goes = goes_after n 1 nobody_of nobody_of first old new so_far.goes (goes_look n b old new did) (λ kind. refl);
      }

-- those of the mask it found listed as this waiter, each with its turn
pub record AreFound {R : Type 0} (waiter : Waiter) (mask : ℕ) (turns : List ℕ) (own : List (Step R)) : Type 0 where
  pub found : (e : ℕ) → bit_at mask e ≡ 1 → FoundAs own e waiter (slice_index turns e)
  pub fits : (e : ℕ) → bit_at mask e ≡ 1 → slice_index turns e < TURNS

-- the turn of one that is listed so fits
fits_as : (waiter : Waiter) (turn : ℕ) (b : Berth) → TurnFits b → IsListedAs waiter turn b → turn < TURNS
fits_as waiter turn Up fits is = absurd is
fits_as waiter turn (Listed v u) fits is = subst (λ (z : ℕ). z < TURNS) is.1 fits
fits_as waiter turn (Told v u) fits is = absurd is

module _ {R : Type 0} (waiter : Waiter) (mask : ℕ) (turns : List ℕ) (own : List (Step R)) where
  -- nobody yet
  none_found : mask ≡ 0 → AreFound waiter mask turns own
  none_found none =
      record { found = λ e on. absurd (no_bit mask none e on); fits = λ e on. absurd (no_bit mask none e on) }

  -- a look at the next one
  look_found : AreFound waiter mask turns own → (n mask' : ℕ) (turns' : List ℕ) (b : Berth)
      → IsNoted waiter n b mask turns mask' turns' → TurnFits b
      → AreFound waiter mask' turns' (Bell (LookAt n b) ∷ own)
  look_found was n mask' turns' b noted turn_fits = record {
    found = λ e on. dite (ℕ_discrete e n)
        (λ (it : e ≡ n). inl (
          sym it,
          subst (λ (z : ℕ). IsListedAs waiter (slice_index turns' z) b) (sym it)
              (noted.listed (sym (ap (bit_at mask') it) ∙ on)),
        ))
        (λ (ne : e ≢ n). let same = noted.rest e ne in inr (subst (λ (t : ℕ). FoundAs own e waiter t) (sym same.1)
        (was.found e (sym same.0 ∙ on))));
    fits = λ e on. dite (ℕ_discrete e n)
        (λ (it : e ≡ n). subst (λ (z : ℕ). slice_index turns' z < TURNS) (sym it)
        (fits_as waiter (slice_index turns' n) b turn_fits (noted.listed (sym (ap (bit_at mask') it) ∙ on))))
        (λ (ne : e ≢ n). let same = noted.rest e ne in subst (λ (t : ℕ). t < TURNS) (sym same.1)
        (was.fits e (sym same.0 ∙ on)));
  }

-- the same, and it found those of the masks listed, with these turns
pub record LooksAgain {R : Type 0} (waiting n : ℕ) (found : Found) (first now : Caller R) : Type 0 where
  pub looks : LooksOn waiting n found.masks first now
  pub sleepers : AreFound Sleeper found.masks.sleepers found.turns (record_of now).steps
  pub listeners : AreFound Listener found.masks.listeners found.turns (record_of now).steps
  pub above : (e : ℕ) → n ≤ e → (bit_at found.masks.sleepers e ≡ 0) × (bit_at found.masks.listeners e ≡ 0)
  pub few : count_ones found.masks.sleepers + count_ones found.masks.listeners ≤ n

module _ {R : Type 0} (waiting : ℕ) (first : Caller R) where
  pub again_none : (found : Found) → found.masks.sleepers ≡ 0 → found.masks.listeners ≡ 0
      → found.masks.coming ≡ coming_in (record_of first).steps
      → ((kind : Waiter) → IsDoneOutside kind waiting first) → LooksAgain waiting 0 found first first
  again_none found no_sleepers no_listeners come others = let own = (record_of first).steps in record {
    looks = looks_none waiting first found.masks come others;
    sleepers = none_found Sleeper found.masks.sleepers found.turns own no_sleepers;
    listeners = none_found Listener found.masks.listeners found.turns own no_listeners;
    above = λ e low. (
      ap (λ (m : ℕ). bit_at m e) no_sleepers ∙ bit_at-zero e,
      ap (λ (m : ℕ). bit_at m e) no_listeners ∙ bit_at-zero e,
    );
    few = let s = ap count_ones no_sleepers in let l = ap count_ones no_listeners in let none = count_ones-zero in
        omega arith;
  }

  module _ (n : ℕ) (found : Found) (old : Caller R) (so_far : LooksAgain waiting n found first old) where
    pub again_past : bit_at waiting n ≢ 1 → LooksAgain waiting (n + 1) found first old
    again_past not = let few = so_far.few in record {
      looks = looks_past waiting first n found.masks old so_far.looks not;
      sleepers = so_far.sleepers;
      listeners = so_far.listeners;
      above = λ e low. so_far.above e (omega arith);
      few = omega arith;
    }

    pub again_more : (more : Found) (new : Caller R) (b : Berth) → Adds (Bell (LookAt n b)) old new → TurnFits b
        → IsNoted Sleeper n b found.masks.sleepers found.turns more.masks.sleepers more.turns
        → IsNoted Listener n b found.masks.listeners found.turns more.masks.listeners more.turns
        → more.masks.coming ≡ bit_or found.masks.coming (coming_bit n b)
        → count_ones more.masks.sleepers + count_ones more.masks.listeners
        ≤ count_ones found.masks.sleepers + count_ones found.masks.listeners + 1
        → LooksAgain waiting (n + 1) more first new
    again_more more new b did fits s l m one_more = let few = so_far.few in let own = (record_of old).steps in record {
      looks = looks_more waiting first n found.masks old so_far.looks new b did more.masks
          (noted_marks Sleeper n b found.masks.sleepers found.turns more.masks.sleepers more.turns s)
          (noted_marks Listener n b found.masks.listeners found.turns more.masks.listeners more.turns l) m;
      sleepers = subst (λ (steps : List (Step R)). AreFound Sleeper more.masks.sleepers more.turns steps) (sym adds)
          (look_found Sleeper found.masks.sleepers found.turns own so_far.sleepers n more.masks.sleepers more.turns b s
          fits);
      listeners = subst (λ (steps : List (Step R)). AreFound Listener more.masks.listeners more.turns steps) (sym adds)
          (look_found Listener found.masks.listeners found.turns own so_far.listeners n more.masks.listeners
          more.turns b l fits);
      above = λ e low. (
        (s.rest e (λ is. absurd (omega arith))).0 ∙ (so_far.above e (omega arith)).0,
        (l.rest e (λ is. absurd (omega arith))).0 ∙ (so_far.above e (omega arith)).1,
      );
      few = omega arith;
    }
      where
        adds : (record_of new).steps ≡ Bell (LookAt n b) ∷ (record_of old).steps
        adds = look_adds waiting first n found.masks old so_far.looks new b did
