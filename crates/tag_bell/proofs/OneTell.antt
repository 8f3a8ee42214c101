-- One tell more, in turn: whom it told, and what the caller has to see to after it.
use Rattle.std.specs.Prelude.{◌+◌, ◌-◌, ◌<◌, ◌^◌, ◌∷◌, ◌≡◌, ◌≢◌, ◌≤◌, ◌⊎◌, count_ones, slice_index}
use Rattle.tag_bell.proofs.Uses.{[], Adds, ap, arith, Bell, Berth, bit_at, bit_at-lt, bit_at-pow_other, bit_at-pow_same, bit_at-zero, bit_at_or, bit_or, Bool, Caller, cond, dite, false, inl, inr, IsInRound, IsTold, IsTrue, List, Listed, Listener, nat_eq, newly_told, or_zero_r, Owes, record_of, refl, same_waiter, Sleeper, Spot, Step, subst, sym, Tell, Told, told_as, true, Up, Waiter, without, ℕ, ℕ_discrete, ◌∙◌, ⊎_elim}
use Rattle.tag_core.proofs.ListedBits.{without-in, without-none}
use Rattle.tag_core.proofs.OneBit.{count_ones-zero}
use Rattle.tag_bell.specs.Coming.{coming_in}
use Rattle.tag_bell.specs.Lines.{GoesOn, IsLine, those_of}
use Rattle.tag_bell.proofs.Goes.{goes_none, goes_tell, goes_within, those_none}
use Rattle.tag_bell.proofs.Lines.{tell_line, tell_turn}
use Rattle.tag_bell.proofs.Ones.{ones_less, ones_with}
use Rattle.tag_bell.proofs.Rung.{rung, steps_added}

-- it told nobody, or this one, which it then leaves told
abbrev pub IsHit : ℕ → Waiter → ℕ → Berth → Type 0
IsHit whom waiter turn b =
    (newly_told whom waiter turn b ≡ 2 ^ whom) × IsTold (same_waiter waiter) (told_as waiter turn b)

hit : (whom u : ℕ) (w : Waiter) → IsTrue (same_waiter w w) → (b : Bool) → (cond b (2 ^ whom) 0 ≡ 0)
    ⊎ ((cond b (2 ^ whom) 0 ≡ 2 ^ whom) × IsTold (same_waiter w) (cond b (Told w u) (Listed w u)))
hit whom u w is true = inr (refl, is)
hit whom u w is false = inl refl

pub newly : (whom : ℕ) (waiter : Waiter) (turn : ℕ) (b : Berth) → (newly_told whom waiter turn b ≡ 0)
    ⊎ IsHit whom waiter turn b
newly whom waiter turn Up = inl refl
newly whom Sleeper turn (Listed Sleeper u) = hit whom u Sleeper refl (nat_eq u turn)
newly whom Sleeper turn (Listed Listener u) = inl refl
newly whom Listener turn (Listed Sleeper u) = inl refl
newly whom Listener turn (Listed Listener u) = hit whom u Listener refl (nat_eq u turn)
newly whom waiter turn (Told v u) = inl refl

-- how many it has told, and who is left
module _ (told left whom : ℕ) (waiter : Waiter) (turn : ℕ) (b : Berth)
    (apart : (e : ℕ) → bit_at told e ≡ 1 → bit_at left e ≡ 0) where
  pub apart_on : (e : ℕ) → bit_at (bit_or told (newly_told whom waiter turn b)) e ≡ 1
      → bit_at (without left (2 ^ whom)) e ≡ 0
  apart_on e on = dite (ℕ_discrete e whom)
      (λ (it : e ≡ whom). without-in left (2 ^ whom) e (ap (bit_at (2 ^ whom)) it ∙ bit_at-pow_same whom))
      (λ (ne : e ≢ whom). without-none left (2 ^ whom) e (apart e (was ne)))
    where
      off : e ≢ whom → bit_at (newly_told whom waiter turn b) e ≡ 0
      off ne = ⊎_elim (λ none. ap (λ (n : ℕ). bit_at n e) none ∙ bit_at-zero e)
          (λ is. ap (λ (n : ℕ). bit_at n e) is.0 ∙ bit_at-pow_other whom e ne) (newly whom waiter turn b)

      was : e ≢ whom → bit_at told e ≡ 1
      was ne = let both = bit_at_or told (newly_told whom waiter turn b) e in let none = off ne in omega arith

  pub ones_told : bit_at left whom ≡ 1 → newly_told whom waiter turn b ≢ 0
      → count_ones (bit_or told (newly_told whom waiter turn b)) ≡ count_ones told + 1
  ones_told set some = ⊎_elim (λ none. absurd (some none))
      (λ is. ap (λ (n : ℕ). count_ones (bit_or told n)) is.0 ∙ ones_with told whom clear) (newly whom waiter turn b)
    where
      clear : bit_at told whom ≡ 0
      clear = let low = bit_at-lt told whom in dite (ℕ_discrete (bit_at told whom) 1)
          (λ (on : bit_at told whom ≡ 1). let off = apart whom on in absurd (omega arith))
          (λ (off : bit_at told whom ≢ 1). omega arith)

pub ones_same : (told new : ℕ) → new ≡ 0 → count_ones (bit_or told new) ≡ count_ones told
ones_same told new none = ap (λ (n : ℕ). count_ones (bit_or told n)) none ∙ ap count_ones (or_zero_r told)

module _ {R : Type 0} (waiter : Waiter) (whom turn : ℕ) (found : Berth) (old new : Caller R)
    (did : Adds (Bell (Tell whom waiter turn found)) old new) where
  own : (record_of new).steps ≡ Bell (Tell whom waiter turn found) ∷ (record_of old).steps
  own = steps_added (Bell (Tell whom waiter turn found) ∷ []) old new (rung (Tell whom waiter turn found) old new did)

  pub tell_round : IsInRound (record_of old).steps → IsInRound (record_of new).steps
  tell_round now = subst (λ (s : List (Step R)). IsInRound s) (sym own) now

  pub tell_coming : coming_in (record_of new).steps ≡ coming_in (record_of old).steps
  tell_coming = ap coming_in own

  -- whoever told somebody has nothing to see to
  pub tell_met : (told : ℕ)
      → (told ≢ 0 → (spot : Spot) (e : ℕ) → ¬ Owes (same_waiter waiter) (record_of old).steps spot e)
      → bit_or told (newly_told whom waiter turn found) ≢ 0 → (spot : Spot) (e : ℕ)
      → ¬ Owes (same_waiter waiter) (record_of new).steps spot e
  tell_met told met some spot e owes = ⊎_elim (λ none. met (was none) spot e owed.2) (λ is. owed.0.0 is.1)
      (newly whom waiter turn found)
    where
      owed : Owes (same_waiter waiter) (Bell (Tell whom waiter turn found) ∷ (record_of old).steps) spot e
      owed = subst (λ (s : List (Step R)). Owes (same_waiter waiter) s spot e) own owes

      was : newly_told whom waiter turn found ≡ 0 → told ≢ 0
      was none nobody = some (ap (λ (n : ℕ). bit_or told n) none ∙ or_zero_r told ∙ nobody)

  pub tell_left : (left : ℕ) (turns : List ℕ) → turn ≡ slice_index turns whom
      → IsLine waiter (λ e. Unit {0}) left turns (record_of old).steps → bit_at left whom ≡ 1 → whom < 64
      → left < 2 ^ 64 → IsLine waiter (λ e. Unit {0}) (without left (2 ^ whom)) turns (record_of new).steps
  tell_left left turns is line set low fits = subst (λ (s : List (Step R)).
      IsLine waiter (λ e. Unit {0}) (without left (2 ^ whom)) turns s) (sym own)
      (subst (λ (t : ℕ). IsLine waiter (λ e. Unit {0}) (without left (2 ^ whom)) turns
      (Bell (Tell whom waiter t found) ∷ (record_of old).steps)) (sym is)
      (tell_line waiter left turns (record_of old).steps line whom set low fits found))

-- it has tried each of those listed that is no longer left, in the order of their turns, told these, and has room for
-- so many more
pub record TellsOn {R : Type 0} (waiter : Waiter) (listed : ℕ) (turns : List ℕ) (most left told room : ℕ)
    (first now : Caller R) : Type 0 where
  pub round : IsInRound (record_of now).steps
  pub line : IsLine waiter (λ e. Unit {0}) left turns (record_of now).steps
  pub part : count_ones left ≤ count_ones listed
  pub goes : GoesOn (count_ones listed - count_ones left) (those_of waiter told) first now
  pub apart : (e : ℕ) → bit_at told e ≡ 1 → bit_at left e ≡ 0
  pub count : count_ones told + room ≡ most
  pub coming : coming_in (record_of now).steps ≡ coming_in (record_of first).steps
  pub met : told ≢ 0 → (spot : Spot) (e : ℕ) → ¬ Owes (same_waiter waiter) (record_of now).steps spot e

module _ {R : Type 0} (waiter : Waiter) (listed : ℕ) (turns : List ℕ) (most : ℕ) (first : Caller R) where
  pub tells_none : (told : ℕ) → told ≡ 0 → IsInRound (record_of first).steps
      → IsLine waiter (λ e. Unit {0}) listed turns (record_of first).steps
      → TellsOn waiter listed turns most listed told most first first
  tells_none told none now line = record {
    round = now;
    line = line;
    part = omega arith;
    goes = goes_none (count_ones listed - count_ones listed) (those_of waiter told) first (those_none waiter told none);
    apart = λ e on. let off : bit_at told e ≡ 0 = ap (λ (n : ℕ). bit_at n e) none ∙ bit_at-zero e in
        absurd (omega arith);
    count = let same = ap count_ones none in let no_ones = count_ones-zero in omega arith;
    coming = refl;
    met = λ some. absurd (some none);
  }

  module _ (left told room : ℕ) (old : Caller R)
      (before : TellsOn waiter listed turns most left told room first old) where
    module _ (new : Caller R) (whom : ℕ) (found : Berth) (set : bit_at left whom ≡ 1) (low : whom < 64)
        (fits : left < 2 ^ 64) (lowest : (e : ℕ) → bit_at left e ≡ 1 → slice_index turns whom ≤ slice_index turns e)
        (did : Adds (Bell (Tell whom waiter (slice_index turns whom) found)) old new) where
      abbrev bit : ℕ
      bit = newly_told whom waiter (slice_index turns whom) found

      pub tells_more : (more : ℕ) → (bit ≢ 0 → more + 1 ≡ room) → (bit ≡ 0 → more ≡ room)
          → TellsOn waiter listed turns most (without left (2 ^ whom)) (bit_or told bit) more first new
      tells_more more less same = let fewer = ones_less left whom fits low set in let few = before.part in record {
        round = tell_round waiter whom (slice_index turns whom) found old new did before.round;
        line = tell_left waiter whom (slice_index turns whom) found old new did left turns refl before.line set low
            fits;
        part = omega arith;
        goes = goes_within (count_ones listed - count_ones left + 1)
            (count_ones listed - count_ones (without left (2 ^ whom))) (those_of waiter (bit_or told bit)) first new
            (omega arith) (goes_tell (count_ones listed - count_ones left) waiter told first old new before.goes whom
            (slice_index turns whom) found did
            (tell_turn waiter left turns (record_of old).steps before.line whom set low fits found lowest));
        apart = apart_on told left whom waiter (slice_index turns whom) found before.apart;
        count = let was = before.count in dite (ℕ_discrete bit 0)
            (λ (none : bit ≡ 0). let is = ones_same told bit none in let room_is = same none in omega arith)
            (λ (some : bit ≢ 0). let is = ones_told told left whom waiter (slice_index turns whom) found before.apart
            set some in let room_is = less some in omega arith);
        coming = tell_coming waiter whom (slice_index turns whom) found old new did ∙ before.coming;
        met = tell_met waiter whom (slice_index turns whom) found old new did told before.met;
      }
