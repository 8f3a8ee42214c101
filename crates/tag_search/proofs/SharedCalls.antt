-- The steps that calls on a shared map add, in the form of the port's clauses.
use Rattle.std.specs.Prelude.{◌+◌, ◌<◌, ◌^◌, ◌∷◌, ◌≡◌, ◌≢◌}
use Rattle.tag_search.proofs.Uses.{[], Adds, adds_on, AddsAll, AddsThrough, AddsTwo, ap, arith, bit_at, bit_at-lt, bit_at_or, bit_is, bit_or, Caller, Claimed, count_ones, count_ones-zero, dite, Err, FindsHeldBy, FindsWord, freed_by, get_or, get_or-set_other, get_or-set_same, HasRoom, HoldsMore}
use Rattle.tag_search.proofs.Uses.{held_after_word, Holds, IfErr, IfOk, inl, inr, IsCallerOf, IsKeepingSweep, IsLeastKept, IsSweep, joined, Keep, KeepsLeast, kept_alone, kept_one, latest_after_all, latest_of, Layout, layout_of, length, List, LookAside, Map, minus_le, none_where_taken, Ok, place_of}
use Rattle.tag_search.proofs.Uses.{Ports, Record, Result, SameRoom, Shape, Shared, Spill, subst, Swap, sym, tag_at, tag_at-back, tag_bit, total, without, Word, word_of, words, WordStep, ℕ, ℕ_discrete, ◌∙◌}
use Rattle.tag_core.proofs.TagBits.{small_word}
use Rattle.tag_search.proofs.OneTag.{one_place}
use Rattle.tag_core.specs.Claims.{ClaimsPlace}

-- adding bits to a word keeps the bit of a tag
pub bit_kept : (l : Layout) (held : List ℕ) (i mask tag : ℕ) → i < length held → tag_bit l held tag ≡ 1
    → tag_bit l (joined held i mask) tag ≡ 1
bit_kept l held i mask tag h one = dite (ℕ_discrete (word_of l tag) i)
    (λ e.
    let was : bit_at (get_or held i 0) (place_of l tag) ≡ 1 = ap (λ (j : ℕ). bit_at (get_or held j 0) (place_of l tag))
    (sym e) ∙ one in
    let both = bit_at_or (get_or held i 0) mask (place_of l tag) in let small = bit_at-lt mask (place_of l tag) in
    ap (λ (j : ℕ). bit_at (get_or (joined held i mask) j 0) (place_of l tag)) e
    ∙ ap (λ (x : ℕ). bit_at x (place_of l tag)) (get_or-set_same held i (bit_or (get_or held i 0) mask) 0 h)
    ∙ omega arith)
    (λ ne. ap (λ (x : ℕ). bit_at x (place_of l tag))
    (get_or-set_other held i (word_of l tag) (bit_or (get_or held i 0) mask) 0 ne) ∙ one)

-- a caller holds a tag whose bit is in its new held set
holds_by : {R : Type 0} (old new : Caller R) (held : List ℕ) (tag : ℕ) → new.shape.value ≡ old.shape.value
    → new.held.items ≡ held
    → Holds old tag → tag_bit old.shape.value.layout held tag ≡ 1 → Holds new tag
holds_by old new held tag shape items was bit =
    let depth : new.shape.value.layout.depth ≡ old.shape.value.layout.depth = λ z. (shape z).layout.depth in
    let below : tag < old.shape.value.layout.depth = was.0 in (
      (let z : tag < new.shape.value.layout.depth = omega arith in z),
      (λ z. tag_bit (shape z).layout (items z) tag)
          ∙ bit,
    )

-- one step that keeps all tags held
pub adds_one : {R : Type 0} (step : WordStep) (old new : Caller R) → Adds (Word step) old new → FindsWord step
    → FindsHeldBy old step
    → ((tag : ℕ) → tag_bit old.shape.value.layout old.held.items tag ≡ 1 → tag_bit old.shape.value.layout
    (held_after_word step old.held.items) tag ≡ 1)
    → AddsAll (step ∷ []) old new
adds_one {R} step old new a fits found_held keeps = record {
  known = a.known;
  kept = λ tag was.
      let is : Holds new tag = holds_by old new (held_after_word step old.held.items) tag
      (ap (λ (r : Record R). r.shape) a.known) (ap (λ (r : Record R). r.held) a.known) was (keeps tag was.1) in
      (is, a.slots tag was is);
  finds = (fits, tt);
  finds_held = (found_held, tt);
  same_map = a.same_map;
}

-- a swap, and a spill of the mask that it found
pub adds_two : {R : Type 0} (i mask found : ℕ) (old new : Caller R) → mask < 2 ^ 64
    → AddsTwo (Word (Swap i mask)) (Word (Spill i mask found)) old new
    → AddsAll (Swap i mask ∷ Spill i mask found ∷ []) old new
adds_two {R} i mask found old new fits a = record {
  known = a.known;
  kept = λ tag was.
      let is : Holds new tag = holds_by old new old.held.items tag (ap (λ (r : Record R). r.shape) a.known)
      (ap (λ (r : Record R). r.held) a.known) was was.1 in
      (is, a.slots tag was is);
  finds = (tt, (fits, tt));
  finds_held = (tt, (tt, tt));
  same_map = a.same_map;
}

-- a claim in a word of the map
pub adds_claim : {R : Type 0} (i mask found : ℕ) (old new : Caller R) → i < length old.held.items → found < 2 ^ 64
    → FindsHeldBy old (Claimed i mask found) → Adds (Word (Claimed i mask found)) old new
    → AddsAll (Claimed i mask found ∷ []) old new
adds_claim i mask found old new near fits found_held a = adds_one (Claimed i mask found) old new a fits found_held
    (λ tag. bit_kept old.shape.value.layout old.held.items i (without mask found) tag near)

-- a load of the cleared set, and the steps after it, on a port that counts what they free
pub swept_so : {R : Type 0} (fact : List WordStep → Type 0) (i seen : ℕ) (rest : List WordStep) (old new : Shared R)
    (mid : Caller R)
    → new.map.now ≡ old.map.now → new.caller.ghost_name ≡ old.caller.ghost_name
    → (old.freed + total freed_by rest < 2 ^ 64 → new.freed ≡ old.freed + total freed_by rest)
    → latest_of new ≡ latest_after_all rest (latest_of old) → Adds (Word (LookAside i seen)) old.caller.now mid
    → AddsAll rest mid new.caller.now → fact (LookAside i seen ∷ rest) → Ports AddsThrough old new fact
swept_so fact i seen rest old new mid map lent counts latest look more is = record {
  steps = LookAside i seen ∷ rest;
  added = record {
    added = adds_on old.caller.now mid new.caller.now (LookAside i seen ∷ []) rest
        (adds_one (LookAside i seen) old.caller.now mid look tt tt (λ tag h. h)) more;
    map = map;
    lent = lent;
    freed = λ fits. let counted = counts (omega arith) in omega arith;
    latest = latest;
  };
  holds = is;
}

-- where they are the steps of a sweep
pub swept : {R : Type 0} (i mask seen : ℕ) (rest : List WordStep) (old new : Shared R) (mid : Caller R)
    → new.map.now ≡ old.map.now → new.caller.ghost_name ≡ old.caller.ghost_name
    → (old.freed + total freed_by rest < 2 ^ 64 → new.freed ≡ old.freed + total freed_by rest)
    → latest_of new ≡ latest_after_all rest (latest_of old) → Adds (Word (LookAside i seen)) old.caller.now mid
    → AddsAll rest mid new.caller.now → IsSweep i mask (LookAside i seen ∷ rest)
    → Ports AddsThrough old new (IsSweep i mask)
swept i mask = swept_so (IsSweep i mask) i

-- a sweep that kept the least tag, on a map of the caller
module _ {R : Type 0} (m : Map R) (old new : Caller R) (own : IsCallerOf m old) (i place rest : ℕ)
    (kept : KeepsLeast (layout_of m) i place rest old new)
    (gains : HoldsMore (λ t. t ≡ tag_at (layout_of m) i place) old new) where
  -- what was swept is a word of 64 bits
  pub mask_small : kept.mask < 2 ^ 64
  mask_small = small_word m.shape m.small.1 i kept.mask kept.within

  -- the caller held no tag that it kept
  unheld : FindsHeldBy old (Keep i (2 ^ place))
  unheld tag has here = elim (bit_is (2 ^ place) (place_of old.shape.value.layout tag)) [
    | inl one ↦ absurd (gains.fresh tag (named tag here (one_place place (place_of old.shape.value.layout tag) one)) has)
    | inr none ↦ none
  ]
    where
      named : (tag : ℕ) → word_of old.shape.value.layout tag ≡ i → place_of old.shape.value.layout tag ≡ place
          → tag ≡ tag_at (layout_of m) i place
      named tag here at = sym (tag_at-back old.shape.value.layout tag)
          ∙ (λ z. tag_at (own.1 z).layout (here z) (at z))

  -- its steps where it kept all, and where it freed the rest
  pub adds_alone : rest ≡ 0 → AddsAll (Swap i kept.mask ∷ Keep i (2 ^ place) ∷ []) old new
  adds_alone none = let a = kept.alone none in record {
    known = a.known;
    kept = gains.kept;
    finds = (tt, (tt, tt));
    finds_held = (tt, (unheld, tt));
    same_map = a.same_map;
  }

  pub adds_others : (some : rest ≢ 0)
      → AddsAll (Swap i kept.mask ∷ Keep i (2 ^ place) ∷ Spill i rest (kept.others some).0 ∷ []) old new
  adds_others some = let a = (kept.others some).1 in let few = minus_le kept.mask (2 ^ place) in
      let small = mask_small in let is = kept.rest_is in record {
        known = a.known;
        kept = gains.kept;
        finds = (tt, (tt, (omega arith, tt)));
        finds_held = (tt, (unheld, (tt, tt)));
        same_map = a.same_map;
      }

  -- behind a load that saw something aside, they are a sweep that kept the least place
  pub least_alone : (seen : ℕ) → seen ≢ 0 → rest ≡ 0
      → IsLeastKept i place (LookAside i seen ∷ Swap i kept.mask ∷ Keep i (2 ^ place) ∷ [])
  least_alone seen some none = record {
    mask = kept.mask;
    least = kept.least;
    sweep = kept_alone some mask_small (sym kept.rest_is ∙ none);
  }

  pub least_others : (seen found : ℕ) → seen ≢ 0 → rest ≢ 0
      → IsLeastKept i place (LookAside i seen ∷ Swap i kept.mask ∷ Keep i (2 ^ place) ∷ Spill i rest found ∷ [])
  least_others seen found some others = record {
    mask = kept.mask;
    least = kept.least;
    sweep = subst (λ (x : ℕ). IsKeepingSweep i kept.mask place
        (LookAside i seen ∷ Swap i kept.mask ∷ Keep i (2 ^ place) ∷ Spill i x found ∷ [])) (sym kept.rest_is)
        (kept_one some mask_small (λ none. others (kept.rest_is ∙ none)));
  }

-- a claim of one place in a word of the map, by the port's caller
pub through_claim : {R : Type 0} (old new : Shared R) (i place found : ℕ) → IsCallerOf old.map.now old.caller.now
    → i < words (layout_of old.map.now) → new.map.now ≡ old.map.now → new.caller.ghost_name ≡ old.caller.ghost_name
    → (new.freed ≡ old.freed) × (latest_of new ≡ latest_of old)
    → ClaimsPlace (layout_of old.map.now) i place found old.caller.now new.caller.now
    → AddsThrough old (Claimed i (2 ^ place) found ∷ []) new
through_claim old new i place found own inside map lent same claim =
    let w = old.caller.now in
    let near : i < length w.held.items =
    subst (λ (n : ℕ). i < n) (sym w.wide) (subst (λ (k : Shape). i < words k.layout) (sym own.1) inside) in
    let finds : FindsHeldBy w (Claimed i (2 ^ place) found) = λ tag has is.
    ap (λ (k : Shape). bit_at found (place_of k.layout tag)) own.1
    ∙ claim.held tag has (ap (λ (k : Shape). word_of k.layout tag) (sym own.1) ∙ is) in
    record {
      added = adds_claim i (2 ^ place) found w new.caller.now near claim.fits finds claim.step;
      map = map;
      lent = lent;
      freed = λ fits. let freed = same.0 in omega arith;
      latest = same.1;
    }

-- a claim of one place that found it taken keeps the caller's room
pub same_room_lost : {R : Type 0} (old new : Caller R) (i place found : ℕ) → place < 64 → found < 2 ^ 64
    → bit_at found place ≡ 1 → Adds (Word (Claimed i (2 ^ place) found)) old new → SameRoom HasRoom old new
same_room_lost old new i place found low fits taken adds n =
    let none = none_where_taken found place fits low taken in
    let won = ap (λ (r : Record _). r.won) adds.known
    ∙ ap (λ (x : ℕ). old.won + count_ones x) none ∙ ap (λ (x : ℕ). old.won + x) count_ones-zero in
    let life = ap (λ (r : Record _). r.shape.life) adds.known in (
      (λ h. let z : HasRoom new n = omega arith in z),
      (λ h. let z : HasRoom old n = omega arith in z),
    )

-- a fact of each answer of a kind gives another
pub if_ok : {T E : Type 0} {P Q : T → Type 0} (r : Result T E) → ((x : T) → P x → Q x) → IfOk r P → IfOk r Q
if_ok (Ok x) to p = to x p
if_ok (Err e) to p = tt

pub if_err : {T E : Type 0} {P Q : E → Type 0} (r : Result T E) → ((e : E) → P e → Q e) → IfErr r P → IfErr r Q
if_err (Ok x) to p = tt
if_err (Err e) to p = to e p
