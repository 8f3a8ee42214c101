-- What a change of the tags that one side holds is for its hand.
use Rattle.std.specs.Prelude.{◌↔◌, ◌≡◌, ◌≢◌}
use Rattle.tag_pool.proofs.Uses.{Side, side_of, ap, Hand, Holds, HoldsLess, HoldsMore, HoldsSame, inl, inr, Kind, kind_of, number_in_set, other_kind, refl, slot_of, split_of, subst, sym, ℕ, ⊎_elim, ◌∙◌}
use Rattle.tag_pool.specs.Sides as side
use Rattle.tag_pool.proofs.Numbering.{one_tag, this_or_other}

-- the tag is in this set, and its number there is one of those named
abbrev pub InSet : {R : Type 0} → Hand R → Kind → (ℕ → Type 0) → ℕ → Type 0
InSet hand kind named tag = (kind_of (split_of hand) tag ≡ kind) × named (number_in_set (split_of hand) tag)

module _ {R : Type 0} where
  same_holds : (a b : Side R) (m n : ℕ) → a ≡ b → m ≡ n → side.Holds a m → side.Holds b n
  same_holds a b m n agents numbers h = subst (λ (x : Side R). side.Holds x n) agents
      (subst (λ (x : ℕ). side.Holds a x) numbers h)

  same_slot : (a b : Side R) (m n : ℕ) → a ≡ b → m ≡ n → side.slot_of a m ≡ side.slot_of b n
  same_slot a b m n agents numbers = ap (λ (x : ℕ). side.slot_of a x) numbers
      ∙ ap (λ (x : Side R). side.slot_of x n) agents

  -- the tag with this set and this number there is the only one
  pub one_like : (hand : Hand R) (kind : Kind) (number tag : ℕ) → kind ≡ kind_of (split_of hand) tag
      → number ≡ number_in_set (split_of hand) tag
      → (other : ℕ) → InSet hand kind (λ m. m ≡ number) other ↔ (other ≡ tag)
  one_like hand kind number tag k n other = (
    (λ s. one_tag (split_of hand) other tag (s.0 ∙ k) (s.1 ∙ n)),
    (λ e. (ap (kind_of (split_of hand)) e ∙ sym k, ap (number_in_set (split_of hand)) e ∙ sym n)),
  )

  module _ (old new : Hand R) (kind : Kind) (other : side_of new (other_kind kind) ≡ side_of old (other_kind kind))
      (split : split_of new ≡ split_of old) where
    same_number : (tag : ℕ) → number_in_set (split_of new) tag ≡ number_in_set (split_of old) tag
    same_number tag = ap (λ (s : ℕ). number_in_set s tag) split

    same_kind : (tag : ℕ) → kind_of (split_of new) tag ≡ kind_of (split_of old) tag
    same_kind tag = ap (λ (s : ℕ). kind_of s tag) split

    here : (hand : Hand R) (k : Kind) → k ≡ kind → side_of hand k ≡ side_of hand kind
    here hand k e = ap (side_of hand) e

    -- the side for a tag of the other set is unchanged
    elsewhere : (tag : ℕ) → kind_of (split_of old) tag ≡ other_kind kind
        → side_of new (kind_of (split_of new) tag) ≡ side_of old (kind_of (split_of old) tag)
    elsewhere tag e = ap (side_of new) (same_kind tag ∙ e) ∙ other ∙ sym (ap (side_of old) e)

    -- for a tag of this set, holding the tag and holding its number are the same, now and before
    now_in : (tag : ℕ) → kind_of (split_of old) tag ≡ kind → Holds new tag
        → side.Holds (side_of new kind) (number_in_set (split_of old) tag)
    now_in tag e h = same_holds _ _ _ _ (ap (side_of new) (same_kind tag ∙ e)) (same_number tag) h

    now_out : (tag : ℕ) → kind_of (split_of old) tag ≡ kind
        → side.Holds (side_of new kind) (number_in_set (split_of old) tag) → Holds new tag
    now_out tag e h = same_holds _ _ _ _ (sym (ap (side_of new) (same_kind tag ∙ e))) (sym (same_number tag)) h

    was_in : (tag : ℕ) → kind_of (split_of old) tag ≡ kind → Holds old tag
        → side.Holds (side_of old kind) (number_in_set (split_of old) tag)
    was_in tag e h = same_holds _ _ _ _ (ap (side_of old) e) refl h

    was_out : (tag : ℕ) → kind_of (split_of old) tag ≡ kind
        → side.Holds (side_of old kind) (number_in_set (split_of old) tag) → Holds old tag
    was_out tag e h = same_holds _ _ _ _ (sym (ap (side_of old) e)) refl h

    slot_kept : (tag : ℕ) → kind_of (split_of old) tag ≡ kind
        → side.slot_of (side_of new kind) (number_in_set (split_of old) tag)
        ≡ side.slot_of (side_of old kind) (number_in_set (split_of old) tag)
        → slot_of new tag ≡ slot_of old tag
    slot_kept tag e s = same_slot _ _ _ _ (ap (side_of new) (same_kind tag ∙ e)) (same_number tag) ∙ s
        ∙ sym (same_slot _ _ _ _ (ap (side_of old) e) refl)

    stays : (tag : ℕ) → kind_of (split_of old) tag ≡ other_kind kind → Holds old tag → Holds new tag
        × (slot_of new tag ≡ slot_of old tag)
    stays tag e h = (
      same_holds _ _ _ _ (sym (elsewhere tag e)) (sym (same_number tag)) h,
      same_slot _ _ _ _ (elsewhere tag e) (same_number tag),
    )

    stayed : (tag : ℕ) → kind_of (split_of old) tag ≡ other_kind kind → Holds new tag → Holds old tag
    stayed tag e h = same_holds _ _ _ _ (elsewhere tag e) (same_number tag) h

    -- if the side of one set holds fewer tags, so does the hand
    pub less : (named : ℕ → Type 0) → side.HoldsLess named (side_of old kind) (side_of new kind)
        → HoldsLess (InSet old kind named) old new
    less named l = record {
      gone = λ tag n h. l.gone (number_in_set (split_of old) tag) n.1 (now_in tag n.0 h);
      kept = λ tag n h. ⊎_elim
          (λ (e : kind_of (split_of old) tag ≡ kind). let a =
          l.kept (number_in_set (split_of old) tag) (λ m. n (e, m)) (was_in tag e h) in
          (now_out tag e a.0, slot_kept tag e a.1))
          (λ (e : kind_of (split_of old) tag ≡ other_kind kind). stays tag e h)
          (this_or_other (kind_of (split_of old) tag) kind);
      none_else = λ tag h. ⊎_elim
          (λ (e : kind_of (split_of old) tag ≡ kind). was_out tag e
          (l.none_else (number_in_set (split_of old) tag) (now_in tag e h)))
          (λ (e : kind_of (split_of old) tag ≡ other_kind kind). stayed tag e h)
          (this_or_other (kind_of (split_of old) tag) kind);
    }

    -- if the side of one set holds more tags, so does the hand
    pub more : (named : ℕ → Type 0) → side.HoldsMore named (side_of old kind) (side_of new kind)
        → HoldsMore (InSet old kind named) old new
    more named m = record {
      fresh = λ tag n h. m.fresh (number_in_set (split_of old) tag) n.1 (was_in tag n.0 h);
      joined = λ tag n. now_out tag n.0 (m.joined (number_in_set (split_of old) tag) n.1);
      kept = λ tag h. ⊎_elim
          (λ (e : kind_of (split_of old) tag ≡ kind). let a =
          m.kept (number_in_set (split_of old) tag) (was_in tag e h) in
          (now_out tag e a.0, slot_kept tag e a.1))
          (λ (e : kind_of (split_of old) tag ≡ other_kind kind). stays tag e h)
          (this_or_other (kind_of (split_of old) tag) kind);
      none_else = λ tag h. ⊎_elim
          (λ (e : kind_of (split_of old) tag ≡ kind). ⊎_elim
          (λ (o : side.Holds (side_of old kind) (number_in_set (split_of old) tag)). inl (was_out tag e o))
          (λ (n : named (number_in_set (split_of old) tag)). inr (e, n))
          (m.none_else (number_in_set (split_of old) tag) (now_in tag e h)))
          (λ (e : kind_of (split_of old) tag ≡ other_kind kind). inl (stayed tag e h))
          (this_or_other (kind_of (split_of old) tag) kind);
    }

    -- if the side of one set holds the same tags, so does the hand
    pub same : side.HoldsSame (side_of old kind) (side_of new kind) → HoldsSame old new
    same s = record {
      kept = λ tag h. ⊎_elim
          (λ (e : kind_of (split_of old) tag ≡ kind). let a =
          s.kept (number_in_set (split_of old) tag) (was_in tag e h) in
          (now_out tag e a.0, slot_kept tag e a.1))
          (λ (e : kind_of (split_of old) tag ≡ other_kind kind). stays tag e h)
          (this_or_other (kind_of (split_of old) tag) kind);
      none_else = λ tag h. ⊎_elim
          (λ (e : kind_of (split_of old) tag ≡ kind). was_out tag e
          (s.none_else (number_in_set (split_of old) tag) (now_in tag e h)))
          (λ (e : kind_of (split_of old) tag ≡ other_kind kind). stayed tag e h)
          (this_or_other (kind_of (split_of old) tag) kind);
    }

    -- if the side of one set keeps its tags, and their slots but for one number, so does the hand
    pub same_but : (number : ℕ) → ((m : ℕ) → side.Holds (side_of old kind) m → side.Holds (side_of new kind) m
        × (m ≢ number → side.slot_of (side_of new kind) m ≡ side.slot_of (side_of old kind) m))
        → (tag : ℕ) → Holds old tag
        → Holds new tag × (¬ (InSet old kind (λ m. m ≡ number) tag) → slot_of new tag ≡ slot_of old tag)
    same_but number s tag h = ⊎_elim
        (λ (e : kind_of (split_of old) tag ≡ kind). let a = s (number_in_set (split_of old) tag) (was_in tag e h) in
        (now_out tag e a.0, λ n. slot_kept tag e (a.1 (λ is. n (e, is)))))
        (λ (e : kind_of (split_of old) tag ≡ other_kind kind). let a = stays tag e h in (a.0, λ n. a.1))
        (this_or_other (kind_of (split_of old) tag) kind)

    -- if the side of one set gains no tag, neither does the hand
    pub none_new : ((m : ℕ) → side.Holds (side_of new kind) m → side.Holds (side_of old kind) m) → (tag : ℕ)
        → Holds new tag → Holds old tag
    none_new s tag h = ⊎_elim
        (λ (e : kind_of (split_of old) tag ≡ kind). was_out tag e (s (number_in_set (split_of old) tag) (now_in tag e h)))
        (λ (e : kind_of (split_of old) tag ≡ other_kind kind). stayed tag e h)
        (this_or_other (kind_of (split_of old) tag) kind)
