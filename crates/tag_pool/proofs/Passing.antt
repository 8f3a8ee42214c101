-- What clears, reads, writes, posts and takes in one set are for the hand.
use Rattle.std.specs.Prelude.{◌-◌, ◌<◌, ◌≡◌, ◌≢◌, ◌≤◌, Option}
use Rattle.tag_pool.proofs.Uses.{ap, arith, Changes, ChangesAt, dite, Hand, HoldsLess, Kind, kind_of, layout_of, number_in_set, Ordinary, other_kind, Pool, Record, record_of, refl, Reserved, Side, side_of, slot_of, some, split_of, subst, sym, tag_bit, with_side, ℕ, ℕ_discrete, ◌∙◌}
use Rattle.tag_pool.specs.Sides as side
use Rattle.tag_pool.specs.Clears.{Clears}
use Rattle.tag_pool.specs.Slots.{Misses, Posts, Reads, ReadsNote, Takes, Writes}
use Rattle.tag_pool.proofs.Numbering.{ordinary_above, reserved_below}
use Rattle.tag_pool.proofs.Lifting.{less, more, same, same_but, none_new, one_like}
use Rattle.tag_model.proofs.HoldingFacts.{less_like, more_like}

-- the tag is in this set and has this number there
pub record IsAt {R : Type 0} (hand : Hand R) (tag : ℕ) (kind : Kind) (number : ℕ) : Type 0 where
  pub kind_is : kind ≡ kind_of (split_of hand) tag
  pub number_is : number ≡ number_in_set (split_of hand) tag

module _ {R : Type 0} where
  -- which tags a side holds depends only on its record
  holds_by : (old new : Side R) (n : ℕ) → record_of (side.caller_of new) ≡ record_of (side.caller_of old)
      → side.Holds old n → side.Holds new n
  holds_by old new n known h =
      subst (λ (r : Record R). (n < r.shape.layout.depth) × (tag_bit r.shape.layout r.held n ≡ 1)) (sym known) h

  -- writing back the value found leaves every slot unchanged
  writes_back : (old new : Side R) (n : ℕ) (value : R) → side.slot_of old n ≡ some value → side.Writes n value old new
      → side.HoldsSame old new
  writes_back old new n value found w = record {
    kept = λ m h. (
      holds_by old new m w.known h,
      dite (ℕ_discrete m n)
          (λ (e : m ≡ n). ap (side.slot_of new) e ∙ w.put ∙ sym found ∙ sym (ap (side.slot_of old) e))
          (λ (ne : m ≢ n). w.others m h ne),
    );
    none_else = λ m h. holds_by new old m (sym w.known) h;
  }

  module _ (hand : Hand R) (reserved tag : ℕ) (split : split_of hand ≡ reserved) where
    -- a number below that of the reserved tags is a reserved tag's, and its own there
    pub at_reserved : tag < reserved → IsAt hand tag Reserved tag
    at_reserved below = let r = reserved_below (split_of hand) tag (omega (arith, split)) in
        record { kind_is = sym r.kind; number_is = sym r.number }

    -- any other is counted from the first ordinary tag
    pub at_ordinary : reserved ≤ tag → IsAt hand tag Ordinary (tag - reserved)
    at_ordinary above = let o = ordinary_above (split_of hand) tag (omega (arith, split)) in let n = o.number in
        record { kind_is = sym o.kind; number_is = omega (arith, split) }

  -- a hand with another side in one set
  module _ (hand : Hand R) (kind : Kind) (new : Side R) where
    abbrev pub after : Hand R
    after = with_side hand kind new

    pub here : side_of after kind ≡ new
    here = now kind
      where
        now : (j : Kind) → side_of (with_side hand j new) j ≡ new
        now Ordinary = refl
        now Reserved = refl

    pub beside : side_of after (other_kind kind) ≡ side_of hand (other_kind kind)
    beside = now kind
      where
        now : (j : Kind) → side_of (with_side hand j new) (other_kind j) ≡ side_of hand (other_kind j)
        now Ordinary = refl
        now Reserved = refl

    pub parted : split_of after ≡ split_of hand
    parted = now kind
      where
        now : (j : Kind) → split_of (with_side hand j new) ≡ split_of hand
        now Ordinary = refl
        now Reserved = refl

    -- the tag is in the set and has this number there
    module _ (number tag : ℕ) (at : IsAt hand tag kind number) where
      -- a change in the set of a tag, by the set and the tag's number there
      changes_at : (change : Kind → ℕ → Side R → Side R → Type 0) → change kind number (side_of hand kind) new
          → ChangesAt tag change hand after
      changes_at change h = subst (λ (m : ℕ). Changes (kind_of (split_of hand) tag) (change (kind_of (split_of hand) tag) m)
          hand after) at.number_is
          (subst (λ (j : Kind). Changes j (change j number) hand after) at.kind_is (record {
            changed = subst (change kind number (side_of hand kind)) (sym here) h;
            other = beside;
            split = parted;
          }))

      slot_now : side.slot_of new number ≡ slot_of after tag
      slot_now = ap (λ (s : Side R). side.slot_of s number) (sym here)
          ∙ ap (side.slot_of (side_of after kind)) at.number_is
          ∙ ap (λ (j : Kind). side.slot_of (side_of after j) (number_in_set (split_of hand) tag)) at.kind_is
          ∙ sym (ap (λ (s : ℕ). side.slot_of (side_of after (kind_of s tag)) (number_in_set s tag)) parted)

      slot_before : side.slot_of (side_of hand kind) number ≡ slot_of hand tag
      slot_before = ap (side.slot_of (side_of hand kind)) at.number_is
          ∙ ap (λ (j : Kind). side.slot_of (side_of hand j) (number_in_set (split_of hand) tag)) at.kind_is

      -- what holds of the side before and after
      both : (P : Side R → Side R → Type 0) → P (side_of hand kind) new → P (side_of hand kind) (side_of after kind)
      both P h = subst (P (side_of hand kind)) (sym here) h

      -- a side that loses the number makes the hand lose the tag
      loses : side.HoldsLess (λ m. m ≡ number) (side_of hand kind) new → HoldsLess (λ other. other ≡ tag) hand after
      loses l = less_like (one_like hand kind number tag at.kind_is at.number_is)
          (less hand after kind beside parted (λ m. m ≡ number) (both (side.HoldsLess (λ m. m ≡ number)) l))

      pub reads_at : (value : R) → side.slot_of (side_of hand kind) number ≡ some value
          → side.Writes number value (side_of hand kind) new → Reads tag value hand after
      reads_at value found w = record {
        same = same hand after kind beside parted
            (both side.HoldsSame (writes_back (side_of hand kind) new number value found w));
        set = changes_at (λ j m. side.Writes m value) w;
      }

      pub writes_at : (value : R) → side.Writes number value (side_of hand kind) new → Writes tag value hand after
      writes_at value w =
          let v = both (side.Writes number value) w in
          let kept = same_but hand after kind beside parted number
          (λ m h. (holds_by (side_of hand kind) (side_of after kind) m v.known h, v.others m h)) in record {
            put = sym slot_now ∙ w.put;
            others = λ one h ne. (kept one h).1
                (λ s. ne ((one_like hand kind number tag at.kind_is at.number_is one).0 s));
            kept = λ one h. (kept one h).0;
            none_else = none_new hand after kind beside parted
                (λ m h. holds_by (side_of after kind) (side_of hand kind) m (sym v.known) h);
            set = changes_at (λ j m. side.Writes m value) w;
          }

      pub posts_at : (note : ℕ) → side.Posts number note (side_of hand kind) new → Posts tag note hand after
      posts_at note p = record {
        value = p.value;
        slot = sym slot_before ∙ p.slot;
        less = loses p.less;
        set = changes_at (λ j m. side.Posts m note) p;
      }

      pub clears_at : (pool : Pool R) → side.Puts (layout_of pool kind) number (side_of hand kind) new
          → Clears pool tag hand after
      clears_at pool p = record { less = loses p.less; set = changes_at (λ j m. side.Puts (layout_of pool j) m) p }

      pub takes_at : side.Takes number (side_of hand kind) new → Takes tag hand after
      takes_at t = record {
        value = t.value;
        slot = sym slot_now ∙ t.slot;
        more = more_like (one_like hand kind number tag at.kind_is at.number_is)
            (more hand after kind beside parted (λ m. m ≡ number) (both (side.HoldsMore (λ m. m ≡ number)) t.more));
        set = changes_at (λ j m. side.Takes m) t;
      }

      pub misses_at : side.Misses number (side_of hand kind) new → Misses tag hand after
      misses_at m = record {
        same = same hand after kind beside parted (both side.HoldsSame m.same);
        set = changes_at (λ j n. side.Misses n) m;
      }

      pub reads_note_at : (answer : Option ℕ) → side.ReadsNote number answer (side_of hand kind) new
          → ReadsNote tag answer hand after
      reads_note_at answer r = record {
        same = same hand after kind beside parted (both side.HoldsSame r.same);
        set = changes_at (λ j n. side.ReadsNote n answer) r;
      }
