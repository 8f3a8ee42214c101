-- Each kind of step on the state of a tag is allowed by the rule.
use Rattle.std.specs.Prelude.{◌+◌, ◌<◌, ◌==◌, ◌≡◌, ◌≢◌, ◌≤◌}
use Rattle.tag_core.proofs.Uses.{Allows, ap, arith, Bool, carried_after, Carries, cond, dite, eq-eqb, get_elem?, get_or, held, inl, inr, last_post, List, Me, ne_eqb, None, none, note_read, own_view}
use Rattle.tag_core.proofs.Uses.{Place, Post, posted, ReadNote, Record, refl, same_record, set, Shape, Shown, SlotIs, Some, some, some-injective, State, step, Stepped, subst, sym, tag_bit, Take, took, value_of, View, world_of, ℕ, ℕ_discrete}
use Rattle.tag_core.proofs.Uses.{◌∙◌}
use Rattle.tag_core.specs.Spacing.{state_at}
use Rattle.tag_core.specs.Plays as plays
use Rattle.tag_core.proofs.Turns.{held_from}
use Rattle.tag_core.proofs.Advance.{Owed}
use Rattle.tag_core.proofs.Notes.{posted_there}
use Rattle.tag_core.proofs.Owing.{miss_owed, read_owed}
use Rattle.tag_core.proofs.OwingTags.{post_owed, take_owed}
use Rattle.tag_core.proofs.Singles.{same_state}
use Rattle.tag_core.proofs.Allowed.{ok, answer, unchanged, renamed}
use Rattle.tag_core.proofs.Moving.{moved, posted_unheld, held_one}

-- notes are one where one more than each is
same_note : (a b : ℕ) → a + 1 ≡ b + 1 → a ≡ b
same_note a b e = omega arith

-- a tag that a take leaves posted was posted before it
not_posted : (b : Bool) (c : ℕ) (q : Place) → cond b (held c) q ≡ posted → q ≡ posted
not_posted b c q e = grind arith

module _ (R : Type 0) (k : Shape) (narrow : k.layout.shift ≤ 6) (id : ℕ) (me : Me R (View R)) (r : Record R)
    (mine : me.0 ≡ own_view r) (carries : Carries k.layout r.held me.1) where
  -- a store of one more than a note in a held tag's state
  pub post_allowed : (u note : ℕ) (y : R) → u < k.layout.depth → tag_bit k.layout r.held u ≡ 1
      → value_of me.1 u ≡ some y
      → Allows (Shown k) k.layout.depth id me (state_at k.layout u) (λ _. note + 1)
      (λ _. plays.posted (step k.layout.depth (state_at k.layout u) (note + 1) 0 none) me (note + 1))
  post_allowed u note y lu has val s sh deep at _ = let o = ok R k narrow id me r mine carries s sh deep at in
      let z = answer R k narrow id me r mine carries s sh deep at (Post u note y)
      (set s.words (state_at k.layout u) (note + 1)) (post_owed R k narrow s sh r o u note y lu has)
      (λ t l e. dite (ℕ_discrete t u)
      (λ (same : t ≡ u). inr (
        held_from r.number _ (o.held t l ∙ ap (tag_bit k.layout r.held) same ∙ has),
        ap
            (λ (b : Bool). cond b (some y) (last_post t sh.history)) (eq-eqb t u same) ∙ sym val
            ∙ ap (value_of me.1) (sym same),
      ))
      (λ (n : t ≢ u). inl (
        ap (λ (b : Bool). cond b posted ((world_of k sh.history).place t)) (sym (ne_eqb t u n))
            ∙ e,
        ap (λ (b : Bool). cond b (some y) (last_post t sh.history)) (ne_eqb t u n),
      ))) in (
        z.0,
        z.1,
        z.2,
        z.3,
        λ u' note' y' r' eu en ey er. subst (λ (x : ℕ × ℕ × R × Record R). Stepped (Post x.0 x.1 x.2) x.3 me
            (z.0, carried_after me.1 z.1))
            (λ j. (
              same_state k r r' u u' o.shape (same_record r r' (sym mine ∙ er)) eu j,
              same_note note note' en j,
              some-injective y y'
                  (sym val ∙ ap (value_of me.1) (same_state k r r' u u' o.shape (same_record r r' (sym mine ∙ er)) eu)
                  ∙ ey) j,
              same_record r r' (sym mine ∙ er) j,
            )) z.4,
      )

  -- a swap of a state with 0
  pub take_allowed : (u : ℕ) → u < k.layout.depth
      → Allows (Shown k) k.layout.depth id me (state_at k.layout u) (λ _. 0)
      (took (step k.layout.depth (state_at k.layout u) 0 0 none) me)
  unfolding answer
  take_allowed u lu s sh deep at _ = let n : ℕ = get_or s.words (state_at k.layout u) 0 in
      let o = ok R k narrow id me r mine carries s sh deep at in
      dite (ℕ_discrete n 0)
      (λ (miss : n ≡ 0).
      let z = answer R k narrow id me r mine carries s sh deep at (Take u 0 None) (set s.words (state_at k.layout u) 0)
      (subst (λ (x : ℕ). Owed R k s sh r (Take u 0 None) (set s.words (state_at k.layout u) x)) miss
      (unchanged R k narrow id me r mine carries s sh (state_at k.layout u)
      (miss_owed R k narrow s sh r o u lu miss)))
      (λ t l e. inl (e, refl)) in (
        z.0,
        z.1,
        z.2,
        z.3,
        λ u' r' eu er. (
          λ h. absurd (h miss),
          λ h. renamed R k narrow id me r mine carries
              (λ x y. Stepped (Take x 0 None) y me (z.0, carried_after me.1 z.1))
              (same_state k r r' u u' o.shape (same_record r r' (sym mine ∙ er)) eu) r' er z.4,
        ),
      ))
      (λ (hit : n ≢ 0).
      let its = posted_there ((world_of k sh.history).place u) _ _ (sh.tags u lu).posted
      (λ none_there. hit (sh.cells.state u lu ∙ none_there)) in
      let last = post_there s sh u lu its in
      let owed = take_owed R k narrow s sh r o u last.0 lu its last.1 in
      let z = answer R k narrow id me r mine carries s sh deep at (Take u 1 (Some last.0))
      (set s.words (state_at k.layout u) 0) owed
      (λ t l e. inl (not_posted (t == u) r.number _ e, refl)) in
      let go = moved R k s sh r (Take u 1 (Some last.0)) (set s.words (state_at k.layout u) 0)
      owed o me.1 carries deep in
      let not_mine = posted_unheld r.number ((world_of k sh.history).place u) _ (o.held u lu) its in
      let now_mine = sym (owed.tags u lu).held ∙ held_one r.number _
      (ap (λ (x : Bool). cond x (held r.number) ((world_of k sh.history).place u)) (eq-eqb u u refl)) in
      let came = go.taken u lu not_mine now_mine in
      let val : value_of (carried_after me.1 go.act) u ≡ some last.0 =
      ap (λ (l : List (ℕ × R)). value_of l u) go.list_is
      ∙ came.2 ∙ some-injective _ _ (sym came.1 ∙ sh.posts u lu its) ∙ last.1 in (
        z.0,
        z.1,
        z.2,
        z.3,
        λ u' r' eu er. (
          λ h. renamed R k narrow id me r mine carries
              (λ x y. (value : R) × (value_of (carried_after me.1 go.act) x ≡ some value)
              × Stepped (Take x 1 (Some value)) y me (z.0, carried_after me.1 z.1)
              × (tag_bit y.shape.layout y.held x ≢ 1))
              (same_state k r r' u u' o.shape (same_record r r' (sym mine ∙ er)) eu) r' er
              (last.0, val, z.4, subst (λ (z : Shape). tag_bit z.layout r.held u ≢ 1) (sym o.shape) not_mine),
          λ h. absurd (hit h),
        ),
      ))
    where
      post_there : (s : State R (View R)) (sh : Shown k s) (u : ℕ) → u < k.layout.depth
          → (world_of k sh.history).place u ≡ posted → (y : R) × (last_post u sh.history ≡ some y)
      post_there s sh u lu its =
          let w = subst (λ (p : Place). SlotIs (get_elem? s.homes u) p) its (sh.slots u lu) in
          (w.0, some-injective _ _ (sym (sh.posts u lu its) ∙ w.1))

  -- a load of a state
  pub read_allowed : (u : ℕ) → u < k.layout.depth → Allows (Shown k) k.layout.depth id me (state_at k.layout u) (λ n. n)
      (note_read (step k.layout.depth (state_at k.layout u) 0 0 none) me)
  unfolding answer
  read_allowed u lu s sh deep at _ = let n : ℕ = get_or s.words (state_at k.layout u) 0 in
      let o = ok R k narrow id me r mine carries s sh deep at in
      let z = answer R k narrow id me r mine carries s sh deep at (ReadNote u n) (set s.words (state_at k.layout u) n)
      (unchanged R k narrow id me r mine carries s sh (state_at k.layout u) (read_owed R k narrow s sh r o u lu))
      (λ t l e. inl (e, refl)) in (
        z.0,
        z.1,
        z.2,
        z.3,
        λ u' r' eu er inside. renamed R k narrow id me r mine carries
            (λ x y. Stepped (ReadNote x n) y me (z.0, carried_after me.1 z.1))
            (same_state k r r' u u' o.shape (same_record r r' (sym mine ∙ er)) eu) r' er z.4,
      )
