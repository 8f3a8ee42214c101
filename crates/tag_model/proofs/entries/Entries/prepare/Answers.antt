-- The tag that the loop is at is tested and its next place made ready, if it is named.
use Rattle.std.specs.Prelude.{◌<◌, ◌≡◌, ◌≢◌}
use Rattle.tag_model.proofs.Uses.{ap, arith, brings, dite, false, Free, get_or, KeptEntries, Layout, List, names, Needs, Place, rules, SamePlaces, subst, sym, true≢false, ℕ, ℕ_discrete, ◌∙◌}
use Rattle.tag_model.proofs.entries.Entries.prepare.Goals as goal
use Rattle.tag_model.proofs.entries.Entries.prepare.Goals.{then-names+else-not-accepts, else-names}

pub loop-tag-preserved : goal.loop-tag-preserved
loop-tag-preserved c = elim c.if-names.branch [
  | then-names+else-not-accepts w ↦
      (let tag : ℕ = c.loop-tag.tag in let inv = c.loop-tag.invariant in let did = w.make_ready.ensures in
      let here : w.place-place.result ≡ get_or c.args.self.now.places tag Free = w.place-place.ensures
      ∙ ap (λ (xs : List Place). get_or xs tag Free) inv.same.places in
      let needs : Needs c.args.event w.place-place.result = w.accepts.ensures.0 (search rules) in
      let depth : c.layout-layout.result.depth ≡ c.loop-tag.self.layout.depth =
      ap (λ (l : Layout). l.depth) (c.layout-layout.ensures ∙ sym inv.same.layout) in
      record {
        same = subst (SamePlaces c.args.self.now) (sym w.self-is) (record {
          layout = did.same.layout ∙ inv.same.layout;
          places = did.same.places ∙ inv.same.places;
        });
        ready = λ k h low named. dite (ℕ_discrete k tag)
            (λ (e : k ≡ tag).
            let at : w.place-place.result ≡ get_or c.args.self.now.places k Free = here
            ∙ ap (λ (j : ℕ). get_or c.args.self.now.places j Free) (sym e) in (
              subst (Needs c.args.event) at needs,
              ap (λ (kept : KeptEntries). get_or kept.ready k Free) w.self-is
                  ∙ ap (λ (j : ℕ). get_or w.make_ready.new.self.ready j Free) e ∙ did.here ∙ w.brings.ensures
                  ∙ ap (brings c.args.event) at,
            ))
            (λ (ne : k ≢ tag).
            let was = inv.ready k (omega arith) low named in (
              was.0,
              ap (λ (kept : KeptEntries). get_or kept.ready k Free) w.self-is
                  ∙ did.others k (subst (λ (n : ℕ). k < n) depth low) ne ∙ was.1,
            ));
      })
  | else-names w ↦
      (let tag : ℕ = c.loop-tag.tag in let inv = c.loop-tag.invariant in
      let unnamed : names c.layout-layout.result c.args.event tag ≡ false = sym c.names.ensures ∙ w.if-names.false in
      record {
        same = subst (SamePlaces c.args.self.now) (sym w.self-is) inv.same;
        ready = λ k h low named. dite (ℕ_discrete k tag)
            (λ (e : k ≡ tag). absurd (true≢false (sym named ∙ ap (names c.layout-layout.result c.args.event) e
            ∙ unnamed)))
            (λ (ne : k ≢ tag).
            let was = inv.ready k (omega arith) low named in
            (was.0, ap (λ (kept : KeptEntries). get_or kept.ready k Free) w.self-is ∙ was.1));
      })
]
