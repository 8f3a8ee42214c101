-- After the window moved, or did not, the hand holds what it held and the same tags are kept.
use Rattle.std.specs.Prelude.{◌≡◌, ◌≤◌}
use Rattle.tag_cache.proofs.Uses.{Cache, Hand, inl, inr, IsKnown, IsWithin, subst, sym, ⊎_elim, ◌∙◌}
use Rattle.tag_pool.specs.Hands as hands
use Rattle.tag_cache.proofs.Carrying.{keeps_twice}
use Rattle.tag_cache.proofs.Reusing.{held_still}
use Rattle.tag_cache.proofs.cache.Cache.learn.Goals as goal

pub note-requires-clause-held : goal.note-requires-clause-held
note-requires-clause-held g c = held_still c.args.self.now c.aim.new.self c.args.tag c.aim.ensures.same
    c.requires.held

pub note-requires-clause-ordinary : goal.note-requires-clause-ordinary
note-requires-clause-ordinary g c = subst
    (λ (h : Hand g.row.R.Denot). hands.split_of h ≤ c.args.tag) (sym c.aim.ensures.same.hand) c.requires.ordinary

pub returns-clause-same : goal.returns-clause-same
returns-clause-same g c = record {
  hand = c.note.ensures.same.hand ∙ c.aim.ensures.same.hand;
  kept = keeps_twice c.args.self.now c.aim.new.self c.note.new.self c.aim.ensures.same.kept c.note.ensures.same.kept;
}

pub returns-clause-learns : goal.returns-clause-learns
returns-clause-learns g c = let none = c.requires.none in let mid = c.aim.new.self in
    let in_window = ⊎_elim (λ (w : IsWithin mid c.args.tag). w) (λ e. absurd (e.1 none)) c.aim.ensures.aimed in
    let learns = c.note.ensures.learns in_window in record {
      now = learns.now;
      still = λ within other l. learns.still (λ n. in_window) other
          (subst (λ (x : Cache g.row.R.Denot). IsKnown x other) (sym (c.aim.ensures.still within)) l);
      none_else = λ other l. ⊎_elim (λ (o : IsKnown mid other). inl (c.aim.ensures.knows other o))
          (λ (e : other ≡ c.args.tag). inr e) (learns.none_else other l);
    }
