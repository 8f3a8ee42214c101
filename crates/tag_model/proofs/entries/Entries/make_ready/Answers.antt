-- The entry that doesn't count is written.
use Rattle.std.specs.Prelude.{◌<◌, ◌≡◌, ◌≢◌}
use Rattle.tag_model.proofs.Uses.{ap, chosen, Free, get_or, is_turned, KeptEntries, Layout, List, Place, refl, SamePlaces, subst, sym, ℕ, ◌∙◌}
use Rattle.tag_model.proofs.EntryFacts.{MadeReady, ready-first, ready-second}
use Rattle.tag_model.proofs.entries.Entries.make_ready.Goals as goal

-- two lists of entries, as contracts see them
abbrev seen : Layout → List ℕ → List Place → List Place → KeptEntries
seen l turned even odd =
    record { layout = l; places = chosen l turned even odd; ready = chosen l turned odd even }

-- what was written, as contracts see it
told : (l : Layout) (turned : List ℕ) (even odd even' odd' : List Place) (tag : ℕ) (place : Place) (old : KeptEntries)
    → seen l turned even odd ≡ old → MadeReady l turned even odd even' odd' tag place
    → let new = seen l turned even' odd' in SamePlaces old new × (get_or new.ready tag Free ≡ place)
    × ((other : ℕ) → other < old.layout.depth → other ≢ tag → get_or new.ready other Free ≡ get_or old.ready other Free)
told l turned even odd even' odd' tag place old is made = let new = seen l turned even' odd' in
    subst (λ (o : KeptEntries). SamePlaces o new × (get_or new.ready tag Free ≡ place)
    × ((other : ℕ) → other < o.layout.depth → other ≢ tag → get_or new.ready other Free ≡ get_or o.ready other Free)) is
    (record { layout = refl; places = made.same }, made.here, made.others)

pub returns-then-is_turned : goal.returns-then-is_turned
returns-then-is_turned c = let l = c.self.inside.layout in let t = c.self.inside.turned.items in
    let even = c.self.inside.even.items in let odd = c.self.inside.odd.items in let tag : ℕ = c.args.tag in
    let is = sym (c.is_turned.ensures ∙ ap (λ (xs : List ℕ). is_turned l xs tag) c.deref.ensures.value)
    ∙ c.if-is_turned.true in
    let same = ap (λ (kept : KeptEntries). kept.layout.depth) c.self.view_is in
    let low = subst (λ (n : ℕ). tag < n) (sym same) c.requires in
    let all = told l t even odd _ odd tag c.args.place _ c.self.view_is
    (ready-first l t even odd tag c.args.place is low c.self.invariant.0) in
    record { same = all.0; here = all.1; others = all.2 }

pub returns-else-is_turned : goal.returns-else-is_turned
returns-else-is_turned c = let l = c.self.inside.layout in let t = c.self.inside.turned.items in
    let even = c.self.inside.even.items in let odd = c.self.inside.odd.items in let tag : ℕ = c.args.tag in
    let is = sym (c.is_turned.ensures ∙ ap (λ (xs : List ℕ). is_turned l xs tag) c.deref.ensures.value)
    ∙ c.if-is_turned.false in
    let same = ap (λ (kept : KeptEntries). kept.layout.depth) c.self.view_is in
    let low = subst (λ (n : ℕ). tag < n) (sym same) c.requires in
    let all = told l t even odd even _ tag c.args.place _ c.self.view_is
    (ready-second l t even odd tag c.args.place is low c.self.invariant.1) in
    record { same = all.0; here = all.1; others = all.2 }
