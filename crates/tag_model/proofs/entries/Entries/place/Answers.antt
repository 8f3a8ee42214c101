-- The entry that counts.
use Rattle.std.specs.Prelude.{◌<◌}
use Rattle.tag_model.proofs.Uses.{ap, Free, get_or, get_or_read, is_turned, KeptEntries, List, subst, sym, ℕ, ◌∙◌}
use Rattle.tag_model.proofs.EntryFacts.{chosen-at, entry-turned, entry-not}
use Rattle.tag_model.proofs.entries.Entries.place.Goals as goal

pub returns-then-is_turned : goal.returns-then-is_turned
returns-then-is_turned c = let l = c.self.inside.layout in let t = c.self.inside.turned.items in
    let even = c.self.inside.even.items in let odd = c.self.inside.odd.items in let tag : ℕ = c.args.tag in
    let same = ap (λ (kept : KeptEntries). kept.layout.depth) c.self.view_is in
    let low : tag < l.depth = subst (λ (n : ℕ). tag < n) (sym same) c.requires in
    let is = sym (c.is_turned.ensures ∙ ap (λ (xs : List ℕ). is_turned l xs tag) c.deref.ensures.value)
    ∙ c.if-is_turned.true in
    get_or_read odd tag c.index.result.now (subst (λ (n : ℕ). tag < n) (sym c.self.invariant.1) low) c.index.ensures
    Free
    ∙ sym (chosen-at l t even odd tag low ∙ entry-turned l t even odd tag is)
    ∙ ap (λ (kept : KeptEntries). get_or kept.places tag Free) c.self.view_is

pub returns-else-is_turned : goal.returns-else-is_turned
returns-else-is_turned c = let l = c.self.inside.layout in let t = c.self.inside.turned.items in
    let even = c.self.inside.even.items in let odd = c.self.inside.odd.items in let tag : ℕ = c.args.tag in
    let same = ap (λ (kept : KeptEntries). kept.layout.depth) c.self.view_is in
    let low : tag < l.depth = subst (λ (n : ℕ). tag < n) (sym same) c.requires in
    let is = sym (c.is_turned.ensures ∙ ap (λ (xs : List ℕ). is_turned l xs tag) c.deref.ensures.value)
    ∙ c.if-is_turned.false in
    get_or_read even tag c.index-else-is_turned.result.now (subst (λ (n : ℕ). tag < n) (sym c.self.invariant.0) low)
    c.index-else-is_turned.ensures Free
    ∙ sym (chosen-at l t even odd tag low ∙ entry-not l t even odd tag is)
    ∙ ap (λ (kept : KeptEntries). get_or kept.places tag Free) c.self.view_is
