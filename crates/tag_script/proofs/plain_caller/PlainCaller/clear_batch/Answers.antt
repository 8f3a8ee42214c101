-- The tests come in the order of the refusals, so a list that passes all three is held once each, and is freed.
use Rattle.tag_script.proofs.Uses.{All, Any, ap, arith, bad_count, cleared, ClearsBatch, get_or, give_back, inl, inr, Layout, length, no_such_tag, not_held, Ok, plain_words, plain_world_of, PlainWorld, pool_of, rules, subst, sym, ℕ, ◌∙◌}
use Rattle.std.proofs.Common.{◌≡◌, ◌≤◌, ◌<◌, ◌+◌, ◌-◌}
use Rattle.std.specs.Prelude.{if◌then◌else◌}
use Rattle.tag_script.proofs.ClearingFacts.{if_true, if_false}
use Rattle.tag_script.proofs.plain_caller.PlainCaller.clear_batch.Goals as goal
use Rattle.tag_script.proofs.plain_caller.PlainCaller.clear_batch.Goals.{then-is_empty-via-then-is_empty, then-is_empty-via-else-is_empty+then-tags-gt-MAX_BATCH}

pub returns-then-is_empty : goal.returns-then-is_empty
returns-then-is_empty c = elim c.then-is_empty.branch [
  | then-is_empty-via-then-is_empty w ↦ bad_count (inl (search rules))
  | then-is_empty-via-else-is_empty+then-tags-gt-MAX_BATCH w ↦ bad_count
      (inr (omega (arith, w.if-tags-gt-MAX_BATCH.true)))
]

pub returns-then-not-are_below : goal.returns-then-not-are_below
returns-then-not-are_below c =
    let tags = c.args.tags.now in let some : 0 < length c.args.tags.now = search rules in
    let depth = c.depth.ensures.value ∙ ap (λ (l : Layout). l.depth) c.layout.ensures.value in
    let which : Any (λ (tag : ℕ). c.depth.result ≤ tag) tags =
    c.are_below.ensures.beyond.0 c.if-not-are_below.true in
    no_such_tag (omega (arith, some)) (omega (arith, c.if-tags-gt-MAX_BATCH.false))
    (subst (λ (d : ℕ). Any (λ (tag : ℕ). d ≤ tag) tags) depth which)

pub returns-then-not-are_held_once : goal.returns-then-not-are_held_once
returns-then-not-are_held_once c =
    let tags = c.args.tags.now in let some : 0 < length c.args.tags.now = search rules in
    let depth = c.depth.ensures.value ∙ ap (λ (l : Layout). l.depth) c.layout.ensures.value in
    let below : All (λ (tag : ℕ). tag < c.depth.result) tags =
    c.are_below.ensures.below.0 c.if-not-are_below.false in
    not_held (omega (arith, some)) (omega (arith, c.if-tags-gt-MAX_BATCH.false))
    (subst (λ (d : ℕ). All (λ (tag : ℕ). tag < d) tags) depth below)
    (if_false _ _ c.are_held_once.result c.if-not-are_held_once.true c.are_held_once.ensures)

pub returns : goal.returns
returns c =
    let p = c.args.self.now.port in let tags = c.args.tags.now in
    let some : 0 < length c.args.tags.now = search rules in let q = c.give_all.new.port in
    let depth = c.depth.ensures.value ∙ ap (λ (l : Layout). l.depth) c.layout.ensures.value in
    let below : All (λ (tag : ℕ). tag < c.depth.result) tags =
    c.are_below.ensures.below.0 c.if-not-are_below.false in
    let held = if_true _ _ c.are_held_once.result c.if-not-are_held_once.false c.are_held_once.ensures in
    let hint : c.after_clear.new.hint ≡ record c.args.self.now.hint {
      at = if c.args.self.now.hint.round_robin then c.args.self.now.hint.at else get_or tags (length tags - 1) 0;
    } = λ z. record { at = c.after_clear.ensures.at z; round_robin = c.after_clear.ensures.round_robin z } in
    let done : give_back tags (plain_world_of c.args.self.now) ≡ record {
      layout = q.layout;
      least = c.args.self.now.least;
      pool = pool_of (plain_words q);
      hint = c.after_clear.new.hint;
      won = c.args.self.now.won;
      back = c.args.self.now.back + length tags;
    } = λ z. record {
      layout = sym c.give_all.ensures.layout z;
      least = c.args.self.now.least;
      pool = sym c.give_all.ensures.pool z;
      hint = sym hint z;
      won = c.args.self.now.won;
      back = c.args.self.now.back + length tags;
    } in
    let P : PlainWorld → Type 0 = λ w. ClearsBatch tags (plain_world_of c.args.self.now) (Ok tt) w in
    subst P done (cleared (omega (arith, some)) (omega (arith, c.if-tags-gt-MAX_BATCH.false))
    (subst (λ (d : ℕ). All (λ (tag : ℕ). tag < d) tags) depth below) held.0 held.1)
