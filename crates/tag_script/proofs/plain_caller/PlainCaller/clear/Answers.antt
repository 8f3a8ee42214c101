-- The range is tested before the holding, so a tag that passes both tests is held, and is set aside.
use Rattle.tag_script.proofs.Uses.{ap, arith, cleared, Clears, false_from_ne_true, false≢true, IsTrue, Layout, no_such_tag, not_held, Ok, plain_words, plain_world_of, PlainWorld, pool_of, put_back, subst, sym, ◌∙◌}
use Rattle.std.proofs.Common.{◌≡◌, ◌+◌}
use Rattle.std.specs.Prelude.{if◌then◌else◌}
use Rattle.tag_script.proofs.plain_caller.PlainCaller.clear.Goals as goal

pub returns-then-tag-depth : goal.returns-then-tag-depth
returns-then-tag-depth c =
    let depth = c.depth.ensures.value ∙ ap (λ (l : Layout). l.depth) c.layout.ensures.value in
    no_such_tag (omega arith)

pub returns-then-not-taken : goal.returns-then-not-taken
returns-then-not-taken c =
    let depth = c.depth.ensures.value ∙ ap (λ (l : Layout). l.depth) c.layout.ensures.value in
    not_held (omega arith) (false_from_ne_true _
    (λ is. false≢true (sym c.if-not-taken.true ∙ c.taken.ensures.busy.1 is)))

pub returns : goal.returns
returns c =
    let q = c.put.new.self in
    let held : IsTrue c.taken.result = c.if-not-taken.false in
    let hint : c.after_clear.new.hint ≡ record c.args.self.now.hint
    { at = if c.args.self.now.hint.round_robin then c.args.self.now.hint.at else c.args.tag } =
    λ z. record { at = c.after_clear.ensures.at z; round_robin = c.after_clear.ensures.round_robin z } in
    let done : put_back c.args.tag (plain_world_of c.args.self.now) ≡ record {
      layout = q.layout;
      least = c.args.self.now.least;
      pool = pool_of (plain_words q);
      hint = c.after_clear.new.hint;
      won = c.args.self.now.won;
      back = c.args.self.now.back + 1;
    } = λ z. record {
      layout = sym c.put.ensures.layout z;
      least = c.args.self.now.least;
      pool = sym c.put.ensures.pool z;
      hint = sym hint z;
      won = c.args.self.now.won;
      back = c.args.self.now.back + 1;
    } in
    let P : PlainWorld → Type 0 = λ w. Clears c.args.tag (plain_world_of c.args.self.now) (Ok tt) w in
    let depth = c.depth.ensures.value ∙ ap (λ (l : Layout). l.depth) c.layout.ensures.value in
    subst P done (cleared (omega arith) (c.taken.ensures.busy.0 held))
