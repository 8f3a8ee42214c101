-- The step adds the tag's bit to its word's cleared set, which the rule allows to the tag's holder. The caller's mask
-- loses that bit, its record gains the step, and the tag's slot stays behind in the table.
use Rattle.std.specs.Prelude.{◌%◌, ◌*◌, ◌+◌, ◌<◌, ◌^◌}
use Rattle.tag_core.proofs.Uses.{Allows, ap, length-set, none, parted, place_of, Put, put_aside, record_after, record_of, refl, rules, Shape, Shown, step, Stepped, subst, sym, Word, word_of, word_of-below, ℕ, ◌∙◌}
use Rattle.tag_core.specs.Spacing.{aside_at}
use Rattle.tag_core.proofs.Stand.{aside_in}
use Rattle.tag_core.proofs.Allowed.{put_allowed}
use Rattle.tag_core.proofs.Asking.{narrow, asked, left, after, recorded, few, slots, bounded, plus_none}
use Rattle.tag_core.proofs.Marking.{word_is, bit_is, struck}
use Rattle.tag_core.proofs.Holdings.{adds_releases_one}
use Rattle.tag_core.proofs.map.Map.put.Goals as goal

pub fetch_add-requires : goal.fetch_add-requires
fetch_add-requires g c =
    let m = c.args.self.now in let w = c.args.caller.now in let k = w.shape.value in let own = c.requires.caller in
    let u : ℕ = c.args.tag in let has = c.requires.held in let b : ℕ = c.place_of.result in
    let word = c.word_of-word.ensures.value in let place = c.place_of.ensures in
    let a = asked m w own w.seat.id w.seat.me (aside_at (word_of k.layout u)) c.aside_spot.result
    (λ n. (n + (1 * 2 ^ b % 2 ^ 64)) % 2 ^ 64) (1 * 2 ^ b % 2 ^ 64) 0 put_aside
    (c.aside_spot.ensures ∙ ap aside_at (word_is w u _ b word place.value place.bound))
    (aside_in k.layout (word_of k.layout u) (word_of-below k.layout u has.0))
    (subst (λ (z : ℕ). Allows (Shown k) k.layout.depth w.seat.id w.seat.me (aside_at (word_of k.layout u))
    (λ n. (n + z) % 2 ^ 64) (put_aside (step k.layout.depth (aside_at (word_of k.layout u)) z 0 none) w.seat.me))
    (sym (bit_is w u _ b word place.value place.bound))
    (put_allowed g.row.R.Denot k (narrow m w own) w.seat.id w.seat.me (record_of w) w.knows w.carries u has.0 has.1)) in
    (own.0, a.0, a.1)

pub invariant_of-caller : goal.invariant_of-caller
invariant_of-caller g c =
    let w = c.args.caller.now in let u : ℕ = c.args.tag in let i : ℕ = word_of w.shape.value.layout u in
    let word = c.word_of-word.ensures.value in let place = c.place_of.ensures in
    let n : ℕ = c.fetch_add.result in let was : ℕ = c.index.result.now in let fits : was < 2 ^ 64 = search rules in
    let did = subst (λ (z : ℕ). Stepped (Word (Put i z n)) (record_of w) w.seat.me c.fetch_add.new.seat.me)
    (bit_is w u _ _ word place.value place.bound) (c.fetch_add.ensures.2 i (record_of w)
    (c.aside_spot.ensures ∙ ap aside_at (word_is w u _ _ word place.value place.bound)) w.knows) in
    let l = left w did (struck w u _ _ word place.value place.bound was fits c.requires.held c.index.ensures) refl
    (plus_none w.won) refl in
    after l (length-set w.held.items _ _ ∙ w.wide) w.unspent (bounded c.args.self.now w c.requires.caller _ (few l))

pub returns-clause-step : goal.returns-clause-step
returns-clause-step g c =
    let w = c.args.caller.now in let u : ℕ = c.args.tag in let i : ℕ = word_of w.shape.value.layout u in
    let word = c.word_of-word.ensures.value in let place = c.place_of.ensures in let n : ℕ = c.fetch_add.result in
    let was : ℕ = c.index.result.now in let fits : was < 2 ^ 64 = search rules in
    let did = subst (λ (z : ℕ). Stepped (Word (Put i z n)) (record_of w) w.seat.me c.fetch_add.new.seat.me)
    (bit_is w u _ _ word place.value place.bound) (c.fetch_add.ensures.2 i (record_of w)
    (c.aside_spot.ensures ∙ ap aside_at (word_is w u _ _ word place.value place.bound)) w.knows) in
    let l = left w did (struck w u _ _ word place.value place.bound was fits c.requires.held c.index.ensures) refl
    (plus_none w.won) refl in (
      n,
      record {
        known = recorded l ∙ ap (λ (z : Shape). record_after
            (Word (Put (word_of z.layout u) (2 ^ place_of z.layout u) n)) (record_of w)) c.requires.caller.1;
        slots = slots l;
        same_map = c.fetch_add.ensures.0;
      },
    )

pub returns-clause-released : goal.returns-clause-released
returns-clause-released g c =
    let m = c.args.self.now in let w = c.args.caller.now in let own = c.requires.caller in
    adds_releases_one m w _ own _ (returns-clause-step g c).1 c.args.tag c.requires.held.0
    (ap (λ (z : Shape). parted w.held.items (word_of z.layout c.args.tag) (2 ^ place_of z.layout c.args.tag))
    (sym own.1))
