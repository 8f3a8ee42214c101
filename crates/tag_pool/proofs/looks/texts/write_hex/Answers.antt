-- Each turn appends the number's next lower digit.
use Rattle.std.specs.Prelude.{◌%◌, ◌*◌, ◌+◌, ◌-◌, ◌/◌, ◌^◌, ◌∷◌, ◌≡◌}
use Rattle.std.proofs.Common.{[], ap, arith, false, subst, sym, ℕ, ◌∙◌}
use Rattle.std.specs.Io.KnownBytes.{Appends}
use Rattle.std.specs.Fmt.{digit_glyph}
use Rattle.tag_pool.specs.Texts.{hex_digits}
use Rattle.tag_pool.proofs.Writings.{appends_none, appends_then, hex_digits-next}
use Rattle.tag_pool.proofs.looks.texts.write_hex.Goals as goal

pub loop-done-init : goal.loop-done-init
loop-done-init g c = appends_none (g.W.Write.contents c.args.writer.now)

pub loop-done-preserved : goal.loop-done-preserved
loop-done-preserved g c =
    let n = c.args.number in let i = c.loop-done.done in let k : ℕ = c.args.width - (i + 1) in
    let there = c.loop-done-test.true in
    let left : c.args.width - i ≡ k + 1 = omega arith in
    let place : c.args.width - i - 1 ≡ k = omega arith in
    let old = g.W.Write.contents c.args.writer.now in let mid = g.W.Write.contents c.loop-done.writer in
    let new = g.W.Write.contents c.write_all.new.self in
    let before = subst (λ (x : ℕ). Appends old mid (hex_digits i (n / 2 ^ (4 * x)))) left c.loop-done.invariant in
    let digit : c.hex_digit.result ≡ digit_glyph false (n / 2 ^ (4 * k) % 16) =
    c.hex_digit.ensures ∙ ap (λ (x : ℕ). digit_glyph false (n / 2 ^ (4 * x) % 16)) place in
    let last = subst (λ (x : ℕ). Appends mid new (x ∷ [])) digit c.in_ok-write_all.ensures.bytes in
    subst (Appends old new) (sym (hex_digits-next n i k)) (appends_then old mid new _ _ before last)

pub returns : goal.returns
returns g c =
    let n = c.args.number in let w : ℕ = c.args.width in let stop = c.loop-done-test.false in
    let all : c.loop-done.done ≡ w = omega arith in let none : w - w ≡ 0 = omega arith in
    let whole : n / 2 ^ (4 * 0) ≡ n = omega arith in
    subst (Appends (g.W.Write.contents c.args.writer.now) (g.W.Write.contents c.loop-done.writer))
    (ap (λ (d : ℕ). hex_digits d (n / 2 ^ (4 * (w - d)))) all ∙ ap (λ (z : ℕ). hex_digits w (n / 2 ^ (4 * z))) none
    ∙ ap (λ (x : ℕ). hex_digits w x) whole) c.loop-done.invariant
