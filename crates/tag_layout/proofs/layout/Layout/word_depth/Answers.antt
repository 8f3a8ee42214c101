-- A word that there is uses a bit, and at most 64.
use Rattle.std.specs.Prelude.{◌*◌, ◌^◌, ◌≡◌, ◌≤◌}
use Rattle.tag_layout.proofs.Uses.{ap, arith, Layout, one_shl, subst, word_bits, ℕ}
use Rattle.tag_layout.proofs.PlaceFacts.{word-start, word_depth-pos, word_bits-le}
use Rattle.tag_layout.proofs.layout.Layout.word_depth.Goals as goal

pub returns-clause-within : goal.returns-clause-within
returns-clause-within c =
    let l : Layout = c.args.self in let word : ℕ = c.args.word in
    let start = word-start l word c.requires in let some = word_depth-pos l word c.requires in
    let depth : c.self.inside.depth ≡ l.depth = ap (λ (s : Layout). s.depth) c.self.view_is in
    let bits : 2 ^ c.self.inside.shift ≡ word_bits l = ap (λ (s : Layout). word_bits s) c.self.view_is in
    let first : word * 2 ^ c.self.inside.shift ≡ word * word_bits l = ap (λ (p : ℕ). word * p) bits in
    let whole = one_shl c.self.inside.shift 32 (omega arith) in
    let few = word_bits-le l (subst (λ (s : Layout). s.shift ≤ 6) c.self.view_is c.self.invariant.1) in
    let value = c.min.ensures in (omega arith, omega arith)
