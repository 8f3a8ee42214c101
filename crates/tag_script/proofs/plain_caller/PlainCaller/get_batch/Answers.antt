-- A count in range is searched for unless the hint is round robin, and the ones of the mask are added to the tags won.
use Rattle.tag_script.proofs.Uses.{ap, arith, bad_count, inl, inr, none_around, refl, side_by_side, word_bits, ℕ}
use Rattle.std.proofs.Common.{◌≡◌, ◌+◌}
use Rattle.tag_script.proofs.plain_caller.PlainCaller.get_batch.Goals as goal
use Rattle.tag_script.proofs.plain_caller.PlainCaller.get_batch.Goals.{then-n-eq0-via-then-n-eq0, then-n-eq0-via-else-n-eq0+then-n-bits_per_word}

pub returns-then-n-eq0-clause-batch : goal.returns-then-n-eq0-clause-batch
returns-then-n-eq0-clause-batch c = elim c.then-n-eq0.branch [
  | then-n-eq0-via-then-n-eq0 w ↦ bad_count (inl w.if-n-eq0.true)
  | then-n-eq0-via-else-n-eq0+then-n-bits_per_word w ↦
      let bits : word_bits w.layout.result ≡ word_bits c.args.self.now.port.layout =
      ap word_bits w.layout.ensures.value in
      bad_count (inr (omega (arith, bits, w.bits_per_word.ensures, w.if-n-bits_per_word.true)))
]

pub returns-then-self-clause-batch : goal.returns-then-self-clause-batch
returns-then-self-clause-batch c =
    let bits : word_bits c.layout.result ≡ word_bits c.args.self.now.port.layout =
    ap word_bits c.layout.ensures.value in
    none_around (omega arith) (omega (arith, bits, c.bits_per_word.ensures, c.if-n-bits_per_word.false)) c.if-self.true

pub returns-clause-batch : goal.returns-clause-batch
returns-clause-batch c =
    let bits : word_bits c.layout.result ≡ word_bits c.args.self.now.port.layout =
    ap word_bits c.layout.ensures.value in
    side_by_side c.choose_batch-answer.result _ (omega arith)
    (omega (arith, bits, c.bits_per_word.ensures, c.if-n-bits_per_word.false)) c.if-self.false (record {
      layout = c.choose_batch-answer.ensures.layout;
      least = refl;
      choice = c.choose_batch-answer.ensures.choice c.if-self.false;
      hint = c.choose_batch-answer.ensures.hint c.if-self.false;
      won = ap (λ (n : ℕ). c.args.self.now.won + n) c.won_in.ensures.value;
      back = refl;
    })
