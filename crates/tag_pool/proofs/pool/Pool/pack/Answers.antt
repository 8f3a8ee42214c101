-- The bytes are 0 at first, and each turn marks the busy tags of one word in them.
use Rattle.std.specs.Prelude.{◌&&◌, ◌*◌, ◌++◌, ◌+◌, ◌<◌, ◌∷◌, ◌≡◌}
use Rattle.std.proofs.Common.{Bool, List, [], ap, arith, bit_and, get_or, inr, length, min, nat_eq, refl, subst, ℕ, ◌∙◌}
use Rattle.std.specs.Int.{bit_at, bit_not, w64}
use Rattle.tag_pool.specs.Bits.{Marks, bit_in}
use native.Mathlib.Decide.{dec_lt}
use mathlib.Core.Logic.{dite}
use Rattle.tag_pool.specs.Looks.{is_busy_in}
use Rattle.tag_layout.specs.Layout.{Layout, tag_at, word_bits}
use Rattle.std.proofs.lemmas.Bool.{le-ltb, lt-ltb}
use Rattle.sums.specs.Below.{one_if}
use Rattle.tag_layout.proofs.PlaceFacts.{word_depth-pos}
use Rattle.tag_core.proofs.Passing.{zeros}
use Rattle.tag_pool.specs.Dumps.{Packs}
use Rattle.tag_pool.proofs.Around.{starts, goes_on}
use Rattle.tag_pool.proofs.BusyBits.{no_bit}
use Rattle.tag_pool.proofs.Marking.{marks-none}
use Rattle.tag_pool.proofs.Tallies.{marks_word, all_words}
use Rattle.tag_pool.proofs.pool.Pool.pack.Goals as goal

pub loop-word-init : goal.loop-word-init
loop-word-init g c = let l = c.layout-layout.result in
    let none : 0 ≡ min (0 * word_bits l) l.depth = omega arith in record {
      own = (c.requires.hand, refl);
      room = c.fill.ensures.len;
      found = (
        [],
        starts c.args.kind c.args.hand.now,
        subst (λ (n : ℕ). Marks 8 0 n (is_busy_in l []) c.fill.new.self c.fill.new.self) none
            (marks-none 8 0 (is_busy_in l []) c.fill.new.self),
      );
    }

pub tag_at-start-requires-clause-place : goal.tag_at-start-requires-clause-place
tag_at-start-requires-clause-place g c = let there = c.loop-word-test.true in
    let end = c.words-word-end.ensures.value in
    word_depth-pos c.layout-layout.result c.loop-word.word (omega arith)

pub loop-word-preserved : goal.loop-word-preserved
loop-word-preserved g c =
    let l = c.layout-layout.result in let inv = c.loop-word.invariant.found in let there = c.loop-word-test.true in
    let end = c.words-word-end.ensures.value in
    let kind = c.args.kind in let word : ℕ = c.loop-word.word in let pair = c.look_both-taken.result in
    let value = c.tag_at-start.ensures.value in let from : c.tag_at-start.result ≡ 0 + tag_at l word 0 = omega arith in
    record {
      own = (c.look_both-taken.ensures.hand.0, c.look_both-taken.ensures.hand.1 ∙ c.loop-word.invariant.own.1);
      room = c.mark_bytes.ensures.room ∙ c.loop-word.invariant.room;
      found = (
        inv.0 ++ pair ∷ [],
        goes_on kind word inv.0 pair c.args.hand.now c.loop-word.hand c.look_both-taken.new.hand inv.1
            c.look_both-taken.ensures.looks c.look_both-taken.ensures.same,
        marks_word 8 l inv.0 pair word inv.1.count c.usable.result (omega arith) (omega arith) c.usable.ensures.value
            c.usable.ensures.bits (omega arith)
            0 c.fill.new.self c.loop-word.bytes c.mark_bytes.new.into inv.2
            (subst (λ (p : ℕ × ℕ). Marks 8 p.0 p.1
            (λ k. nat_eq (bit_at (bit_and (bit_and pair.0 c.usable.result) (bit_not w64 pair.1)) k) 1)
            c.loop-word.bytes c.mark_bytes.new.into)
            (λ j. (from j, c.word_depth.ensures.value j)) c.mark_bytes.ensures.marks),
      );
    }

pub returns-clause-packs : goal.returns-clause-packs
returns-clause-packs g c =
    let l = c.layout-layout.result in let inv = c.loop-word.invariant.found in let stop = c.loop-word-test.false in
    let end = c.words-word-end.ensures.value in
    let word : ℕ = c.loop-word.word in let kind = c.args.kind in
    let all = all_words l word (omega arith) in let count = inv.1.count in let last = c.loop-word.auto.word-end in
    let marks = subst (λ (n : ℕ). Marks 8 0 n (is_busy_in l inv.0) c.fill.new.self c.loop-word.bytes) all inv.2 in
    let none = no_bit 8 c.fill.new.self (λ i. ap (λ (bytes : List ℕ). get_or bytes i 0)
    (c.fill.ensures.after (λ y e. e)) ∙ zeros (length c.args.bytes.now) i) in
    subst (λ (s : Layout). Packs s kind c.loop-word.bytes c.args.hand.now c.loop-word.hand) c.layout-layout.ensures
    (record {
      found = inv.0;
      around = record { each = omega arith; looks = inv.1.looks; same = inv.1.same };
      bits_are = λ tag. dite (dec_lt tag l.depth)
          (λ (h : tag < l.depth). let set = marks.inside tag h in let z = none (0 + tag) in
          let e : 0 + tag ≡ tag = omega arith in
          let here = ap (λ (n : ℕ). bit_in 8 c.loop-word.bytes n) e in
          let t = ap (λ (b : Bool). one_if (b && is_busy_in l inv.0 tag)) (lt-ltb tag l.depth h) in omega arith)
          (λ past. let kept = marks.outside tag (inr (omega arith)) in let z = none tag in
          let t = ap (λ (b : Bool). one_if (b && is_busy_in l inv.0 tag)) (le-ltb tag l.depth (omega arith)) in
          omega arith);
    })
