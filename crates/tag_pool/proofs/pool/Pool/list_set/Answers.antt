-- Each turn looks at one word, marks the bits of its busy tags and adds their number.
use Rattle.std.specs.Prelude.{◌*◌, ◌++◌, ◌+◌, ◌<◌, ◌∷◌, ◌≡◌}
use Rattle.std.proofs.Common.{[], ap, arith, bit_and, min, nat_eq, refl, subst, sym, ℕ, ◌∙◌}
use Rattle.tag_pool.specs.Lending.{side_of}
use Rattle.std.specs.Int.{bit_at, bit_not, w64}
use Rattle.sums.specs.Below.{count_below}
use Rattle.sums.proofs.Laws.{count_below-le}
use Rattle.tag_pool.specs.Looks.{FindsHeld, is_busy_in}
use Rattle.tag_layout.specs.Layout.{Layout, word_bits}
use Rattle.tag_pool.specs.Busy.{ListsSet}
use Rattle.tag_pool.specs.Bits.{Marks}
use Rattle.tag_layout.proofs.PlaceFacts.{word_depth-pos, word_of-below}
use Rattle.tag_pool.specs.Sides as side
use Rattle.tag_pool.proofs.Around.{starts, goes_on, found_holds}
use Rattle.tag_pool.proofs.Marking.{marks-none}
use Rattle.tag_pool.proofs.Sizes.{small_set, held_low}
use Rattle.tag_pool.proofs.Tallies.{counted, none_yet, marks_word, held_word, all_words}
use Rattle.tag_pool.proofs.pool.Pool.list_set.Goals as goal

pub loop-word-init : goal.loop-word-init
loop-word-init g c = let l = c.layout-layout.result in
    let none : 0 ≡ min (0 * word_bits l) l.depth = omega arith in record {
      own = (c.requires.hand, refl);
      room = refl;
      found = (
        [],
        starts c.args.kind c.args.hand.now,
        none_yet l (is_busy_in l []),
        subst (λ (n : ℕ). Marks 64 c.args.first n (is_busy_in l []) c.args.into.now c.args.into.now) none
            (marks-none 64 c.args.first (is_busy_in l []) c.args.into.now),
        λ tag h low. absurd (omega arith),
      );
    }

pub tag_at-requires-clause-place : goal.tag_at-requires-clause-place
tag_at-requires-clause-place g c = let there = c.loop-word-test.true in let end = c.words-word-end.ensures.value in
    word_depth-pos c.layout-layout.result c.loop-word.word (omega arith)

pub overflow_add-count : goal.overflow_add-count
overflow_add-count g c =
    let l = c.layout-layout.result in let inv = c.loop-word.invariant.found in let there = c.loop-word-test.true in
    let end = c.words-word-end.ensures.value in
    let one = counted l l refl inv.0 c.look_both-taken.result c.loop-word.word c.usable.result inv.1.count
    (omega arith) (omega arith) c.usable.ensures.value c.usable.ensures.bits (omega arith) in
    let few = one.few_busy in let more = one.busy in let so = inv.2 in
    let small = small_set c.args.self.now c.args.kind in
    let same = ap (λ (s : Layout). s.depth) c.layout-layout.ensures in omega arith

pub loop-word-preserved : goal.loop-word-preserved
loop-word-preserved g c =
    let l = c.layout-layout.result in let inv = c.loop-word.invariant.found in let there = c.loop-word-test.true in
    let end = c.words-word-end.ensures.value in
    let kind = c.args.kind in let word : ℕ = c.loop-word.word in let pair = c.look_both-taken.result in
    let one = counted l l refl inv.0 pair word c.usable.result inv.1.count
    (omega arith) (omega arith) c.usable.ensures.value c.usable.ensures.bits (omega arith) in
    let busy = one.busy in let so = inv.2 in
    let here = subst (λ (s : Layout). FindsHeld s (side_of c.loop-word.hand kind) word pair)
    (sym c.layout-layout.ensures) c.look_both-taken.ensures.held in
    record {
      own = (c.look_both-taken.ensures.hand.0, c.look_both-taken.ensures.hand.1 ∙ c.loop-word.invariant.own.1);
      room = c.mark.ensures.room ∙ c.loop-word.invariant.room;
      found = (
        inv.0 ++ pair ∷ [],
        goes_on kind word inv.0 pair c.args.hand.now c.loop-word.hand c.look_both-taken.new.hand inv.1
            c.look_both-taken.ensures.looks c.look_both-taken.ensures.same,
        omega arith,
        marks_word 64 l inv.0 pair word inv.1.count c.usable.result (omega arith) (omega arith) c.usable.ensures.value
            c.usable.ensures.bits (omega arith)
            c.args.first c.args.into.now c.loop-word.into c.mark.new.into inv.3
            (subst (λ (p : ℕ × ℕ). Marks 64 (c.args.first + p.0) p.1
            (λ k. nat_eq (bit_at (bit_and (bit_and pair.0 c.usable.result) (bit_not w64 pair.1)) k) 1)
            c.loop-word.into c.mark.new.into) (λ j. (c.tag_at.ensures.value j, c.word_depth.ensures.value j))
            c.mark.ensures.marks),
        held_word l inv.0 pair word inv.1.count (side.Holds (side_of c.args.hand.now kind)) inv.4
            (λ tag h at. here tag (found_holds inv.0 (side_of c.args.hand.now kind) (side_of c.loop-word.hand kind)
            inv.1.looks.changed tag h) at),
      );
    }

pub returns-clause-lists : goal.returns-clause-lists
returns-clause-lists g c =
    let l = c.layout-layout.result in let inv = c.loop-word.invariant.found in let stop = c.loop-word-test.false in
    let end = c.words-word-end.ensures.value in
    let word : ℕ = c.loop-word.word in let kind = c.args.kind in
    let all = all_words l word (omega arith) in let count = inv.1.count in let last = c.loop-word.auto.word-end in
    subst (λ (s : Layout). ListsSet s kind c.args.first c.args.into.now c.loop-word.into c.loop-word.count
    c.args.hand.now c.loop-word.hand) c.layout-layout.ensures
    (record {
      found = inv.0;
      around = record { each = omega arith; looks = inv.1.looks; same = inv.1.same };
      marks = subst (λ (n : ℕ). Marks 64 c.args.first n (is_busy_in l inv.0) c.args.into.now c.loop-word.into) all
          inv.3;
      count_is = inv.2 ∙ ap (count_below (is_busy_in l inv.0)) all;
      held = λ number h. inv.4 number h (let low =
          subst (λ (s : Layout). number < s.depth) (sym c.layout-layout.ensures)
          (held_low c.args.self.now c.args.hand.now kind number c.requires.hand h) in
          let at = word_of-below l number low in omega arith);
    })

pub returns-clause-few : goal.returns-clause-few
returns-clause-few g c =
    let l = c.layout-layout.result in let inv = c.loop-word.invariant.found in let so = inv.2 in
    let le = count_below-le (is_busy_in l inv.0) (min (c.loop-word.word * word_bits l) l.depth) in
    let small = small_set c.args.self.now c.args.kind in
    let same = ap (λ (s : Layout). s.depth) c.layout-layout.ensures in omega arith
