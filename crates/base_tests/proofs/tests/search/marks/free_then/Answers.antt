-- The mark added is that of the next tag, by its word and place.
use Rattle.base_tests.proofs.Uses.{ap, Bool, false, free_then, get_or, is_in, nat_le, nat_lt, not, place_of, word_of, ℕ, ◌∙◌}
use Rattle.std.proofs.Common.{◌≡◌, ◌+◌, ◌&&◌, ◌||◌, nat_eq}
use Rattle.base_tests.proofs.Reference.{mark_more, marks_count}
use Rattle.base_tests.proofs.tests.search.marks.free_then.Goals as goal

pub loop-tag-preserved : goal.loop-tag-preserved
loop-tag-preserved c =
    let l = c.args.layout in let tag = c.loop-tag.tag in let free = c.args.free.now in let aside = c.args.aside.now in
    let swept = c.args.swept.now in
    let word : ℕ = c.args.taken.0 in let place : ℕ = c.args.taken.1 in let n : ℕ = c.args.taken.2 in
    let is_free = c.is_free_then-is_free.result in
    let F : ℕ → Bool = λ t. free_then l free aside swept word place n t (word_of l t) (place_of l t) in
    let of : c.word_of-of.result ≡ word_of l tag = c.word_of-of.ensures.value in
    let at : c.place_of-at.result ≡ place_of l tag = c.place_of-at.ensures.value in
    let is_swept : c.is_in.result ≡ is_in (word_of l tag) swept = c.is_in.ensures ∙ ap (λ (x : ℕ). is_in x swept) of in
    let is_taken : c.is_among-is_taken.result
    ≡ (nat_eq (word_of l tag) word && (nat_le place (place_of l tag) && nat_lt (place_of l tag) (place + n))) =
    c.is_among-is_taken.ensures ∙ (λ z. nat_eq (of z) word && (nat_le place (at z) && nat_lt (at z) (place + n))) in
    let is : is_free ≡ F tag =
    c.is_free_then-is_free.ensures ∙ (λ z. (get_or free tag false || (is_swept z && get_or aside tag false))
    && not (is_taken z)) in
    record {
      count = marks_count c.loop-tag.marks.items c.push.new.self.items is_free tag c.in_ok-push.ensures.items
          c.loop-tag.invariant.count;
      each = mark_more F c.loop-tag.marks.items c.push.new.self.items is_free tag c.in_ok-push.ensures.items
          c.loop-tag.invariant.count c.loop-tag.invariant.each is;
    }
