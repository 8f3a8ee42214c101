-- A call that saw a tag free: by a look at a word or at its cleared set, and with steps before the look or after it.
use Rattle.std.specs.Prelude.{◌++◌, ◌<◌, ◌∷◌, ◌≡◌}
use Rattle.tag_bell.proofs.Uses.{[], ap, append_assoc, arith, bit_at, Caller, inl, inr, Layout, List, Look, LookAside, OnlyAdds, place_of, SawFree, SeesFree, Step, subst, sym, Word, word_depth, word_of, ℕ, ◌∙◌}
use Rattle.tag_layout.specs.Layout.{tag_at}
use Rattle.tag_layout.proofs.PlaceFacts.{place_of-tag_at, tag_at-below, word_of-tag_at}
use Rattle.tag_bell.proofs.Rung.{added_after, layout_kept, seen}
use Rattle.tag_bell.specs.Callers.{layout_of}

module _ {R : Type 0} (i found aside place : ℕ) (old new : Caller R) (is : OnlyAdds (seen i found aside) old new)
    (low : place < word_depth (layout_of old) i) where
  abbrev here : ℕ
  here = tag_at (layout_of old) i place

  in_it : word_of (layout_of old) here ≡ i
  in_it = word_of-tag_at (layout_of old) i place (omega arith)

  at_it : place_of (layout_of old) here ≡ place
  at_it = place_of-tag_at (layout_of old) i place (omega arith)

  -- a place of the cleared set that is 1, and one of the word that is 0
  pub saw_aside : bit_at aside place ≡ 1 → SawFree old new
  saw_aside set = record {
    newer = [];
    older = Word (Look i found) ∷ [];
    look = LookAside i aside;
    tag = here;
    only = is;
    free = (tag_at-below (layout_of old) i place low, inr (in_it, ap (bit_at aside) at_it ∙ set));
  }

  pub saw_word : bit_at found place ≡ 0 → SawFree old new
  saw_word clear = record {
    newer = Word (LookAside i aside) ∷ [];
    older = [];
    look = Look i found;
    tag = here;
    only = is;
    free = (tag_at-below (layout_of old) i place low, inl (in_it, ap (bit_at found) at_it ∙ clear));
  }

module _ {R : Type 0} (a b c : Caller R) where
  -- steps before those among which the look was
  pub saw_after : (xs : List (Step R)) → OnlyAdds xs a b → SawFree b c → SawFree a c
  saw_after xs first saw = record {
    newer = saw.newer;
    older = saw.older ++ xs;
    look = saw.look;
    tag = saw.tag;
    only = subst (λ (s : List (Step R)). OnlyAdds s a c) (append_assoc saw.newer (Word saw.look ∷ saw.older) xs)
        (added_after xs (saw.newer ++ Word saw.look ∷ saw.older) a b c first saw.only);
    free = subst (λ (l : Layout). SeesFree l saw.look saw.tag) (layout_kept xs a b first) saw.free;
  }

  -- and steps after them
  pub saw_before : (ys : List (Step R)) → OnlyAdds ys b c → SawFree a b → SawFree a c
  saw_before ys next saw = record {
    newer = ys ++ saw.newer;
    older = saw.older;
    look = saw.look;
    tag = saw.tag;
    only = subst (λ (s : List (Step R)). OnlyAdds s a c) (sym (append_assoc ys saw.newer (Word saw.look ∷ saw.older)))
        (added_after (saw.newer ++ Word saw.look ∷ saw.older) ys a b c saw.only next);
    free = saw.free;
  }
