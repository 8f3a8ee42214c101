-- Whatever history ends with the load of a note, it left the tag as was read.
use Rattle.std.specs.Prelude.{◌<◌, ◌∷◌, ◌≡◌, ◌≢◌, Option}
use Rattle.tag_core.proofs.Uses.{[], ap, arith, Bell, Bool, Cells, cells_after, cells_of, Claimed, cond, event_of, free, Give, held, History, IsLawful, IsTrue, Keep, Look, LookAside, None, Place, place_after, Post, posted, posted_bit, Put, ReadNote, refl, Shape, Some}
use Rattle.tag_core.proofs.Uses.{Spill, state_word, Step, suc, Swap, sym, Take, Word, world_of, zero, ℕ, ◌∙◌}
use Rattle.tag_model.specs.Event.{names, Needs, spilled_by, swept_by}
use Rattle.tag_core.specs.Notes.{IsTrueNote}
use Rattle.tag_core.proofs.Turns.{posted_from, posted_small}

-- the moves of a tag that is not posted, to a place where it is not posted either
stays : (b : Bool) (p q : Place) → (IsTrue b → posted_bit p ≡ posted_bit q) → posted_bit (cond b p q) ≡ posted_bit q
stays b p q same = grind (arith, same)

swept_same : (c : ℕ) (q : Place) → posted_bit (swept_by c q) ≡ posted_bit q
swept_same c q = grind arith

spilled_same : (c : ℕ) (q : Place) → posted_bit (spilled_by c q) ≡ posted_bit q
spilled_same c q = grind arith

-- a tag whose state has another word than 0 is posted, with the note of which that tells
pub posted_there : (q : Place) (is_posted note : ℕ) → posted_bit q ≡ is_posted → state_word is_posted note ≢ 0 → q ≡ posted
posted_there q zero note is some_there = absurd (some_there refl)
posted_there q (suc is_posted) note is some_there = grind (arith, posted_from, posted_small)

noted_there : (q : Place) (is_posted note found : ℕ) → posted_bit q ≡ is_posted → suc found ≡ state_word is_posted note
    → (q ≡ posted) × (note ≡ found)
noted_there q zero note found is finds = absurd (omega arith)
noted_there q (suc is_posted) note found is finds =
    (posted_there q (suc is_posted) note is (λ none_there. absurd (omega arith)), omega arith)

-- and one whose state has the word 0 is not
not_there : (q : Place) (is_posted note : ℕ) → posted_bit q ≡ is_posted → 0 ≡ state_word is_posted note → q ≢ posted
not_there q zero note is finds its = absurd (grind (arith, is, its))
not_there q (suc is_posted) note is finds its = absurd (omega arith)

module _ {R : Type 0} (k : Shape) where
  -- a step changes a tag's state as it changes its place
  follows : (caller : ℕ) (st : Step R) (c : Cells) (t : ℕ) (q : Place)
      → (IsTrue (names k.layout (event_of k.layout caller st) t) → Needs (event_of k.layout caller st) q)
      → posted_bit q ≡ c.state t
      → posted_bit (place_after k.layout (event_of k.layout caller st) t q) ≡ (cells_after st c).state t
  follows caller (Word (Look i found)) c t q needs is = is
  follows caller (Word (LookAside i found)) c t q needs is = is
  follows caller (Word (Claimed i mask found)) c t q needs is =
      stays _ (held caller) q (λ it. sym (ap posted_bit (needs it))) ∙ is
  follows caller (Word (Give i mask found)) c t q needs is = stays _ free q (λ it. sym (ap posted_bit (needs it))) ∙ is
  follows caller (Word (Put i mask found)) c t q needs is =
      stays _ _ q (λ it. sym (ap posted_bit (needs it))) ∙ is
  follows caller (Word (Swap i found)) c t q needs is = stays _ (swept_by caller q) q (λ it. swept_same caller q) ∙ is
  follows caller (Word (Keep i mask)) c t q needs is =
      stays _ (held caller) q (λ it. sym (ap posted_bit (needs it))) ∙ is
  follows caller (Word (Spill i mask found)) c t q needs is =
      stays _ (spilled_by caller q) q (λ it. spilled_same caller q) ∙ is
  follows caller (Post tag note value) c t q needs is = grind (arith, is)
  follows caller (Take tag zero value) c t q needs is = is
  follows caller (Take tag (suc found) value) c t q needs is = grind (arith, is)
  follows caller (ReadNote tag found) c t q needs is = is
  follows caller (Bell step) c t q needs is = is

  -- so a lawful history leaves a tag's state 1 exactly where it leaves the tag posted
  pub posted_is : (h : History R) → IsLawful k h → (t : ℕ) → t < k.layout.depth
      → posted_bit ((world_of k h).place t) ≡ (cells_of h).state t
  posted_is [] lawful t low = refl
  posted_is (x ∷ older) lawful t low = follows x.0 x.1 (cells_of older) t ((world_of k older).place t)
      (lawful.happens.0.places t low)
      (posted_is older (record { finds = lawful.finds.4; happens = lawful.happens.1 }) t low)

  pub true_note : (caller tag : ℕ) (answer : Option ℕ) → tag < k.layout.depth → IsTrueNote R k caller tag answer
  true_note caller tag None low older lawful =
      not_there ((world_of k older).place tag) _ ((cells_of older).note tag) (posted_is older
      (record { finds = lawful.finds.4; happens = lawful.happens.1 }) tag low) lawful.finds.2
  true_note caller tag (Some note) low older lawful =
      let is = noted_there ((world_of k older).place tag) _ ((cells_of older).note tag) note (posted_is older
      (record { finds = lawful.finds.4; happens = lawful.happens.1 }) tag low) lawful.finds.2 in
      record { posted = is.0; note_is = is.1 }
