-- What hands look up and assign keeps the rule of the assignments.
use Rattle.std.proofs.Common.{◌++◌, ◌<◌, ◌≤◌, ◌∙◌, ◌∷◌, ◌≡◌, ◌≢◌, ⊎_elim}
use Rattle.std.proofs.Common.{[], add_comm, ap, arith, Bool, cond, false, length, List, refl, set, slice_index, subst, sym, true, ℕ}
use Rattle.std.proofs.lemmas.Bool.{cases_lt}
use Rattle.std.proofs.lemmas.List.{get_or-set_other, get_or-set_same, get_or_append_left, get_or_push}
use Rattle.std.proofs.lemmas.List.{length-append, length-set, set-get_or}
use Rattle.std.proofs.lemmas.List.Sums.{sum_by_push}
use Rattle.std.proofs.lemmas.Bool.Decides.{eqb_tells}
use Rattle.std.proofs.Math.Dec.{eqb}
use Rattle.std.specs.Bool.{⊤}
use Rattle.atomic_table.specs.Table.{Allows, Enters, keeps, Me, opening}
use Rattle.posted_queue.specs.Assigned.{AreAssigned, Assigns, assigning, goes_by, LooksUp, times_assigned}
use Rattle.posted_queue.specs.Line.{times_in}
use Rattle.posted_queue.specs.declared.assigned.Assigning.{Assigning}
use Rattle.posted_queue.proofs.Counts.{as_many, changed, longer, more, none_more, one}

-- each tag goes by its own number
abbrev pub AreOwn : List ℕ → Type 0
AreOwn words = (tag : ℕ) → tag < length words → slice_index words tag ≡ tag

pub begins : (words : List ℕ) → AreOwn words → AreAssigned (opening words [] (assigning [] []))
begins words own = record { all = []; words = own; by_hands = λ tag token. refl }

same : (new was : Assigning) → new ≡ was → ◌≡◌ {A = Me ⊤ Assigning} (new, []) (was, [])
same new was is = cc

pub joins : (slots i : ℕ) (was : Assigning) → was ≡ assigning [] []
    → Enters AreAssigned slots i (λ n w. ◌≡◌ {A = Me ⊤ Assigning} (w, []) (was, []))
joins slots i was is s h len small =
    let new = assigning [] [] in (
      new,
      record {
        all = h.all;
        words = h.words;
        by_hands = λ tag token. none_more (times_assigned s.views tag token) _ _
            (sum_by_push (λ (u : Assigning). times_in u.assigned tag token) s.views new) (h.by_hands tag token);
      },
      same new was (sym is),
    )

pub looks : (slots id : ℕ) (me : Me ⊤ Assigning) (i : ℕ)
    → Allows AreAssigned slots id me i (λ n. n) (λ n w. LooksUp i n me.0 w.0)
looks slots id me i s h len at small =
    let v = me.0 in let n = slice_index s.words i in let w = assigning ((i, n) ∷ v.found) v.assigned in (
      w,
      keeps,
      tt,
      record {
        all = h.all;
        words = subst (λ (ws : List ℕ). (tag : ℕ) → tag < length ws → slice_index ws tag ≡ goes_by h.all tag)
            (sym (set-get_or s.words i 0)) h.words;
        by_hands = λ tag token. as_many (times_assigned s.views tag token) _ (times_in h.all tag token) _
            (times_in v.assigned tag token)
            (changed (λ (u : Assigning). times_in u.assigned tag token) s.views id v w at)
            refl (h.by_hands tag token);
      },
      refl,
    )

-- what a tag goes by once the token is assigned to one
entered : (all : List (ℕ × ℕ)) (words : List ℕ) (i token tag : ℕ) → tag < length words
    → slice_index words tag ≡ goes_by all tag → slice_index (set words i token) tag ≡ goes_by ((i, token) ∷ all) tag
entered all words i token tag low was = ⊎_elim
    (λ (is : (eqb i tag ≡ true) × (i ≡ tag)).
    subst (λ (k : ℕ). slice_index (set words k token) tag ≡ token) (sym is.1) (get_or-set_same words tag token 0 low)
    ∙ sym (ap (λ (b : Bool). cond b token (goes_by all tag)) is.0))
    (λ (no : (eqb i tag ≡ false) × (i ≢ tag)). get_or-set_other words i tag token 0 (λ same. no.1 (sym same))
    ∙ was ∙ sym (ap (λ (b : Bool). cond b token (goes_by all tag)) no.0))
    (eqb_tells i tag)

pub assigns : (slots id : ℕ) (me : Me ⊤ Assigning) (i token : ℕ)
    → Allows AreAssigned slots id me i (λ _. token) (λ _ w. Assigns i token me.0 w.0)
assigns slots id me i token s h len at small =
    let v = me.0 in let entry : ℕ × ℕ = (i, token) in let w = assigning v.found (entry ∷ v.assigned) in (
      w,
      keeps,
      tt,
      record {
        all = entry ∷ h.all;
        words = λ tag low. let within : tag < length s.words = subst (λ (n : ℕ). tag < n) (length-set s.words i token) low in
            entered h.all s.words i token tag within (h.words tag within);
        by_hands = λ tag other. more (times_assigned s.views tag other) _ (times_in h.all tag other) _
            (times_in v.assigned tag other) (times_in (entry ∷ v.assigned) tag other) (one entry tag other)
            (changed (λ (u : Assigning). times_in u.assigned tag other) s.views id v w at)
            (longer entry v.assigned tag other)
            (longer entry h.all tag other ∙ add_comm (one entry tag other) (times_in h.all tag other))
            (h.by_hands tag other);
      },
      refl,
    )

-- the next number joins
pub own_more : (words : List ℕ) (n : ℕ) → length words ≡ n → AreOwn words → AreOwn (words ++ n ∷ [])
own_more words n same own tag low = ⊎_elim
    (λ (in' : tag < length words). get_or_append_left words (n ∷ []) 0 tag in' ∙ own tag in')
    (λ (past : length words ≤ tag).
    let last : tag ≡ n = omega (arith, same, past, low, length-append words (n ∷ [])) in
    get_or_push words n 0 tag (same ∙ sym last) ∙ sym last)
    (cases_lt tag (length words))
