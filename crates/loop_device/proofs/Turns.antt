-- One turn more at the end of a thread's work, and what it was the turn of.
use Rattle.loop_device.proofs.Uses.{[], add-zero, ap, arith, Bool, cond, enumerate_from, false, filter, filter-append, get_or, Io, length, length-take, List, map, map-append, nat_tests, refl, share_of, State, subst, sym, take, take_more, TakesTurns, true, zero-add, ℕ, ◌∙◌}
use Rattle.std.proofs.Common.{◌≡◌, ◌≢◌, ◌+◌, ◌%◌, ◌<◌, ◌==◌, ◌∷◌, ◌++◌}
use Rattle.std.proofs.lemmas.List.{append-nil}

pub one_more : {A : Type 0} (Turn : A → State → State → Type 0) (xs : List A) (x : A) (old mid new : State)
    → TakesTurns Turn xs old mid → Turn x mid new → TakesTurns Turn (xs ++ x ∷ []) old new
one_more Turn [] x old mid new is turn = (new, subst (λ (s : State). Turn x s new) is turn, refl)
one_more Turn (y ∷ ys) x old mid new did turn = (did.0, did.1, one_more Turn ys x did.0 mid new did.2 turn)

enumerated : {A : Type 0} (n : ℕ) (xs : List A) (x : A)
    → enumerate_from n (xs ++ x ∷ []) ≡ enumerate_from n xs ++ (n + length xs, x) ∷ []
enumerated n [] x = ap (λ (k : ℕ). (k, x) ∷ []) (sym (add-zero n))
enumerated n (y ∷ ys) x =
    let same : n + 1 + length ys ≡ n + length (y ∷ ys) = omega arith in
    ap (λ l. (n, y) ∷ l) (enumerated (n + 1) ys x ∙ ap (λ (k : ℕ). enumerate_from (n + 1) ys ++ (k, x) ∷ []) same)

mapped : {A B : Type 0} (f : A → B) (b : Bool) (x : A) → map f (cond b (x ∷ []) []) ≡ cond b (f x ∷ []) []
mapped f true x = refl
mapped f false x = refl

at_index : (index : ℕ) (ios : List Io) → index < length ios → length (take index ios) ≡ index
at_index index ios low = omega (arith, length-take index ios)

-- with one line more, the share of a submitter has that line more exactly if its index is one of the submitter's
share_more : (number submitters : ℕ) (ios : List Io) (io : Io) → share_of number submitters (ios ++ io ∷ [])
    ≡ share_of number submitters ios ++ cond (length ios % submitters == number) (io.line ∷ []) []
share_more number submitters ios io =
    let mine = λ (entry : ℕ × Io). entry.0 % submitters == number in
    let line = λ (entry : ℕ × Io). entry.1.line in
    let before = enumerate_from 0 ios in
    ap (λ entries. map line (filter mine entries)) (enumerated 0 ios io)
    ∙ ap (map line) (filter-append mine before ((0 + length ios, io) ∷ []))
    ∙ map-append line (filter mine before) (cond (mine (0 + length ios, io)) ((0 + length ios, io) ∷ []) [])
    ∙ ap (λ lines. map line (filter mine before) ++ lines) (mapped line (mine (0 + length ios, io)) (0 + length ios, io))
    ∙ ap (λ (n : ℕ). map line (filter mine before) ++ cond (n % submitters == number) (io.line ∷ []) [])
    (zero-add (length ios))

module _ (number submitters : ℕ) (ios : List Io) (index : ℕ) (io : Io) (low : index < length ios) where
  share_next : share_of number submitters (take (index + 1) ios) ≡ share_of number submitters (take index ios)
      ++ cond (index % submitters == number) ((get_or ios index io).line ∷ []) []
  share_next = ap (share_of number submitters) (take_more ios index io low)
      ∙ share_more number submitters (take index ios) (get_or ios index io)
      ∙ ap (λ (n : ℕ). share_of number submitters (take index ios)
      ++ cond (n % submitters == number) ((get_or ios index io).line ∷ []) []) (at_index index ios low)

  pub share_with : index % submitters ≡ number → share_of number submitters (take (index + 1) ios)
      ≡ share_of number submitters (take index ios) ++ (get_or ios index io).line ∷ []
  share_with is =
      let own : (index % submitters == number) ≡ true = grind (arith, nat_tests) in
      share_next ∙ ap (λ (b : Bool). share_of number submitters (take index ios)
      ++ cond b ((get_or ios index io).line ∷ []) []) own

  pub share_without : index % submitters ≢ number → share_of number submitters (take (index + 1) ios)
      ≡ share_of number submitters (take index ios)
  share_without other =
      let others : (index % submitters == number) ≡ false = grind (arith, nat_tests) in
      share_next ∙ ap (λ (b : Bool). share_of number submitters (take index ios)
      ++ cond b ((get_or ios index io).line ∷ []) []) others ∙ append-nil (share_of number submitters (take index ios))
