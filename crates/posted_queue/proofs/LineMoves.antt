-- What hands push and pop keeps the rule of the line.
use Rattle.std.proofs.Common.{◌++◌, ◌+◌, ◌∙◌, ◌∷◌, ◌≡◌}
use Rattle.std.proofs.Common.{[], add-zero, ap, append_assoc, arith, length, List, refl, sym, zero-add, ℕ}
use Rattle.std.proofs.lemmas.List.Sums.{sum_by_push}
use Rattle.std.specs.List.{enumerate_from}
use Rattle.crossbeam_queue.specs.Fifo.{Admits, Learns, Pops, Pushes}
use Rattle.posted_queue.specs.Line.{AreInTurn, IsSeenBy, Joins, Leaves, times_at, times_in, times_popped, times_pushed, track}
use Rattle.posted_queue.specs.declared.line.Track.{Track}
use Rattle.posted_queue.proofs.Counts.{as_many, changed, longer, more, none_more, one, there}

enumerated : (n : ℕ) (xs : List ℕ) (x : ℕ)
    → enumerate_from n (xs ++ x ∷ []) ≡ enumerate_from n xs ++ (n + length xs, x) ∷ []
enumerated n [] x = ap (λ (k : ℕ). (k, x) ∷ []) (sym (add-zero n))
enumerated n (y ∷ ys) x =
    let same : n + 1 + length ys ≡ n + length (y ∷ ys) = omega arith in
    ap (λ l. (n, y) ∷ l) (enumerated (n + 1) ys x ∙ ap (λ (k : ℕ). enumerate_from (n + 1) ys ++ (k, x) ∷ []) same)

-- what stands at the end of a line
at_end : (line : List ℕ) (x place number : ℕ)
    → times_at (line ++ x ∷ []) place number ≡ times_at line place number + one (length line, x) place number
at_end line x place number =
    ap (λ entries. times_in entries place number) (enumerated 0 line x)
    ∙ ap (λ (k : ℕ). times_in (enumerate_from 0 line ++ (k, x) ∷ []) place number) (zero-add (length line))
    ∙ sum_by_push (λ (e : ℕ × ℕ). one e place number) (enumerate_from 0 line) (length line, x)

-- an empty line
pub begins : AreInTurn [] (track [] [] ∷ [])
begins = record { served = []; pushed = λ place number. refl; popped = λ place number. refl }

-- a number joins the line at its end
pub pushes : (n pass : ℕ) (v : Track) (x : ℕ) → Pushes AreInTurn n pass v x (Joins x v)
pushes n pass v x waiting tracks room h at =
    let line = h.served ++ waiting in let entry : ℕ × ℕ = (length line, x) in
    let w = track (entry ∷ v.pushed) v.popped in (
      w,
      record {
        served = h.served;
        pushed = λ place number. more (times_pushed tracks place number) _ (times_at line place number) _
            (times_in v.pushed place number) (times_in (entry ∷ v.pushed) place number) (one entry place number)
            (changed (λ (u : Track). times_in u.pushed place number) tracks pass v w at)
            (longer entry v.pushed place number)
            (ap (λ (l : List ℕ). times_at l place number) (sym (append_assoc h.served waiting (x ∷ [])))
            ∙ at_end line x place number)
            (h.pushed place number);
        popped = λ place number. as_many (times_popped tracks place number) _ (times_at h.served place number) _
            (times_in v.popped place number)
            (changed (λ (u : Track). times_in u.popped place number) tracks pass v w at)
            refl (h.popped place number);
      },
      (length line, refl),
    )

-- the first number leaves the line
pub pops : (pass : ℕ) (v : Track) → Pops AreInTurn pass v (λ x w. Leaves x v w)
pops pass v x waiting tracks h at =
    let entry : ℕ × ℕ = (length h.served, x) in let w = track v.pushed (entry ∷ v.popped) in (
      w,
      record {
        served = h.served ++ x ∷ [];
        pushed = λ place number. as_many (times_pushed tracks place number) _
            (times_at (h.served ++ x ∷ waiting) place number) _ (times_in v.pushed place number)
            (changed (λ (u : Track). times_in u.pushed place number) tracks pass v w at)
            (ap (λ (l : List ℕ). times_at l place number) (append_assoc h.served (x ∷ []) waiting))
            (h.pushed place number);
        popped = λ place number. more (times_popped tracks place number) _ (times_at h.served place number) _
            (times_in v.popped place number) (times_in (entry ∷ v.popped) place number) (one entry place number)
            (changed (λ (u : Track). times_in u.popped place number) tracks pass v w at)
            (longer entry v.popped place number)
            (at_end h.served x place number)
            (h.popped place number);
      },
      (length h.served, refl),
    )

-- a hand more, which has pushed and popped nothing
pub admits : Admits AreInTurn (track [] [])
admits waiting tracks h =
    let new = track [] [] in record {
      served = h.served;
      pushed = λ place number. none_more (times_pushed tracks place number) _ _
          (sum_by_push (λ (u : Track). times_in u.pushed place number) tracks new) (h.pushed place number);
      popped = λ place number. none_more (times_popped tracks place number) _ _
          (sum_by_push (λ (u : Track). times_in u.popped place number) tracks new) (h.popped place number);
    }

-- a hand is among those of the rule
pub seen : (pass : ℕ) (v : Track) → Learns AreInTurn pass v (IsSeenBy v)
seen pass v waiting tracks h at =
    let here = there tracks pass v at in record { tracks = tracks; lawful = h; among = (pass, here.0, here.1) }
