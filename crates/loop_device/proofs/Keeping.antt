-- What a history with one line more says of its sectors, and where they stand in the row.
use Rattle.loop_device.proofs.Uses.{[], Answers, AnswersAs, ap, AreStampsOf, arith, Bool, cond, covers, Done, done_of, end_key, false, first_key, FitsTypes, inl, inr, Io, IoKind, IsGreatest, IsGreatestWithin, IsHistory, IsStampedWithin, key, leaves_stamp, length, List, nat_le, nat_lt, nat_tests, refl, rules, Segments, stamp_after, stamp_at, stamp_of, stamps_sector, subst, sym, true, ℕ, ⊎_elim, ◌∙◌}
use Rattle.std.proofs.Common.{◌≡◌, ◌+◌, ◌-◌, ◌*◌, ◌/◌, ◌^◌, ◌<◌, ◌≤◌, ◌&&◌, ◌∷◌, ◌++◌}
use Rattle.loop_device.specs.declared.io.IoKind.TheVariants.{Read, Write, Trim, Sync, Datasync}
use Rattle.loop_device.proofs.Parting.{parted}

-- a line that answers what it answers after a history makes a history with it
pub extends : (h : List Done) (d : Done) → IsHistory h → Answers h d.io d.stamp → IsHistory (h ++ d ∷ [])
extends h d old new before e after is = ⊎_elim (λ (t : (h ≡ before) × (d ≡ e)). subst (λ (z : List Done × Done).
    Answers z.0 z.1.io z.1.stamp) (λ i. (t.0 i, t.1 i)) new)
    (λ (t : (rest : List Done) × (h ≡ before ++ e ∷ rest)). old before e t.0 t.1)
    (parted h d before e after is)

-- the stamp that one line more leaves
stamp_snoc : (stamp : ℕ) (h : List Done) (d : Done) (name sector : ℕ)
    → stamp_after stamp (h ++ d ∷ []) name sector ≡ cond (stamps_sector name sector d) d.io.line (stamp_after stamp h
    name sector)
stamp_snoc stamp [] d name sector = refl
stamp_snoc stamp (x ∷ xs) d name sector = stamp_snoc (cond (stamps_sector name sector x) x.io.line stamp) xs d name
    sector

-- a line ends within its name's sectors
last_small : (offset length : ℕ) → offset < 2 ^ 64 → length < 2 ^ 64 → (offset + length - 1) / 512 < 2 ^ 56
last_small offset length o l = omega arith

-- a position between the ends of a line
abbrev pub is_between : Io → ℕ → Bool
is_between io at = nat_le (first_key io) at && nat_lt at (end_key io)

-- a line covers the sectors between its ends
covers_between : (io : Io) → FitsTypes io → (name sector : ℕ) → sector < 2 ^ 56
    → covers io name sector ≡ is_between io (key name sector)
covers_between io small name sector ss =
    let last = last_small io.offset io.length small.offset small.length in grind (arith, nat_tests)

-- a sector is in the row
key_small : (name sector : ℕ) → name < 2 ^ 32 → sector < 2 ^ 56 → key name sector < 2 ^ 88
key_small name sector n s = omega arith

-- a line that leaves no stamp
pub unstamped_kept : (stamps : Segments) (io : Io) (answer : ℕ) → leaves_stamp io.kind ≡ false
    → (history : List Done) → AreStampsOf history stamps
    → AreStampsOf (history ++ done_of io answer ∷ []) stamps
unstamped_kept stamps io answer plain history are name sector n s =
    are name sector n s ∙ sym (stamp_snoc 0 history (done_of io answer) name sector
    ∙ ap (λ t. cond (t && covers io name sector) io.line (stamp_of history name sector)) plain)

-- a line that leaves its stamp
pub stamped_kept : (old new : Segments) (io : Io) → FitsTypes io → leaves_stamp io.kind ≡ true
    → IsStampedWithin (stamp_at (2 ^ 88) old) (stamp_at (2 ^ 88) new) (2 ^ 88) (first_key io) (end_key io) io.line
    → (history : List Done) → AreStampsOf history old → AreStampsOf (history ++ done_of io io.line ∷ []) new
stamped_kept old new io small leaves stamped history are name sector n s =
    let at = key name sector in let fits = key_small name sector n s in
    let stamp : stamp_of (history ++ done_of io io.line ∷ []) name sector
    ≡ cond (is_between io at) io.line (stamp_of history name sector) =
    stamp_snoc 0 history (done_of io io.line) name sector
    ∙ ap (λ t. cond (t && covers io name sector) io.line (stamp_of history name sector)) leaves
    ∙ ap (λ t. cond t io.line (stamp_of history name sector)) (covers_between io small name sector s) in
    grind (arith, nat_tests, stamp, stamped.inside at, stamped.below at, stamped.above at, are name sector n s)

-- a line of a kind that leaves a stamp answers its number
pub answers_line : (kind : IoKind) (history : List Done) (io : Io) → leaves_stamp kind ≡ true
    → AnswersAs kind history io io.line
answers_line Read history io leaves = absurd (search (rules, leaves))
answers_line Write history io leaves = refl
answers_line Trim history io leaves = refl
answers_line Sync history io leaves = absurd (search (rules, leaves))
answers_line Datasync history io leaves = absurd (search (rules, leaves))

-- a line of a kind that neither leaves a stamp nor reads answers 0
pub answers_0 : (kind : IoKind) (history : List Done) (io : Io) → leaves_stamp kind ≡ false → (kind ≡ Read → ⊥)
    → AnswersAs kind history io 0
answers_0 Read history io plain other = absurd (other refl)
answers_0 Write history io plain other = absurd (search (rules, plain))
answers_0 Trim history io plain other = absurd (search (rules, plain))
answers_0 Sync history io plain other = refl
answers_0 Datasync history io plain other = refl

-- a read answers the greatest stamp between the ends
pub reads_greatest : (stamps : Segments) (io : Io) → FitsTypes io → (greatest : ℕ)
    → IsGreatestWithin (stamp_at (2 ^ 88) stamps) (first_key io) (end_key io) greatest
    → (history : List Done) → AreStampsOf history stamps → IsGreatest history io greatest
reads_greatest stamps io small greatest g history are = record {
  most = λ sector c.
      let ss : sector < 2 ^ 56 = grind (arith, nat_tests, last_small io.offset io.length small.offset small.length) in
      let between = sym (covers_between io small io.name sector ss) ∙ c in
      grind (arith, nat_tests, g.most (key io.name sector), are io.name sector small.name ss);
  reached = ⊎_elim (λ (z : greatest ≡ 0). inl z)
      (λ (t : (at : ℕ) × (first_key io ≤ at) × (at < end_key io) × (stamp_at (2 ^ 88) stamps at ≡ greatest)).
      let sector = t.0 - io.name * 2 ^ 56 in let last = last_small io.offset io.length small.offset small.length in
      let is : t.0 ≡ key io.name sector = omega (arith, t.1) in
      let ss : sector < 2 ^ 56 = grind (arith, nat_tests, t.1, t.2) in
      let between : is_between io (key io.name sector) ≡ true = grind (arith, nat_tests, t.1, t.2) in
      inr (
        sector,
        covers_between io small io.name sector ss ∙ between,
        sym (are io.name sector small.name ss) ∙ ap (stamp_at (2 ^ 88) stamps) (sym is) ∙ t.3,
      ))
      g.reached;
}
