-- What a tell leaves of a berth, one berth changed, and the word of a berth.
use Rattle.std.specs.Prelude.{◌%◌, ◌*◌, ◌+◌, ◌/◌, ◌<◌, ◌≡◌, ◌≢◌, ◌⊎◌, false, true}
use Rattle.std.proofs.lemmas.Bool.{false≢true}
use Rattle.tag_core.proofs.Uses.{ap, arith, Berth, berth_of, berth_word, bit_of, Bool, cond, dite, eq-eqb, inl, inr, IsUp, Listed, Listener, nat_eq, ne_eqb, newly_told, refl, same_waiter, Sleeper, sym, Told, told_as, Up, Waiter, waiter_bit, waiter_of, with_berth, ℕ, ℕ_discrete, ◌∙◌}

-- the changed berth is the new one, and the others are as they were
pub with_berth-here : (f : ℕ → Berth) (at : ℕ) (new : Berth) (d : ℕ) → d ≡ at → with_berth f at new d ≡ new
with_berth-here f at new d e = ap (λ (b : Bool). cond b new (f d)) (eq-eqb d at e)

pub with_berth-else : (f : ℕ → Berth) (at : ℕ) (new : Berth) (d : ℕ) → d ≢ at → with_berth f at new d ≡ f d
with_berth-else f at new d ne = ap (λ (b : Bool). cond b new (f d)) (ne_eqb d at ne)

pub same_waiter-refl : (waiter : Waiter) → same_waiter waiter waiter ≡ true
same_waiter-refl Sleeper = refl
same_waiter-refl Listener = refl

pub same_waiter-is : (w v : Waiter) → same_waiter w v ≡ true → w ≡ v
same_waiter-is Sleeper Sleeper e = refl
same_waiter-is Sleeper Listener e = absurd (false≢true e)
same_waiter-is Listener Sleeper e = absurd (false≢true e)
same_waiter-is Listener Listener e = refl

-- whoever is up stays so
pub as-up : (waiter : Waiter) (turn : ℕ) (b : Berth) → IsUp b → IsUp (told_as waiter turn b)
as-up waiter turn Up up = tt
as-up waiter turn (Listed w t) up = absurd up
as-up waiter turn (Told w t) up = up

-- whoever is listed as the tell expects is told
pub as-hit : (waiter : Waiter) (turn : ℕ) → told_as waiter turn (Listed waiter turn) ≡ Told waiter turn
as-hit waiter turn =
    ap (λ (a : Bool). cond a (cond (nat_eq turn turn) (Told waiter turn) (Listed waiter turn)) (Listed waiter turn))
    (same_waiter-refl waiter) ∙ ap (λ (a : Bool). cond a (Told waiter turn) (Listed waiter turn)) (eq-eqb turn turn refl)

-- whoever is not stays as it was
pub as-miss : (waiter : Waiter) (turn : ℕ) (b : Berth) → b ≢ Listed waiter turn → told_as waiter turn b ≡ b
as-miss waiter turn Up not = refl
as-miss waiter turn (Listed w t) not = grind (arith, same_waiter-is)
as-miss waiter turn (Told w t) not = refl

-- by a tell whoever was listed as expected is newly told, and nobody else
pub newly-hit : (whom : ℕ) (waiter : Waiter) (turn : ℕ) → newly_told whom waiter turn (Listed waiter turn) ≡ bit_of whom
newly-hit whom waiter turn = ap (λ (a : Bool). cond a (cond (nat_eq turn turn) (bit_of whom) 0) 0) (same_waiter-refl waiter)
    ∙ ap (λ (a : Bool). cond a (bit_of whom) 0) (eq-eqb turn turn refl)

pub newly-miss : (whom : ℕ) (waiter : Waiter) (turn : ℕ) (b : Berth) → b ≢ Listed waiter turn
    → newly_told whom waiter turn b ≡ 0
newly-miss whom waiter turn Up not = refl
newly-miss whom waiter turn (Listed w t) not = grind (arith, same_waiter-is)
newly-miss whom waiter turn (Told w t) not = refl

-- a word tells of the berth of which it is the word
bit_small : (waiter : Waiter) → (waiter_bit waiter ≡ 0) ⊎ (waiter_bit waiter ≡ 4)
bit_small Sleeper = inl refl
bit_small Listener = inr refl

waiter-back : (waiter : Waiter) (word turn rest : ℕ) → word ≡ turn * 8 + waiter_bit waiter + rest → rest < 4
    → waiter_of word ≡ waiter
waiter-back Sleeper word turn rest is low =
    ap (λ (b : Bool). cond b Sleeper Listener) (eq-eqb (word / 4 % 2) 0 (omega arith))
waiter-back Listener word turn rest is low =
    ap (λ (b : Bool). cond b Sleeper Listener) (ne_eqb (word / 4 % 2) 0 (omega arith))

pub berth-back : (b : Berth) → berth_of (berth_word b) ≡ b
berth-back Up = refl
berth-back (Listed waiter turn) = listed (turn * 8 + waiter_bit waiter + 1) refl
  where
    listed : (word : ℕ) → word ≡ turn * 8 + waiter_bit waiter + 1 → berth_of word ≡ Listed waiter turn
    listed word is = let few = bit_small waiter in
        let one : word % 4 ≡ 1 = omega arith in let high : word / 8 ≡ turn = omega arith in
        ap (λ (b : Bool). cond b (Listed (waiter_of word) (word / 8))
        (cond (nat_eq (word % 4) 2) (Told (waiter_of word) (word / 8)) Up)) (eq-eqb (word % 4) 1 one)
        ∙ (λ j. Listed (waiter-back waiter word turn 1 is (omega arith) j) (high j))
berth-back (Told waiter turn) = told (turn * 8 + waiter_bit waiter + 2) refl
  where
    told : (word : ℕ) → word ≡ turn * 8 + waiter_bit waiter + 2 → berth_of word ≡ Told waiter turn
    told word is = let few = bit_small waiter in
        let two : word % 4 ≡ 2 = omega arith in let high : word / 8 ≡ turn = omega arith in
        ap (λ (b : Bool). cond b (Listed (waiter_of word) (word / 8))
        (cond (nat_eq (word % 4) 2) (Told (waiter_of word) (word / 8)) Up)) (ne_eqb (word % 4) 1 (omega arith))
        ∙ ap (λ (b : Bool). cond b (Told (waiter_of word) (word / 8)) Up) (eq-eqb (word % 4) 2 two)
        ∙ (λ j. Told (waiter-back waiter word turn 2 is (omega arith) j) (high j))

-- so it is of one berth alone
pub berth-one : (a b : Berth) → berth_word a ≡ berth_word b → a ≡ b
berth-one a b same = sym (berth-back a) ∙ ap berth_of same ∙ berth-back b

pub listed-one : (w v : Waiter) (t u : ℕ) → berth_word (Listed w t) ≡ berth_word (Listed v u) → (w ≡ v) × (t ≡ u)
listed-one w v t u same = let one = berth-one (Listed w t) (Listed v u) same in (cc, cc)

-- and a word that tells of a listed one is its word
bit_of_word : (word : ℕ) → waiter_bit (waiter_of word) ≡ 4 * (word / 4 % 2)
bit_of_word word = dite (ℕ_discrete (word / 4 % 2) 0)
    (λ (off : word / 4 % 2 ≡ 0). ap (λ (b : Bool). waiter_bit (cond b Sleeper Listener)) (eq-eqb (word / 4 % 2) 0 off)
    ∙ omega arith)
    (λ (on : word / 4 % 2 ≢ 0). ap (λ (b : Bool). waiter_bit (cond b Sleeper Listener)) (ne_eqb (word / 4 % 2) 0 on)
    ∙ omega arith)

pub listed-word : (word : ℕ) (waiter : Waiter) (turn : ℕ) → berth_of word ≡ Listed waiter turn
    → word ≡ berth_word (Listed waiter turn)
listed-word word waiter turn is = let told : Berth = Told (waiter_of word) (word / 8) in
    let listed : Berth = Listed (waiter_of word) (word / 8) in dite (ℕ_discrete (word % 4) 1)
    (λ (one : word % 4 ≡ 1). let same : listed ≡ Listed waiter turn
    = sym (ap (λ (b : Bool). cond b listed (cond (nat_eq (word % 4) 2) told Up)) (eq-eqb (word % 4) 1 one)) ∙ is in
    let as_what : waiter_of word ≡ waiter = cc in let high : word / 8 ≡ turn = cc in
    let bit = bit_of_word word in let so = ap waiter_bit as_what in omega arith)
    (λ (other : word % 4 ≢ 1). let rest : cond (nat_eq (word % 4) 2) told Up ≡ Listed waiter turn
    = sym (ap (λ (b : Bool). cond b listed (cond (nat_eq (word % 4) 2) told Up)) (ne_eqb (word % 4) 1 other)) ∙ is in
    absurd (never (nat_eq (word % 4) 2) rest))
  where
    never : (b : Bool) → cond b (Told (waiter_of word) (word / 8)) Up ≢ Listed waiter turn
    never true e = cc
    never false e = cc
