-- What a step changes: the word of a group, the group of its waiter, and the active count.
use Rattle.std.specs.Prelude.{◌+◌, ◌-◌, ◌<◌, ◌∷◌, ◌≡◌, ◌≢◌, ◌≤◌}
use Rattle.wake_book.proofs.Uses.{[], active_at, ap, arith, Bool, cond, dite, Enter, eq-eqb, exchange_to, get_or, get_or-set_other, get_or-set_same, Grant, group_at, groups_width, GroupStep, index_at, length, length-set, List, Look, Lower, MayStep, moved_in, nat_eq, ne_eqb, one_waiting, own_steps}
use Rattle.wake_book.proofs.Uses.{Raise, raised, refl, replicate, set, stand, Store, subst, suc, sym, total, Use, Withdraw, word, words_after, words_in, zero, ℕ, ℕ_discrete, ◌∙◌}
use Rattle.wake_book.proofs.Counting.{moves, misses}

abbrev pub Hist : Type 0
Hist = List (ℕ × GroupStep)

-- n if the group is g and the word found was the one expected, else 0
abbrev pub at_group : ℕ → ℕ → ℕ → ℕ → ℕ → ℕ
at_group g u found expected n = cond (nat_eq u g) (cond (nat_eq found expected) n 0) 0

-- 1 if the code s is that of the group, else 0
abbrev pub here : ℕ → ℕ → ℕ
here g s = cond (nat_eq s (suc g)) 1 0

abbrev pub entered : ℕ → GroupStep → ℕ
entered g (Enter u f) = cond (nat_eq u g) 1 0
entered g _ = 0

abbrev pub issued : ℕ → GroupStep → ℕ
issued g (Grant u old m f) = at_group g u f old m
issued g _ = 0

abbrev pub used : ℕ → GroupStep → ℕ
used g (Use u old f) = at_group g u f old 1
used g _ = 0

abbrev pub withdrawn : ℕ → GroupStep → ℕ
withdrawn g (Withdraw u old f) = at_group g u f old 1
withdrawn g _ = 0

abbrev pub ups : GroupStep → ℕ
ups (Raise f) = 1
ups _ = 0

abbrev pub downs : GroupStep → ℕ
downs (Lower f) = 1
downs _ = 0

-- ---- choices

pub yes_of : (a b x y : ℕ) → a ≡ b → cond (nat_eq a b) x y ≡ x
yes_of a b x y e = ap (λ (z : Bool). cond z x y) (eq-eqb a b e)

pub no_of : (a b x y : ℕ) → a ≢ b → cond (nat_eq a b) x y ≡ y
no_of a b x y e = ap (λ (z : Bool). cond z x y) (ne_eqb a b e)

-- ---- the words

pub zeros : (n i : ℕ) → ◌≡◌ {A = ℕ} (get_or (replicate n 0) i 0) 0
zeros zero i = refl
zeros (suc n) zero = refl
zeros (suc n) (suc i) = zeros n i

long_step : (x : GroupStep) (ws : List ℕ) → length (words_after x ws) ≡ length ws
long_step (Look i f) ws = refl
long_step (Raise f) ws = length-set ws active_at _
long_step (Lower f) ws = length-set ws active_at _
long_step (Enter g f) ws = length-set ws (group_at g) _
long_step (Grant g old m f) ws = length-set ws (group_at g) _
long_step (Use g old f) ws = length-set ws (group_at g) _
long_step (Withdraw g old f) ws = length-set ws (group_at g) _
long_step (Store v) ws = length-set ws index_at _

pub long : (h : Hist) → length (words_in h) ≡ groups_width
long [] = refl
long (x ∷ h) = long_step x.1 (words_in h) ∙ long h

-- the word of the group g after a step, as a function of its word before
abbrev word_after : ℕ → GroupStep → ℕ → ℕ
word_after g (Enter u f) w = cond (nat_eq u g) (w + one_waiting) w
word_after g (Grant u old m f) w = cond (nat_eq u g) (exchange_to old (moved_in old m) w) w
word_after g (Use u old f) w = cond (nat_eq u g) (exchange_to old (old - 1) w) w
word_after g (Withdraw u old f) w = cond (nat_eq u g) (exchange_to old (old - one_waiting) w) w
word_after g _ w = w

-- the word of the group g after a change of the group u
set_group : (ws : List ℕ) (u g : ℕ) (f : ℕ → ℕ) → length ws ≡ groups_width → u < 8
    → word (set ws (group_at u) (f (word ws u))) g
    ≡ cond (nat_eq u g) (f (word ws g)) (word ws g)
set_group ws u g f l s = dite (ℕ_discrete u g)
    (λ (e : u ≡ g). subst (λ (z : ℕ). word (set ws (group_at u) (f (word ws u))) z ≡ f (word ws z)) e
    (get_or-set_same ws (group_at u) (f (word ws u)) 0 (omega arith)) ∙ sym (yes_of u g (f (word ws g)) (word ws g) e))
    (λ (ne : u ≢ g). get_or-set_other ws (group_at u) (group_at g) (f (word ws u)) 0 (λ z. ne (omega arith))
    ∙ sym (no_of u g (f (word ws g)) (word ws g) ne))

pub word_step : (c g : ℕ) (x : GroupStep) (h : Hist) → g < 8 → MayStep c x h → word (words_after x (words_in h)) g
    ≡ word_after g x (word (words_in h) g)
word_step c g (Look i f) h s can = refl
word_step c g (Raise f) h s can = get_or-set_other (words_in h) active_at (group_at g) _ 0 (λ z. absurd (omega arith))
word_step c g (Lower f) h s can = get_or-set_other (words_in h) active_at (group_at g) _ 0 (λ z. absurd (omega arith))
word_step c g (Enter u f) h s can = set_group (words_in h) u g (λ w. w + one_waiting) (long h) can.1
word_step c g (Grant u old m f) h s can = set_group (words_in h) u g (λ w. exchange_to old (moved_in old m) w)
    (long h) can.1
word_step c g (Use u old f) h s can = set_group (words_in h) u g (λ w. exchange_to old (old - 1) w) (long h) can.1
word_step c g (Withdraw u old f) h s can = set_group (words_in h) u g (λ w. exchange_to old (old - one_waiting) w)
    (long h) can.1
word_step c g (Store v) h s can = get_or-set_other (words_in h) index_at (group_at g) _ 0 (λ z. absurd (omega arith))

-- ---- one waiter

-- a waiter has entered a group once more than it has left it if it is in it, and otherwise as often
abbrev pub Own : ℕ → List GroupStep → Type 0
Own g l = total (entered g) l ≡ total (used g) l + total (withdrawn g) l + here g (stand l)

pub at_hit : (g u f old n : ℕ) → f ≡ old → at_group g u f old n ≡ cond (nat_eq u g) n 0
at_hit g u f old n e = ap (λ (z : ℕ). cond (nat_eq u g) z 0) (yes_of f old n 0 e)

pub at_miss : (g u f old n : ℕ) → f ≢ old → at_group g u f old n ≡ 0
at_miss g u f old n ne = ap (λ (z : ℕ). cond (nat_eq u g) z 0) (no_of f old n 0 ne)
    ∙ dite (ℕ_discrete u g) (λ e. yes_of u g 0 0 e) (λ z. no_of u g 0 0 z)

-- a waiter that is in u is in g exactly if these are the same
pub here_in : (g u s : ℕ) → s ≡ suc u → here g s ≡ cond (nat_eq u g) 1 0
here_in g u s e = dite (ℕ_discrete u g)
    (λ (z : u ≡ g). yes_of s (suc g) 1 0 (e ∙ ap suc z) ∙ sym (yes_of u g 1 0 z))
    (λ (z : u ≢ g). no_of s (suc g) 1 0 (λ y. z (let q = sym e ∙ y in omega arith)) ∙ sym (no_of u g 1 0 z))

pub here_not : (g s : ℕ) → s ≡ 0 → here g s ≡ 0
here_not g s e = no_of s (suc g) 1 0 (λ z. absurd (omega arith))

leaves : (g u f old s : ℕ) → s ≡ suc u → at_group g u f old 1 + here g (cond (nat_eq f old) 0 s) ≡ here g s
leaves g u f old s e = dite (ℕ_discrete f old)
    (λ (z : f ≡ old). let a = at_hit g u f old 1 z in let b = here_in g u s e in
    let d = here_not g (cond (nat_eq f old) 0 s) (yes_of f old 0 s z) in omega arith)
    (λ (z : f ≢ old). let a = at_miss g u f old 1 z in let b = ap (here g) (no_of f old 0 s z) in omega arith)

pub own_step : (c g : ℕ) (x : GroupStep) (h : Hist) → MayStep c x h → Own g (own_steps c h) → Own g (x ∷ own_steps c h)
own_step c g (Look i f) h can o = omega arith
own_step c g (Raise f) h can o = omega arith
own_step c g (Lower f) h can o = omega arith
own_step c g (Enter u f) h can o = let a = here_in g u (suc u) refl in
    let b = here_not g (stand (own_steps c h)) can.3 in omega arith
own_step c g (Grant u old m f) h can o = omega arith
own_step c g (Use u old f) h can o = let a = leaves g u f old (stand (own_steps c h)) can.3 in omega arith
own_step c g (Withdraw u old f) h can o = let a = leaves g u f old (stand (own_steps c h)) can.3 in omega arith
own_step c g (Store v) h can o = omega arith

abbrev pub Up : List GroupStep → Type 0
Up l = (total ups l ≡ total downs l + raised l) × (raised l ≤ 1)

pub up_step : (c : ℕ) (x : GroupStep) (h : Hist) → MayStep c x h → Up (own_steps c h) → Up (x ∷ own_steps c h)
up_step c (Look i f) h can o = let a = o.0 in (omega arith, o.1)
up_step c (Raise f) h can o = let a = o.0 in let b = can.1 in (omega arith, omega arith)
up_step c (Lower f) h can o = let a = o.0 in let b = can.1 in (omega arith, omega arith)
up_step c (Enter u f) h can o = let a = o.0 in (omega arith, o.1)
up_step c (Grant u old m f) h can o = let a = o.0 in (omega arith, o.1)
up_step c (Use u old f) h can o = let a = o.0 in (omega arith, o.1)
up_step c (Withdraw u old f) h can o = let a = o.0 in (omega arith, o.1)
up_step c (Store v) h can o = let a = o.0 in (omega arith, o.1)

-- the word of the group g after a compare-exchange of the word of u
pub cas : (g u f old b a w : ℕ) (P : ℕ → ℕ → Type 0) → (u ≡ g → f ≡ w) → (u ≡ g → w ≡ old → P b a) → P w 0
    → P (cond (nat_eq u g) (exchange_to old b w) w) (at_group g u f old a)
cas g u f old b a w P found hit miss = dite (ℕ_discrete u g)
    (λ (e : u ≡ g). dite (ℕ_discrete f old)
    (λ (z : f ≡ old). let won : w ≡ old = sym (found e) ∙ z in let p = yes_of u g (exchange_to old b w) w e
    ∙ moves old b w won in let q = at_hit g u f old a z ∙ yes_of u g a 0 e in
    subst (λ (y : ℕ × ℕ). P y.0 y.1) (λ j. (sym p j, sym q j)) (hit e won))
    (λ (z : f ≢ old). let p = yes_of u g (exchange_to old b w) w e ∙ misses old b w (λ y. z (found e ∙ y)) in
    let q = at_miss g u f old a z in
    subst (λ (y : ℕ × ℕ). P y.0 y.1) (λ j. (sym p j, sym q j)) miss))
    (λ (ne : u ≢ g). let p = no_of u g (exchange_to old b w) w ne in let q = no_of u g (cond (nat_eq f old) a 0) 0 ne in
    subst (λ (y : ℕ × ℕ). P y.0 y.1) (λ j. (sym p j, sym q j)) miss)
