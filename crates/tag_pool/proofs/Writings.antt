-- Texts that are written piece by piece.
use Rattle.std.specs.Prelude.{◌%◌, ◌*◌, ◌++◌, ◌+◌, ◌/◌, ◌^◌, ◌∷◌, ◌≡◌}
use Rattle.std.proofs.Common.{List, None, Option, Some, [], ap, append-nil, append_assoc, arith, false, suc, sym, ℕ, ◌∙◌}
use Rattle.std.specs.Io.KnownBytes.{Appends}
use Rattle.std.specs.Fmt.{digit_glyph}
use Rattle.tag_pool.specs.Texts.{hex_digits}
use Rattle.std.proofs.lemmas.Nat.{shr-shr}

-- an unchanged writer has taken the empty text
pub appends_none : (a : Option (List ℕ)) → Appends a a []
appends_none None = tt
appends_none (Some xs) = sym (append-nil xs)

-- one piece, and then another
pub appends_then : (a b c : Option (List ℕ)) (x y : List ℕ) → Appends a b x → Appends b c y → Appends a c (x ++ y)
appends_then None b c x y one two = tt
appends_then (Some xs) None c x y one two = absurd one
appends_then (Some xs) (Some ys) None x y one two = absurd two
appends_then (Some xs) (Some ys) (Some zs) x y one two = two ∙ ap (λ (t : List ℕ). t ++ y) one ∙ append_assoc xs x y

-- six pieces, one after another
pub appends_six : (a b c d e f g : Option (List ℕ)) (u v w x y z : List ℕ) → Appends a b u → Appends b c v
    → Appends c d w → Appends d e x
    → Appends e f y → Appends f g z → Appends a g (u ++ v ++ w ++ x ++ y ++ z)
appends_six a b c d e f g u v w x y z one two three four five six =
    appends_then a f g (u ++ v ++ w ++ x ++ y) z
    (appends_then a e f (u ++ v ++ w ++ x) y (appends_then a d e (u ++ v ++ w) x
    (appends_then a c d (u ++ v) w (appends_then a b c u v one two) three) four) five) six

-- one more digit is the next place of the number
pub hex_digits-next : (n i k : ℕ) → hex_digits (i + 1) (n / 2 ^ (4 * k)) ≡ hex_digits i (n / 2 ^ (4 * (k + 1)))
    ++ digit_glyph false (n / 2 ^ (4 * k) % 16) ∷ []
hex_digits-next n i k =
    let e : i + 1 ≡ suc i = omega arith in
    let more : 4 * k + 4 ≡ 4 * (k + 1) = omega arith in
    let m : ℕ = n / 2 ^ (4 * k) in
    ap (λ (w : ℕ). hex_digits w m) e
    ∙ ap (λ (x : ℕ). hex_digits i x ++ digit_glyph false (m % 16) ∷ [])
    (shr-shr n (4 * k) 4 ∙ ap (λ (x : ℕ). n / 2 ^ x) more)
