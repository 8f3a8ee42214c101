-- The first line of a text, and the first word of a line.
use Rattle.std.proofs.Common.{◌≡◌, ℕ, ◌<◌, true, false, List, [], ◌∷◌, ◌++◌, ◌==◌, cond, drop, get_or, length, refl, ap, sym, ◌∙◌, subst, arith}
use Rattle.std.specs.Prelude.{Option, Some, None, IfSome, IsNone, MatchOption}
use Rattle.std.specs.List.{AllByRecursion, onto_first, slice_split}
use Rattle.std.proofs.lemmas.List.Elements.{recursion_from_All}
use Rattle.std.proofs.lemmas.List.Splits.{slice_split_none, slice_split_at}
use Rattle.tag_lines.specs.Lines.{LacksByte, lines_of, parts_of}

line_cut : (line rest : List ℕ) → AllByRecursion (λ b. (b == 10) ≡ false) line
    → lines_of (line ++ 10 ∷ rest) ≡ line ∷ lines_of rest
line_cut [] rest h = refl
line_cut (b ∷ bytes) rest (not_feed, others) =
    ap (λ test. cond test ([] ∷ lines_of (bytes ++ 10 ∷ rest)) (onto_first b (lines_of (bytes ++ 10 ∷ rest)))) not_feed
    ∙ ap (onto_first b) (line_cut bytes rest others)

line_alone : (b : ℕ) (bytes : List ℕ) → AllByRecursion (λ c. (c == 10) ≡ false) (b ∷ bytes)
    → lines_of (b ∷ bytes) ≡ (b ∷ bytes) ∷ []
line_alone b [] (not_feed, others) = ap (λ test. cond test ([] ∷ []) (onto_first b [])) not_feed
line_alone b (c ∷ bytes) (not_feed, others) =
    ap (λ test. cond test ([] ∷ lines_of (c ∷ bytes)) (onto_first b (lines_of (c ∷ bytes)))) not_feed
    ∙ ap (onto_first b) (line_alone c bytes others)

-- a text begins with the part before its first line feed
pub lines_of-cut : (text line rest : List ℕ) → LacksByte 10 line → text ≡ line ++ 10 ∷ rest
    → lines_of text ≡ line ∷ lines_of rest
lines_of-cut text line rest lacks parts = ap lines_of parts ∙ line_cut line rest (recursion_from_All _ line lacks)

-- a text without a line feed is one line
pub lines_of-alone : (text : List ℕ) → 0 < length text → LacksByte 10 text → lines_of text ≡ text ∷ []
lines_of-alone [] some lacks = absurd (omega arith)
lines_of-alone (b ∷ bytes) some lacks = line_alone b bytes (recursion_from_All _ (b ∷ bytes) lacks)

-- the words that follow a word and a blank
pub words_cut : (line word rest : List ℕ) → LacksByte 32 word → line ≡ word ++ 32 ∷ rest
    → parts_of line ≡ word ∷ parts_of rest
words_cut line word rest lacks parts = ap parts_of parts ∙ slice_split_at (λ b. b == 32) word 32 rest lacks refl

-- a line without a blank is one word
pub words_alone : (line : List ℕ) → LacksByte 32 line → parts_of line ≡ line ∷ []
words_alone line lacks = slice_split_none (λ b. b == 32) line lacks

-- what a cut says where the byte isn't there
pub is_whole : {A : Type 0} (o : Option A) (view : A → List ℕ) (text part : List ℕ) (at : ℕ)
    → MatchOption o (text ≡ part) (λ rest. text ≡ part ++ at ∷ view rest) → o ≡ None → text ≡ part
is_whole {A} o view text part at cut e =
    let P : Option A → Type 0 = λ x. MatchOption x (text ≡ part) (λ rest. text ≡ part ++ at ∷ view rest) in
    subst P e cut

-- what a cut says where the byte is there
pub has_rest : {A : Type 0} (o : Option A) (view : A → List ℕ) (text part : List ℕ) (at : ℕ) (rest : A)
    → MatchOption o (text ≡ part) (λ rest. text ≡ part ++ at ∷ view rest) → o ≡ Some rest
    → text ≡ part ++ at ∷ view rest
has_rest {A} o view text part at rest cut e =
    let P : Option A → Type 0 = λ x. MatchOption x (text ≡ part) (λ rest. text ≡ part ++ at ∷ view rest) in
    subst P e cut

-- the last line, where no line feed ends it
pub last_line : (text line : List ℕ) → 0 < length text → LacksByte 10 line → text ≡ line
    → lines_of text ≡ line ∷ lines_of []
last_line text line some lacks whole =
    let P : List ℕ → Type 0 = λ t. LacksByte 10 t in
    lines_of-alone text some (subst P (sym whole) lacks) ∙ ap (λ t. t ∷ []) whole

onto_some : (b : ℕ) (parts : List (List ℕ))
    → onto_first b parts ≡ get_or (onto_first b parts) 0 [] ∷ drop 1 (onto_first b parts)
onto_some b [] = refl
onto_some b (part ∷ parts) = refl

-- a line has a first part
pub first_part : (line : List ℕ) → parts_of line ≡ get_or (parts_of line) 0 [] ∷ drop 1 (parts_of line)
first_part [] = refl
first_part (b ∷ bytes) =
    let others = slice_split (λ c. c == 32) bytes in
    elim (b == 32) as (λ test. cond test ([] ∷ others) (onto_first b others)
    ≡ get_or (cond test ([] ∷ others) (onto_first b others)) 0 [] ∷ drop 1 (cond test ([] ∷ others) (onto_first b others)))
    [ true ↦ refl | false ↦ onto_some b others ]

-- what a cut at the first blank says of the parts of a line
pub record IsCutWord {A : Type 0} (o : Option A) (view : A → List ℕ) (line word : List ℕ) : Type 0 where
  pub first : parts_of line ≡ word ∷ drop 1 (parts_of line)
  pub last : IsNone o → parts_of line ≡ word ∷ []
  pub more : IfSome o (λ rest. parts_of line ≡ word ∷ parts_of (view rest))
  pub text : IfSome o (λ rest. line ≡ word ++ 32 ∷ view rest)

pub word_cut : {A : Type 0} (o : Option A) (view : A → List ℕ) (line word : List ℕ) → LacksByte 32 word
    → MatchOption o (line ≡ word) (λ rest. line ≡ word ++ 32 ∷ view rest) → IsCutWord o view line word
word_cut None view line word lacks whole =
    let alone = ap parts_of whole ∙ words_alone word lacks in record {
      first = alone ∙ sym (ap (λ parts. word ∷ drop 1 parts) alone);
      last = λ none. alone;
      more = tt;
      text = tt;
    }
word_cut (Some rest) view line word lacks whole =
    let parts = words_cut line word (view rest) lacks whole in record {
      first = parts ∙ sym (ap (λ parts. word ∷ drop 1 parts) parts);
      last = λ none. absurd (let no : true ≡ false = none in cc);
      more = parts;
      text = whole;
    }
