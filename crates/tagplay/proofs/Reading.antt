-- What the getters of a parse read, by the text that it has for an option.
use Rattle.std.proofs.Common.{◌≡◌, ℕ, ◌^◌, ◌<◌, Bool, true, false, List, Option, Some, None, Result, Ok, Err, codes, sym, ap, ◌∙◌, subst}
use Rattle.std.specs.Str.Parse.{ParsesUnsigned}
use Rattle.clap.specs.Words.{ReadsOne, Text, one_text, rows_of}
use Rattle.clap.specs.declared.parser.matches.Found.{Found}
use Rattle.clap.proofs.WalkLemmas.{one_text-rows}
use Rattle.tagplay.specs.Options.{Spells, IsOptional, IsFlag}

-- a text that spells a number is read as that number
reads : (E : Type 0) (G : List ℕ → Result ℕ E → Type 0) (bits : ℕ) (text : Text) (number : ℕ) (read : Option ℕ)
    → ((r : Result ℕ E) → G text r → ParsesUnsigned bits 10 text r)
    → ReadsOne G text read → Spells bits text number → read ≡ Some number
reads E G bits text number (Some n) parses h s = ap Some ((parses (Ok n) h).1 ∙ s.value)
reads E G bits text number None parses h s = absurd ((parses (Err h.0) h.1)
    (s.numeral, subst (λ (n : ℕ). n < 2 ^ bits) (sym s.value) s.fits))

pub optional : (E : Type 0) (G : List ℕ → Result ℕ E → Type 0) (bits : ℕ) (f : Found) (id : Text) (read : Option ℕ)
    → ((text : Text) (r : Result ℕ E) → G text r → ParsesUnsigned bits 10 text r)
    → (one_text f id ≡ None → read ≡ None)
    → ((text : Text) → one_text f id ≡ Some text → ReadsOne G text read)
    → IsOptional bits (rows_of f) id read
optional E G bits f id read parses none value = record {
  none = λ e. none (one_text-rows f id ∙ e);
  some = λ text number e s. reads E G bits text number read (parses text) (value text (one_text-rows f id ∙ e)) s;
}

pub flagged : (f : Found) (id : Text) (flag : Bool) → (one_text f id ≡ None → flag ≡ false)
    → (one_text f id ≡ Some (codes "true") → flag ≡ true)
    → (one_text f id ≡ Some (codes "false") → flag ≡ false)
    → IsFlag (rows_of f) id flag
flagged f id flag none set unset = record {
  none = λ e. none (one_text-rows f id ∙ e);
  set = λ e. set (one_text-rows f id ∙ e);
  unset = λ e. unset (one_text-rows f id ∙ e);
}
