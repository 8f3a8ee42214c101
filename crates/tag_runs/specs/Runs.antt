-- What a run writes: an output that its input specifies.
use Rattle.std.specs.Prelude.{◌≡◌, ℕ, ◌≤◌, List, length, Option, IfSome}
use Rattle.std.specs.Io.KnownBytes.{Appends}
use Rattle.tag_lines.specs.declared.lines.TheConstants.{MAX_INPUT}
use Rattle.tag_script.specs.declared.ending.Ending.{Ending}

-- the text is an output for some bytes within the size limit, and these are the reader's bytes if those are known
pub record IsOutput (owes : List ℕ → List ℕ → Ending → Type 0) (input : Option (List ℕ)) (text : List ℕ)
    (ending : Ending)
    : Type 0 where
  pub bytes : List ℕ
  pub short : length bytes ≤ MAX_INPUT
  pub read : IfSome input (λ known. bytes ≡ known)
  pub owed : owes bytes text ending

-- what was appended to the writer's contents is such a text
pub record WritesOutput (owes : List ℕ → List ℕ → Ending → Type 0) (input before after : Option (List ℕ)) (ending : Ending)
    : Type 0 where
  pub text : List ℕ
  pub output : IsOutput owes input text ending
  pub written : Appends before after text

-- there is such a text, with some ending
pub record HasOutput (owes : List ℕ → List ℕ → Ending → Type 0) (input : Option (List ℕ)) : Type 0 where
  pub text : List ℕ
  pub ending : Ending
  pub output : IsOutput owes input text ending
