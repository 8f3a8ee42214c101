-- The commands and the callers that lines name are known.
use Rattle.std.proofs.Common.{◌≡◌, ℕ, ◌^◌, Bool, true, false, List, [], ◌∷◌, cond, nat_lt, refl, Option, Some, None, Result, Ok, Err}
use Rattle.std.proofs.lemmas.Bool.{ltb-true}
use Rattle.std.specs.List.{All}
use Rattle.std.specs.Prelude.{IfSome, IfOk, codes}
use Rattle.std.specs.Str.{bytes_eq}
use Rattle.tag_lines.specs.declared.dialect.Dialect.{Dialect}
use Rattle.tag_lines.specs.declared.dialect.Dialect.TheVariants.{Plain, Shared}
use Rattle.tag_lines.specs.declared.fault.LineFault.{LineFault}
use Rattle.tag_lines.specs.declared.order.Command.{Command}
use Rattle.tag_lines.specs.declared.order.Command.TheVariants as commands
use Rattle.tag_lines.specs.declared.order.Numbered.{Numbered}
use Rattle.tag_lines.specs.declared.order.Numbered.TheVariants as kinds
use Rattle.tag_lines.specs.declared.order.Order.{Order}
use Rattle.tag_lines.specs.declared.tag_list.TheConstants.{FIRST}
use Rattle.tag_lines.specs.Dialects.{only_shared}
use Rattle.tag_lines.specs.Lines.{number_below, numbers_below}
use Rattle.tag_lines.specs.Readings.{AreReadings}
use Rattle.tag_lines.specs.ScriptLines.{lone_of, numbered_of, worded_of, numbered_command, ordered}
use Rattle.tag_lines.specs.ScriptLines.{lone_line, numbered_line, listed_line, word_line, one_word_line, order_of}
use Rattle.tag_lines.specs.ScriptLines.{IsPlain, IsCommandOf, IsOrderOf}
use Rattle.tag_lines.proofs.ReadingFacts.{all_said}

-- what holds of two holds of a choice between them
either : {A : Type 0} (P : A → Type 0) (b : Bool) (x y : A) → P x → P y → P (cond b x y)
either P true x y h k = h
either P false x y h k = k

plain_command : (dialect : Dialect) (command : Command) → IsPlain command → IsCommandOf dialect command
plain_command Plain command h = h
plain_command Shared command h = tt

shared_command : (dialect : Dialect) (command : Command) → IfSome (only_shared dialect command) (IsCommandOf dialect)
shared_command Plain command = tt
shared_command Shared command = tt

-- the kind makes a command of the dialect with each number
abbrev IsKindOf : Dialect → Numbered → Type 0
IsKindOf dialect kind = (n : ℕ) → IsCommandOf dialect (numbered_command kind n)

plain_kind : (dialect : Dialect) (kind : Numbered) → ((n : ℕ) → IsPlain (numbered_command kind n))
    → IsKindOf dialect kind
plain_kind dialect kind h n = plain_command dialect (numbered_command kind n) (h n)

shared_kind : (dialect : Dialect) (kind : Numbered) → IfSome (only_shared dialect kind) (IsKindOf dialect)
shared_kind Plain kind = tt
shared_kind Shared kind = λ n. tt

module _ (dialect : Dialect) (callers : ℕ) where
  lone_known : (name : List ℕ) → IfSome (lone_of dialect name) (IsCommandOf dialect)
  lone_known name =
      let K : Option Command → Type 0 = λ o. IfSome o (IsCommandOf dialect) in
      either K (bytes_eq name (codes "get")) _ _ (plain_command dialect commands.Get tt)
      (either K (bytes_eq name (codes "show")) _ _ (plain_command dialect commands.Show tt)
      (either K (bytes_eq name (codes "busy")) _ _ (plain_command dialect commands.Busy tt)
      (either K (bytes_eq name (codes "dump")) _ _ (plain_command dialect commands.Dump tt)
      (either K (bytes_eq name (codes "get-reserved")) _ _ (shared_command dialect commands.GetReserved)
      (either K (bytes_eq name (codes "wait")) _ _ (shared_command dialect commands.Wait)
      (either K (bytes_eq name (codes "leave")) _ _ (shared_command dialect commands.Leave)
      (either K (bytes_eq name (codes "wakes")) _ _ (shared_command dialect commands.Wakes) tt)))))))

  numbered_known : (name : List ℕ) → IfSome (numbered_of dialect name) (IsKindOf dialect)
  numbered_known name =
      let K : Option Numbered → Type 0 = λ o. IfSome o (IsKindOf dialect) in
      either K (bytes_eq name (codes "shallow")) _ _ (plain_kind dialect kinds.Shallow (λ n. tt))
      (either K (bytes_eq name (codes "batch")) _ _ (plain_kind dialect kinds.Batch (λ n. tt))
      (either K (bytes_eq name (codes "clear")) _ _ (plain_kind dialect kinds.Clear (λ n. tt))
      (either K (bytes_eq name (codes "post")) _ _ (shared_kind dialect kinds.Post)
      (either K (bytes_eq name (codes "take")) _ _ (shared_kind dialect kinds.Take)
      (either K (bytes_eq name (codes "resize")) _ _ (shared_kind dialect kinds.Resize) tt)))))

  worded_known : (name word : List ℕ) → IfSome (worded_of dialect name word) (IsCommandOf dialect)
  worded_known name word =
      let K : Option Command → Type 0 = λ o. IfSome o (IsCommandOf dialect) in
      either K (bytes_eq word (codes "reserved")) _ _
      (either K (bytes_eq name (codes "show")) _ _ (shared_command dialect commands.ShowReserved)
      (either K (bytes_eq name (codes "dump")) _ _ (shared_command dialect commands.DumpReserved) tt)) tt

  ordered_known : (caller : ℕ) (command : Command) → IsCommandOf dialect command
      → (less : Bool) → nat_lt caller callers ≡ less → IfOk (ordered callers caller command) (IsOrderOf dialect callers)
  ordered_known caller command h true e = rw e (record { command = h; caller = ltb-true caller callers e })
  ordered_known caller command h false e = rw e tt

  lone_line_known : (command : Option Command) (caller : Option ℕ) → IfSome command (IsCommandOf dialect)
      → IfOk (lone_line callers command caller) (IsOrderOf dialect callers)
  lone_line_known None caller h = tt
  lone_line_known (Some command) None h = tt
  lone_line_known (Some command) (Some caller) h = ordered_known caller command h (nat_lt caller callers) refl

  numbered_line_known : (kind : Option Numbered) (caller number : Option ℕ) → IfSome kind (IsKindOf dialect)
      → IfOk (numbered_line callers kind caller number) (IsOrderOf dialect callers)
  numbered_line_known None caller number h = tt
  numbered_line_known (Some kind) None number h = tt
  numbered_line_known (Some kind) (Some caller) None h = tt
  numbered_line_known (Some kind) (Some caller) (Some number) h =
      ordered_known caller (numbered_command kind number) (h number) (nat_lt caller callers) refl

  listed_line_known : (caller : Option ℕ) (tags : Result (List ℕ) ℕ)
      → IfOk (listed_line callers caller tags) (IsOrderOf dialect callers)
  listed_line_known None tags = tt
  listed_line_known (Some caller) (Err word) = tt
  listed_line_known (Some caller) (Ok tags) =
      ordered_known caller (commands.ClearBatch tags) (plain_command dialect (commands.ClearBatch tags) tt)
      (nat_lt caller callers) refl

  word_line_known : (command : Option Command) (kind : Option Numbered) (caller number : Option ℕ)
      → IfSome command (IsCommandOf dialect)
      → IfSome kind (IsKindOf dialect) → IfOk (word_line callers command kind caller number) (IsOrderOf dialect callers)
  word_line_known (Some command) kind caller number h k = lone_line_known (Some command) caller h
  word_line_known None kind caller number h k = numbered_line_known kind caller number k

  one_word_known : (caller name word : List ℕ) (more : List (List ℕ))
      → IfOk (one_word_line dialect callers caller name word more) (IsOrderOf dialect callers)
  one_word_known caller name word [] =
      word_line_known (worded_of dialect name word) (numbered_of dialect name) (number_below (2 ^ 32) caller)
      (number_below (2 ^ 32) word)
      (worded_known name word) (numbered_known name)
  one_word_known caller name word (next ∷ more) = tt

  -- an order that a line spells has a command of the dialect and a caller
  pub order_known : (words : List (List ℕ)) → IfOk (order_of dialect callers words) (IsOrderOf dialect callers)
  order_known [] = tt
  order_known (caller ∷ []) = tt
  order_known (caller ∷ name ∷ []) = lone_line_known (lone_of dialect name) (number_below (2 ^ 32) caller)
      (lone_known name)
  order_known (caller ∷ name ∷ word ∷ more) =
      either (λ (r : Result Order LineFault). IfOk r (IsOrderOf dialect callers))
      (bytes_eq name (codes "clear-batch")) _ _
      (listed_line_known (number_below (2 ^ 32) caller) (numbers_below (2 ^ 32) FIRST (word ∷ more)))
      (one_word_known caller name word more)

  -- so has each order of a script
  pub orders_known : (text : List ℕ) (orders : List Order) → AreReadings (order_of dialect callers) text orders
      → All (IsOrderOf dialect callers) orders
  orders_known text orders said =
      all_said (IsOrderOf dialect callers) (order_of dialect callers) order_known text orders said
