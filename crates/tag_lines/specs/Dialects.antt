-- What a script may contain in each dialect.
use Rattle.std.specs.Prelude.{Option, Some, None}
use Rattle.tag_lines.specs.declared.dialect.Dialect.{Dialect}
use Rattle.tag_lines.specs.declared.dialect.Dialect.TheVariants.{Plain, Shared}

-- the item in a script over a shared map, and none in a plain one
abbrev pub only_shared : {A : Type 0} → Dialect → A → Option A
only_shared Plain item = None
only_shared Shared item = Some item
