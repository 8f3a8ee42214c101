-- What a handle owns: its object with its memory, or nothing.
use Rattle.std.specs.Prelude.{ℕ, Option, Some, None}
use base.Fml.{Fml, ftrue}
use denote.RawPtr.{Ptr}
use Rattle.std_alloc.specs.Box.Ownership.{box_owns}
use Rattle.std_heap.specs.contracts.GlobalAllocator.TheImpl.{ghosts}
use Rattle.std_heap.specs.declared.Global.{Global}
use Rattle.tag_c.specs.declared.object.Object.{Object}
use Rattle.tag_c.specs.contracts.object.Object.{the_row}

-- the pointer owns the object, if there is one
abbrev pub held : Global → Ptr → Option Object → Fml
held a p None = ftrue
held a p (Some x) = box_owns (ghosts.dealloc_token a) the_row p x

-- 1 if there is an object, 0 if not
abbrev pub flag_of : Option Object → ℕ
flag_of None = 0
flag_of (Some x) = 1
