-- What an `ErasedPointer` and a handle end as, once a `&mut` to their object has ended.
use Rattle.std.specs.Prelude.{Option, Some}
use Rattle.std.specs.Borrow.{Lends, LendsIf, MutBor, Fml}
use mathlib.Core.Path.{refl}
use Rattle.tag_c.specs.declared.handle.Handle.{Handle}
use Rattle.tag_c.specs.declared.erased.ErasedPointer.{ErasedPointer}
use Rattle.tag_c.specs.declared.object.Object.{Object}
use Rattle.tag_c.specs.contracts.handle.Handle.{the_row as handle_row}
use Rattle.tag_c.specs.contracts.erased.ErasedPointer.{the_row as erased_row}
use Rattle.tag_c.specs.contracts.object.Object.{the_row as object_row}

-- the same pointer with this object
abbrev pub with_object : ErasedPointer → Object → ErasedPointer
with_object erased object = record erased { value = Some object }

-- the `ErasedPointer` ends with the last object behind the reference
abbrev pub LendsObject : MutBor ErasedPointer → MutBor Object → Fml
LendsObject erased object = Lends erased_row object_row erased object (with_object erased.now)

-- a full handle with the same pointer and this object
abbrev pub full_handle : Handle → Object → Handle
full_handle handle object = record { full = 1; object = with_object handle.object object; held = refl }

-- the handle ends with the last object behind the reference, and as it was if there is none
abbrev pub LendsIfFull : MutBor Handle → Option (MutBor Object) → Fml
LendsIfFull handle object = LendsIf handle_row object_row handle object (full_handle handle.now) handle.now
