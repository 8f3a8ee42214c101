-- The flag of a handle says whether it has an object.
use Rattle.std.specs.Prelude.{◌≡◌, ◌≢◌, ◌⊎◌}
use Rattle.tag_c.proofs.Uses.{arith, ErasedPointer, flag_of, GName, Handle, inl, IsSome, None, Object, Option, refl, Some, subst, sym, ℕ, ℕ_set}

-- the flag 1 means that there is an object
pub some_of : (value : Option Object) → flag_of value ≡ 1 → (object : Object) × (value ≡ Some object)
some_of None e = absurd (omega arith)
some_of (Some object) e = (object, refl)

-- a flag other than 0 means that there is an object
pub is_some_of : (value : Option Object) → flag_of value ≢ 0 → IsSome value
is_some_of None h = absurd (h refl)
is_some_of (Some object) h = refl

-- the flag 0 means that there is none
pub not_some_of : (value : Option Object) → flag_of value ≡ 0 → ¬ (IsSome value)
not_some_of None e is = cc
not_some_of (Some object) e is = omega arith

-- a handle whose flag is 0 is empty
pub empty_of : (value : Option Object) → flag_of value ≡ 0 → value ≡ None
empty_of None e = refl
empty_of (Some object) e = absurd (omega arith)

-- a handle with this flag and this object
abbrev flagged : (object : ErasedPointer) (full : ℕ) → full ≡ flag_of object.value → Handle
flagged object full held = record { full = full; object = object; held = held }

-- the same object behind the same flag is the same handle
same_handle : (object : ErasedPointer) (full other : ℕ) → full ≡ other → (held : full ≡ flag_of object.value)
    (kept : other ≡ flag_of object.value) → flagged object full held ≡ flagged object other kept
same_handle object full other e = subst (λ (n : ℕ). (held : n ≡ flag_of object.value)
    (kept : other ≡ flag_of object.value) → flagged object n held ≡ flagged object other kept) (sym e)
    (λ held kept. λ j. flagged object other (ℕ_set _ _ held kept j))

-- so a handle whose flag is 1 ends with its last object as a full handle
pub ends_full : (name : GName) (end : Object → ErasedPointer) (full : ℕ) → full ≡ 1
    → (held : (x : Object) → full ≡ flag_of (end x).value) (kept : (x : Object) → 1 ≡ flag_of (end x).value)
    → ◌≡◌ {A = (GName × (Object → Handle)) ⊎ Handle} (inl (name, λ x. flagged (end x) full (held x)))
    (inl (name, λ x. flagged (end x) 1 (kept x)))
ends_full name end full e held kept = λ j. inl (name, λ x. same_handle (end x) full 1 e (held x) (kept x) j)
