-- Taking a slot empties its entry, and adds it to the end of the list.
use Rattle.std.specs.Prelude.{◌++◌, ◌+◌, ◌<◌, ◌∷◌, ◌≡◌, ◌≢◌}
use Rattle.tag_core.proofs.Uses.{[], ap, arith, Bool, false, get_elem?, get_or-set_other, List, refl, rules, set, slice_index_or, slots_filled, slots_items, slots_len, some, some-injective, some-ne-none, suc, sym, take, zero, ℕ, ◌∙◌}
use Rattle.tag_core.proofs.gather.take_out.Goals as goal

-- one more is taken
next : {A : Type 0} (xs : List A) (i : ℕ) (x : A) → get_elem? xs i ≡ some x → take (i + 1) xs ≡ take i xs ++ x ∷ []
next [] i x e = absurd (some-ne-none x (sym e))
next (y ∷ xs) zero x e = ap (λ (z : _). z ∷ []) (some-injective y x e)
next (y ∷ xs) (suc i) x e =
    let more : suc i + 1 ≡ suc (i + 1) = omega arith in ap (λ (z : ℕ). take z (y ∷ xs)) more
    ∙ ap (λ (z : List _). y ∷ z) (next xs i x e)

-- an entry of flags that is put out
put_out : (fs : List Bool) (i : ℕ) → slice_index_or (set fs i false) i false ≡ false
put_out [] i = refl
put_out (b ∷ fs) zero = refl
put_out (b ∷ fs) (suc i) = put_out fs i

pub loop-i-preserved : goal.loop-i-preserved
loop-i-preserved g c =
    let inv = c.loop-i.invariant in let others = c.take.ensures.others in let i : ℕ = c.loop-i.i in
    let fs : List Bool = slots_filled c.loop-i.ended.slots in let pushed = c.push_reserved.ensures in
    let off : (n : ℕ) → n ≢ i
    → slice_index_or (slots_filled c.take.new.self.slots) n false ≡ slice_index_or fs n false =
    (λ n ne. ap (λ (z : List Bool). slice_index_or z n false) others.1 ∙ get_or-set_other fs i n false false ne) in
    record {
      empty = λ n l. grind (arith, off n, put_out fs i, inv.empty n, others.1);
      full = λ n le l. grind (arith, off n, inv.full n, others.2);
      near = (let low : c.loop-i.i < slots_len c.loop-i.ended.slots = search rules in
          let same = others.2 in omega arith);
      items = others.0 ∙ inv.items;
      len = others.2 ∙ inv.len;
      capacity = pushed.capacity ∙ inv.capacity;
      count = pushed.len ∙ ap (λ (z : ℕ). z + 1) inv.count;
      out = pushed.items ∙ ap (λ (z : List g.row.R.Denot). z ++ c.take.result ∷ []) inv.out
          ∙ sym (next (slots_items c.args.ended.slots) i c.take.result
          (ap (λ (z : List g.row.R.Denot). get_elem? z i) (sym inv.items) ∙ c.take.ensures.value));
    }
