-- The table opens with zeros, so all tags are free; nothing was won or given back in it yet.
use Rattle.std.specs.Prelude.{◌≡◌}
use Rattle.tag_core.proofs.Uses.{all_fresh, length-replicate, List, opening, replicate, rules, Shown, subst, sym, ℕ}
use Rattle.tag_core.specs.Spacing.{table_width}
use Rattle.tag_core.proofs.Passing.{opens, zeros}
use Rattle.tag_core.proofs.opens.new_map.Goals as goal

pub new-requires : goal.new-requires
new-requires g c =
    let k = c.args.shape in let words : c.as_slice.result.now ≡ replicate (table_width k.layout) 0 = search rules in
    subst (λ (ws : List ℕ). Shown k (opening ws c.args.slots.items (all_fresh k))) (sym words)
    (opens g.row.R.Denot k (replicate (table_width k.layout) 0) c.args.slots.items c.requires.opening
    (length-replicate (table_width k.layout) 0) (zeros (table_width k.layout)) c.requires.slots)
