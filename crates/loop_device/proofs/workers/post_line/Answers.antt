-- The hand holds the tag that it got, which is an ordinary one, also after it wrote the slot, so the post can't be refused.
use Rattle.std.proofs.Common.{refl, ⊎_elim}
use Rattle.loop_device.proofs.workers.post_line.Goals as goal

pub write_held-former-requires-clause-held : goal.write_held-former-requires-clause-held
write_held-former-requires-clause-held g c = c.in_ok-tag.ensures.gets.won.more.joined c.in_ok-tag.tag refl

pub unreachable-requires : goal.unreachable-requires
unreachable-requires g c =
    let tag = c.in_ok-tag.tag in let won = c.in_ok-tag.ensures.gets.won in
    let held = c.write_held-former.ensures.writes.kept tag (won.more.joined tag refl) in
    ⊎_elim (λ none. none.0 (won.tag tag refl).0)
    (λ rest. ⊎_elim (λ free. free.0 held) (λ last. last.1) rest.1) c.in_default.ensures.does.refusals.first
