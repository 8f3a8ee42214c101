-- The tag's bit is one that its word uses.
use Rattle.std.proofs.Common.{◌*◌, ◌%◌, ◌^◌, ◌<◌, subst}
use Rattle.tag_layout.specs.Layout.{Layout, words, IsWithin}
use Rattle.tag_bench.proofs.Bits.{bit-within}
use Rattle.tag_bench.proofs.claims.claim.Goals as goal

pub claim-requires-clause-within : goal.claim-requires-clause-within
claim-requires-clause-within c =
    subst (λ (l : Layout). (c.word_of.result < words l)
    × IsWithin l c.word_of.result (1 * 2 ^ c.place_of.result % 2 ^ 64)) c.layout-layout.ensures (
      c.word_of.ensures.within,
      bit-within c.layout-layout.result c.word_of.result c.args.tag c.place_of.result
          c.word_of.ensures.value c.place_of.ensures.within c.place_of.ensures.bound,
    )
