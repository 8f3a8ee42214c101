-- The limits sum to the shallow depth, and none is above its word's depth.
use Rattle.std.proofs.Common.{ℕ, ◌*◌, ◌%◌, ◌^◌, arith}
use Rattle.tag_layout.proofs.PlaceFacts.{word-start}
use Rattle.tag_layout.proofs.ShareFacts.{share-more, shallow_limits-sum}
use Rattle.tag_layout.proofs.layout.Layout.shallow_limit.Goals as goal

pub returns-clause-shared : goal.returns-clause-shared
returns-clause-shared c = shallow_limits-sum c.args.self c.args.shallow

pub returns-clause-within : goal.returns-clause-within
returns-clause-within c =
    let start = word-start c.args.self c.args.word c.requires in
    let first : ℕ = c.args.word * 2 ^ c.shift.result % 4294967296 in
    let more = share-more c.args.self c.min-shallow.result first c.word_depth.result (omega arith) in omega arith
