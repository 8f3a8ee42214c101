-- The hand that comes back is the one that was passed in, and so the member is the same.
use Rattle.tag_c.proofs.Owners.{same_member}
use Rattle.tag_c.proofs.member.Member.leave.Goals as goal

pub returns-in-Err : goal.returns-in-Err
returns-in-Err c = same_member c.args.self c.in-Err.hand c.in-Err.ensures _
