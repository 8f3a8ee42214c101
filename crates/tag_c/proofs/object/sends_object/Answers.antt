-- `Object` is `Send`, which is what `must_send` asks of its type.
use denote.Param.Send.{sendable}
use Rattle.tag_c.proofs.Sent.{object_goes}
use Rattle.tag_c.proofs.object.sends_object.Goals as goal

pub must_send-requires-send-T : goal.must_send-requires-send-T
must_send-requires-send-T c κs = search (object_goes, sendable) depth 40
