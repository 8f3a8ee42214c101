-- The handle that is joined stood last, and its thread kept its promise.
use Rattle.std.proofs.Common.{arith}
use Rattle.loop_device.proofs.Joining.{joined_none, joined_more}
use Rattle.loop_device.proofs.threads.join_down_to.Goals as goal

pub loop-handles-init : goal.loop-handles-init
loop-handles-init g c = record {
  joined = joined_none c.args.handles.now.items c.args.back.now.items c.args.faults.now;
  room = c.requires;
}

pub loop-handles-preserved : goal.loop-handles-preserved
loop-handles-preserved g c =
    let was = c.loop-handles.invariant in let fewer = c.in-Some.ensures.cases in record {
      joined = joined_more c.args.handles.now.items c.loop-handles.handles.items c.pop.new.self.items c.in-Some.handle
          c.join-worked.result c.args.back.now.items c.loop-handles.back.items c.push_reserved.new.self.items
          c.args.faults.now c.loop-handles.faults c.add.new.self was.joined c.in-Some.ensures.items
          c.join-worked.ensures c.push_reserved.ensures.items c.add.ensures;
      room = omega arith;
    }
