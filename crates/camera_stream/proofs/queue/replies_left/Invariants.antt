use Rattle.std.proofs.Common.{◌≡◌, ◌*◌, ◌^◌, ◌≤◌, take}
use Rattle.std.specs.Prelude.{sum_by}
use Rattle.camera_stream.specs.Queue.{reply_left}
use Rattle.camera_stream.proofs.queue.replies_left.Given as goal

abbrev pub invariant-loop-reply : goal.invariant-loop-reply
invariant-loop-reply l = record {
  value : l.count ≡ sum_by reply_left (take l.reply-index l.replies);
  few : l.count ≤ 2 ^ 32 * l.reply-index;
}
