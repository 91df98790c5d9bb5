-- What is left begins one packet further on.
use Rattle.std.proofs.Common.{◌≡◌, ◌+◌, ◌<◌, Some, refl, lt-ltb}
use Rattle.camera_stream.specs.declared.span.Span.{Span}
use Rattle.camera_stream.specs.Queue.{rest_span}
use Rattle.camera_stream.proofs.queue.rest_span.Goals as goal

one_less : (span : Span) → span.next < span.last → Some (record span { next = span.next + 1 }) ≡ rest_span span
one_less span more = rw (lt-ltb span.next span.last more) refl

pub returns-then-span : goal.returns-then-span
returns-then-span c = one_less c.args.span c.if-span.true
