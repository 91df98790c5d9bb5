use Rattle.std.proofs.Common.{refl}
use Rattle.std.specs.String.{string_bytes}
use Rattle.std.proofs.lemmas.Option.{slice_get_read, slice_get_past}
use Rattle.std.proofs.lemmas.Result.{err_from_is_err_and}
use Rattle.camera_words.proofs.Further.{one_further, none_further}
use Rattle.camera_words.proofs.words.read_description.Goals as goal

pub returns-in_err-address : goal.returns-in_err-address
returns-in_err-address c =
    let p = err_from_is_err_and c.from_residual.result c.from_residual.ensures.1 in
    rw (p.1, p.2, ← c.in_err-address.ensures)

pub returns-in-Some : goal.returns-in-Some
returns-in-Some c =
    let there = c.in-Some.ensures.lookup.3 in
    one_further (λ word. string_bytes word) c.args.words.now 2 c.in_ok-address.address c.in-Some.field-0.now _ (slice_get_read c.args.words.now _ 2 c.in-Some.field-0.now refl there.0 (there.1 _)) c.in_ok-address.ensures

pub returns-in-None : goal.returns-in-None
returns-in-None c =
    none_further (λ word. string_bytes word) c.args.words.now 2 c.in_ok-address.address _ (slice_get_past c.args.words.now 2 c.in-None.ensures.lookup.3) c.in_ok-address.ensures
