use Rattle.std.proofs.Common.{refl, ap, sym, ◌∙◌, Ok, Err}
use Rattle.std.specs.Option.{option_map}
use Rattle.std.specs.String.{string_bytes}
use Rattle.std.proofs.lemmas.Option.{slice_get-map, slice_get_read, slice_get_past}
use Rattle.camera_words.specs.SimulateWords.{none_of}
use Rattle.camera_words.proofs.Further.{simulated}
use Rattle.camera_words.proofs.simulate_words.read_simulate.Goals as goal

pub returns-in-Some : goal.returns-in-Some
returns-in-Some c =
    let there = c.in-Some.ensures.lookup.3 in
    simulated (λ word. string_bytes word) c.args.words.now c.in_ok-address.address c.in_ok-first.first c.in_ok-second.second c.in_ok-third.third c.in_ok-fourth.fourth (Err 6)
    c.in_ok-address.ensures c.in_ok-first.ensures c.in_ok-second.ensures c.in_ok-third.ensures c.in_ok-fourth.ensures
    (sym (ap (none_of 6) (slice_get-map (λ word. string_bytes word) c.args.words.now 6 ∙ ap (option_map (λ word. string_bytes word)) (slice_get_read c.args.words.now _ 6 c.in-Some.field-0.now refl there.0 (there.1 _)))))

pub returns-in-None : goal.returns-in-None
returns-in-None c =
    ap Ok c.simulation.ensures
    ∙ simulated (λ word. string_bytes word) c.args.words.now c.in_ok-address.address c.in_ok-first.first c.in_ok-second.second c.in_ok-third.third c.in_ok-fourth.fourth (Ok tt)
    c.in_ok-address.ensures c.in_ok-first.ensures c.in_ok-second.ensures c.in_ok-third.ensures c.in_ok-fourth.ensures
    (sym (ap (none_of 6) (slice_get-map (λ word. string_bytes word) c.args.words.now 6 ∙ ap (option_map (λ word. string_bytes word)) (slice_get_past c.args.words.now 6 c.in-None.ensures.lookup.3))))
