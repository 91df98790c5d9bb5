use Rattle.std.proofs.Common.{◌≡◌, ℕ, ◌∷◌, [], ◌++◌, ◌∙◌, subst}
use Rattle.std.specs.Prelude.{Some}
use Rattle.acquisition_machine.specs.declared.need.Need.TheVariants.{Buffer, Done, Ignored}
use Rattle.acquisition_machine.specs.Machine.{datagram}
use Rattle.capture_script.specs.Standing.{Plays, found}
use Rattle.capture_script.proofs.Turns.{plays_one, plays_cons, answered, plays_by, is_asked}
use Rattle.capture_script.proofs.turning.tell.Goals as goal

pub tell_again-requires-clause-config : goal.tell_again-requires-clause-config
tell_again-requires-clause-config c = c.datagram-need.ensures.plays.config ∙ c.requires.config

pub tell_again-requires-clause-asked : goal.tell_again-requires-clause-asked
tell_again-requires-clause-asked c = is_asked c.datagram-need.new.self c.datagram-need.result.0 c.in-Buffer.field-0 c.datagram-need.ensures.asked c.in-Buffer.is

pub returns-in-Buffer-clause-plays : goal.returns-in-Buffer-clause-plays
returns-in-Buffer-clause-plays c q took =
    let heard = c.datagram-need in
    let d = datagram c.args.bytes.now in
    let size : heard.new.self.size ≡ c.args.player.now.size = heard.ensures.plays.size in
    plays_by c.args.p c.args.player.now.size q c.args.bytes.now _ (Some (Buffer c.in-Buffer.field-0)) c.tell_again.new.player _
    (answered c.args.p c.args.player.now q c.args.bytes.now heard.result.0 (Buffer c.in-Buffer.field-0) c.requires.config (heard.ensures.need q took) c.in-Buffer.is)
    (plays_cons c.args.p c.args.player.now heard.new.self c.tell_again.new.player d (found c.args.player.now.size ∷ d ∷ []) q heard.result.1.items c.count-first.result c.tell_again.result
    c.requires.config heard.ensures.plays c.count-first.ensures.is took
    (subst (λ (n : ℕ). Plays c.args.p (q ++ d ∷ []) (found n ∷ d ∷ []) c.tell_again.new.player c.tell_again.result) size
    (c.tell_again.ensures.plays (q ++ d ∷ []) (heard.ensures.plays.took q took))))

pub returns-in-Done-clause-plays : goal.returns-in-Done-clause-plays
returns-in-Done-clause-plays c q took =
    let heard = c.datagram-need in
    plays_by c.args.p c.args.player.now.size q c.args.bytes.now _ (Some Done) heard.new.self _
    (answered c.args.p c.args.player.now q c.args.bytes.now heard.result.0 Done c.requires.config (heard.ensures.need q took) c.in-Done.is)
    (plays_one c.args.p c.args.player.now heard.new.self (datagram c.args.bytes.now) heard.result.1.items c.count-first.result q c.requires.config heard.ensures.plays c.count-first.ensures.is took)

pub returns-in-Ignored-clause-plays : goal.returns-in-Ignored-clause-plays
returns-in-Ignored-clause-plays c q took =
    let heard = c.datagram-need in
    plays_by c.args.p c.args.player.now.size q c.args.bytes.now _ (Some (Ignored _)) heard.new.self _
    (answered c.args.p c.args.player.now q c.args.bytes.now heard.result.0 (Ignored _) c.requires.config (heard.ensures.need q took) c.in-Ignored.is)
    (plays_one c.args.p c.args.player.now heard.new.self (datagram c.args.bytes.now) heard.result.1.items c.count-first.result q c.requires.config heard.ensures.plays c.count-first.ensures.is took)
