-- The datagram, the claim's outcome, and the datagram again.
use Rattle.std.proofs.Common.{◌∙◌, refl}
use Rattle.acq_core.specs.Receiver.{config_of, Stands}
use Rattle.gev_acq.proofs.Listening.{heard_once, heard_twice}
use Rattle.gev_acq.proofs.receiving.receive.Goals as goal

pub returns-in-Buffer-clause-receives : goal.returns-in-Buffer-clause-receives
returns-in-Buffer-clause-receives g c =
    heard_twice c.args.mode (config_of c.args.acq.now) (config_of c.fill_what_retires.new.acq) (config_of c.claim_one-claim.new.acq) (Stands c.args.acq.now)
    (Stands c.fill_what_retires.new.acq) (Stands c.claim_one-claim.new.acq) (Stands c.fill_what_retires-in-Buffer.new.acq) c.args.bytes.now c.in-Buffer.block
    c.claim_one-claim.result c.fill_what_retires-in-Buffer.result c.is_done-kept.result c.args.pass.now c.fill_what_retires.new.pass c.claim_one-claim.new.pass
    c.fill_what_retires-in-Buffer.new.pass c.in-Buffer.ensures.config c.claim_one-claim.ensures.config c.in-Buffer.ensures.tells c.claim_one-claim.ensures.claims
    c.fill_what_retires-in-Buffer.ensures.tells c.is_done-kept.ensures

pub returns-in-Buffer-clause-alone : goal.returns-in-Buffer-clause-alone
returns-in-Buffer-clause-alone g c = λ alone. c.fill_what_retires-in-Buffer.ensures.alone (c.claim_one-claim.ensures.alone (c.in-Buffer.ensures.alone alone))

pub returns-in-Buffer-clause-config : goal.returns-in-Buffer-clause-config
returns-in-Buffer-clause-config g c = c.fill_what_retires-in-Buffer.ensures.config ∙ (c.claim_one-claim.ensures.config ∙ c.in-Buffer.ensures.config)

pub returns-in-Buffer-clause-fills : goal.returns-in-Buffer-clause-fills
returns-in-Buffer-clause-fills g c = c.fill_what_retires-in-Buffer.ensures.fills

pub returns-in-Buffer-clause-requests : goal.returns-in-Buffer-clause-requests
returns-in-Buffer-clause-requests g c = c.fill_what_retires-in-Buffer.ensures.requests

pub returns-in-Buffer-clause-backs : goal.returns-in-Buffer-clause-backs
returns-in-Buffer-clause-backs g c = c.fill_what_retires-in-Buffer.ensures.backs

pub returns-in-Done-clause-receives : goal.returns-in-Done-clause-receives
returns-in-Done-clause-receives g c = heard_once _ _ _ _ _ _ _ _ c.in-Done.ensures.tells refl

pub returns-in-Done-clause-config : goal.returns-in-Done-clause-config
returns-in-Done-clause-config g c = c.in-Done.ensures.config

pub returns-in-Done-clause-fills : goal.returns-in-Done-clause-fills
returns-in-Done-clause-fills g c = c.in-Done.ensures.fills

pub returns-in-Done-clause-requests : goal.returns-in-Done-clause-requests
returns-in-Done-clause-requests g c = c.in-Done.ensures.requests

pub returns-in-Done-clause-backs : goal.returns-in-Done-clause-backs
returns-in-Done-clause-backs g c = c.in-Done.ensures.backs

pub returns-in-Done-clause-alone : goal.returns-in-Done-clause-alone
returns-in-Done-clause-alone g c = c.in-Done.ensures.alone

pub returns-in-Ignored-clause-receives : goal.returns-in-Ignored-clause-receives
returns-in-Ignored-clause-receives g c = heard_once _ _ _ _ _ _ _ _ c.in-Ignored.ensures.tells refl

pub returns-in-Ignored-clause-config : goal.returns-in-Ignored-clause-config
returns-in-Ignored-clause-config g c = c.in-Ignored.ensures.config

pub returns-in-Ignored-clause-fills : goal.returns-in-Ignored-clause-fills
returns-in-Ignored-clause-fills g c = c.in-Ignored.ensures.fills

pub returns-in-Ignored-clause-requests : goal.returns-in-Ignored-clause-requests
returns-in-Ignored-clause-requests g c = c.in-Ignored.ensures.requests

pub returns-in-Ignored-clause-backs : goal.returns-in-Ignored-clause-backs
returns-in-Ignored-clause-backs g c = c.in-Ignored.ensures.backs

pub returns-in-Ignored-clause-alone : goal.returns-in-Ignored-clause-alone
returns-in-Ignored-clause-alone g c = c.in-Ignored.ensures.alone

pub fill_what_retires-requires-clause-table : goal.fill_what_retires-requires-clause-table
fill_what_retires-requires-clause-table g c = c.requires.table

pub fill_what_retires-requires-clause-fills : goal.fill_what_retires-requires-clause-fills
fill_what_retires-requires-clause-fills g c = c.requires.fills

pub fill_what_retires-requires-clause-requests : goal.fill_what_retires-requires-clause-requests
fill_what_retires-requires-clause-requests g c = c.requires.requests

pub fill_what_retires-requires-clause-backs : goal.fill_what_retires-requires-clause-backs
fill_what_retires-requires-clause-backs g c = c.requires.backs

pub claim_one-claim-requires-clause-table : goal.claim_one-claim-requires-clause-table
claim_one-claim-requires-clause-table g c = c.in-Buffer.ensures.table ∙ c.requires.table

pub claim_one-claim-requires-clause-backs : goal.claim_one-claim-requires-clause-backs
claim_one-claim-requires-clause-backs g c = c.in-Buffer.ensures.backs

pub fill_what_retires-requires-in-Buffer-clause-table : goal.fill_what_retires-requires-in-Buffer-clause-table
fill_what_retires-requires-in-Buffer-clause-table g c =
    c.claim_one-claim.ensures.claims.serves.enters.table ∙ (c.in-Buffer.ensures.table ∙ c.requires.table)

pub fill_what_retires-requires-in-Buffer-clause-fills : goal.fill_what_retires-requires-in-Buffer-clause-fills
fill_what_retires-requires-in-Buffer-clause-fills g c = c.claim_one-claim.ensures.fills ∙ c.in-Buffer.ensures.fills

pub fill_what_retires-requires-in-Buffer-clause-requests : goal.fill_what_retires-requires-in-Buffer-clause-requests
fill_what_retires-requires-in-Buffer-clause-requests g c = c.claim_one-claim.ensures.requests ∙ c.in-Buffer.ensures.requests

pub fill_what_retires-requires-in-Buffer-clause-backs : goal.fill_what_retires-requires-in-Buffer-clause-backs
fill_what_retires-requires-in-Buffer-clause-backs g c = c.claim_one-claim.ensures.backs
