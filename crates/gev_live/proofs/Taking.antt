-- What was promised of new tools, of a new receiver, client, journal and camera.
use Rattle.std.proofs.Common.{◌≡◌, ℕ, List, Option, Result, subst}
use Rattle.gev_types.specs.declared.memory.NoMemory.{NoMemory}
use Rattle.acquisition_machine.specs.declared.config.AcqConfig.{AcqConfig}
use Rattle.buffer_words.specs.Passes.{Token}
use Rattle.client_machine.specs.Machine.{Client}
use Rattle.camera_machine.specs.Camera.{Camera}
use Rattle.gev_links.specs.Links.{Address, Answer}
use Rattle.gev_acq.specs.Turns.{Outside}
use Rattle.board_calls.specs.declared.mode.Mode.{Mode}
use Rattle.gev_serve.specs.declared.ends.ServeEnd.{ServeEnd}
use Rattle.gev_serve.specs.Wires.{Wire}
use Rattle.gev_control.specs.declared.acq_end.AcqEnd.{AcqEnd}
use Rattle.gev_acq.specs.declared.turn.Turn.{Turn}
use Rattle.gev_acq.specs.Reads.{Reads}
use Rattle.gev_serve.specs.Work.{ServesAndStops}
use Rattle.gev_apply.specs.Work.{AppliesAndStops}

abbrev outside : Option (List Answer) → Option (List Answer) → Option (List (Address × List ℕ)) → Option (List ℕ) → Client → Outside
outside received heard sent told client = record { received = received; heard = heard; sent = sent; told = told; client = client }

-- with a receiver of this configuration, these peers, a new client and an empty journal
pub reads_new : (mode : Mode) (c d : AcqConfig) (camera to stream from : Address) (received heard : Option (List Answer)) (sent : Option (List (Address × List ℕ))) (told : Option (List ℕ)) (n : Outside) (given new : Client)
    (journal none journal_after : List Turn) (turns : ℕ) (end : AcqEnd) (s t : Token)
    → c ≡ d → camera ≡ to → stream ≡ from → given ≡ new → journal ≡ none → Reads mode c camera stream (outside received heard sent told given) n journal journal_after turns end s t
    → Reads mode d to from (outside received heard sent told new) n none journal_after turns end s t
reads_new mode c d camera to stream from received heard sent told n given new journal none journal_after turns end s t config peer own client empty reads =
    subst (λ l. Reads mode d to from (outside received heard sent told new) n l journal_after turns end s t) empty
    (subst (λ x. Reads mode d to from (outside received heard sent told x) n journal journal_after turns end s t) client
    (subst (λ (a : Address). Reads mode d to a (outside received heard sent told given) n journal journal_after turns end s t) own
    (subst (λ (a : Address). Reads mode d a stream (outside received heard sent told given) n journal journal_after turns end s t) peer
    (subst (λ x. Reads mode x camera stream (outside received heard sent told given) n journal journal_after turns end s t) config reads))))

pub serves_new : (end : ServeEnd) (camera new : Camera) (v w : Wire) (told now_told : Option (List ℕ)) (p q : Token) → camera ≡ new → ServesAndStops end camera v w told now_told p q → ServesAndStops end new v w told now_told p q
serves_new end camera new v w told now_told p q e serves = subst (λ x. ServesAndStops end x v w told now_told p q) e serves

pub applies_new : (frames : ℕ) (told now : Option (List ℕ)) (old none new : List ℕ) (answer : Result ℕ NoMemory) (p q : Token) → old ≡ none → AppliesAndStops frames told now old new answer p q → AppliesAndStops frames told now none new answer p q
applies_new frames told now old none new answer p q e applies = subst (λ l. AppliesAndStops frames told now l new answer p q) e applies
