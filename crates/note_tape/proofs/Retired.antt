-- What is told of a block that retired is its note.
use Rattle.std.proofs.Common.{◌≡◌, ℕ, Bool, List, [], ◌∷◌, ◌++◌, Option, Some, None, refl, ap}
use Rattle.gentl_types.specs.declared.buffer_id.BufferId.{BufferId}
use Rattle.board_machine.specs.Machine.{Board}
use Rattle.acquisition_machine.specs.declared.config.AcqConfig.{AcqConfig}
use Rattle.acquisition_machine.specs.Blocks.{Given, Open, Cause}
use Rattle.acq_core.specs.declared.ended.Ended.{Ended}
use Rattle.acquisition_machine.specs.Blocks.{cause_of}
use Rattle.acq_core.specs.Ending.{held_of, end_of}
use Rattle.script_trace.specs.Notes.{Note}
use Rattle.note_tape.specs.declared.told.Told.{Told}
use Rattle.note_tape.specs.declared.told.Told.TheVariants.{Done}
use Rattle.note_tape.specs.Telling.{IsNoted, IsEnd, IsEndWith}
use Rattle.note_tape.specs.Tells.{Tells, buffer_of, own_note_of, own_note, IsFilledOn}

-- one thing was
pub tells_one : (old new : List Told) (x : Told) (n : Note) → new ≡ old ++ x ∷ [] → IsNoted x n → Tells old new (n ∷ [])
tells_one old new x n is noted = record { more = x ∷ []; is = is; noted = (noted, tt) }

end_with : (c : AcqConfig) (b : Board) (o : Open) (cause : Cause) (end : Ended) (buffer : Option BufferId) (filled : Bool) (given : Option Given) → end.held ≡ held_of c.p o.block given o.heard → buffer ≡ buffer_of b given → IsFilledOn b given filled
    → IsEndWith end buffer filled c b cause o given (own_note_of c b o cause given)
end_with c b o cause end buffer filled None held same out = (held, same, refl)
end_with c b o cause end buffer filled (Some g) held same out = (held, same, out, refl)

pub is_end : (c : AcqConfig) (b : Board) (low : ℕ) (cause : Cause) (o : Open) (end : Ended) (buffer : Option BufferId) (filled : Bool) → end ≡ end_of c.p low (cause_of cause) o → buffer ≡ buffer_of b o.given → IsFilledOn b o.given filled
    → IsEnd end buffer filled (own_note c b o cause)
is_end c b low cause o end buffer filled is same out = record {
  config = c;
  board = b;
  cause = cause;
  was = o;
  given = o.given;
  block = ap (λ (e : Ended). e.block) is;
  because = ap (λ (e : Ended). e.cause) is;
  noted = end_with c b o cause end buffer filled o.given (ap (λ (e : Ended). e.held) is) same out;
}

pub tells_done : (old new : List Told) (c : AcqConfig) (b : Board) (low : ℕ) (cause : Cause) (o : Open) (end : Ended) (buffer : Option BufferId) (filled : Bool) → new ≡ old ++ Done end buffer filled ∷ [] → end ≡ end_of c.p low (cause_of cause) o → buffer ≡ buffer_of b o.given → IsFilledOn b o.given filled
    → Tells old new (own_note c b o cause ∷ [])
tells_done old new c b low cause o end buffer filled grown is same out = tells_one old new (Done end buffer filled) (own_note c b o cause) grown (is_end c b low cause o end buffer filled is same out)
