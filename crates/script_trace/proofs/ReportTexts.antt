-- A report's lines don't begin with `# `.
use Rattle.std.proofs.Common.{◌≡◌, ℕ, List, [], ◌∷◌, ◌++◌, take, Bool, true, false, refl}
use Rattle.std.specs.Prelude.{ℤ, codes, Result, Ok, Err}
use Rattle.std.specs.Fmt.{decimal, signed_decimal}
use Rattle.hex.specs.Hex.{encode_lower}
use Rattle.sha2.specs.Sha256.{sha256}
use Rattle.gev_types.specs.Filling.{Filling}
use Rattle.gentl_types.specs.declared.buffer_id.BufferId.{BufferId}
use Rattle.gentl_types.specs.declared.errors.GcError.{GcError}
use Rattle.gentl_types.specs.Codes.{code_of}
use Rattle.gentl_handles.specs.declared.opened.Opened.{Opened}
use Rattle.gev_report.specs.declared.end_counts.EndCounts.{EndCounts}
use Rattle.gev_report.specs.declared.step_text.StepText.{StepText}
use Rattle.gev_report.specs.declared.step_text.StepText.TheVariants.{Done, Number, None, Closed, NotHeld, Vacant, Away}
use Rattle.gev_report.specs.Pieces.{flag_text}
use Rattle.gev_report.specs.ReplayLines.{digest_text, take_line, result_line, value_line, number_line, request_line, end_line}
use Rattle.gev_report.specs.StepLine.{step_text, step_line}
use Rattle.acquisition_machine.specs.declared.config.AcqConfig.{AcqConfig}
use Rattle.acquisition_machine.specs.Machine.{Request, request_bytes}
use Rattle.script_trace.specs.Trace.{Trace}
use Rattle.script_trace.specs.Answers.{refused_text, done_text, answer_text, id_text, value_text}
use Rattle.script_trace.specs.HandleLines.{opened_text}
use Rattle.script_trace.specs.StreamLines.{requests_text}
use Rattle.script_trace.specs.Wide.{standard_form, standard_text}
use Rattle.script_trace.specs.Ending.{end_counts, dropped_text, end_text}
use Rattle.script_trace.specs.NoteLines.{lacks_feed, is_note_line}
use Rattle.script_trace.proofs.Feeds.{decimal_lacks, signed_lacks, hex_lacks, AreLines, no_line, one_line, lines_both}

-- A word that begins a line of a report.
pub record IsWord (word : List ℕ) : Type 0 where
  pub lacks : lacks_feed word ≡ true
  pub plain : (rest : List ℕ) → is_note_line (word ++ rest) ≡ false

of_flag : (v : Bool) → lacks_feed (flag_text v) ≡ true
of_flag true = refl
of_flag false = refl

result_plain : (word : List ℕ) (answer : Result (Unit {0}) ℤ) → IsWord word → AreLines false (result_line word answer)
result_plain word (Ok done) w = one_line false (word ∷ codes " ok" ∷ []) (w.lacks, (refl, tt)) (w.plain _)
result_plain word (Err code) w = one_line false (word ∷ codes " " ∷ signed_decimal code ∷ []) (w.lacks, (refl, (signed_lacks code, tt))) (w.plain _)

pub done_plain : (word : List ℕ) → IsWord word → AreLines false (done_text word)
done_plain word w = result_plain word (Ok tt) w

pub refused_plain : (word : List ℕ) (error : GcError) → IsWord word → AreLines false (refused_text word error)
refused_plain word error w = result_plain word (Err (code_of error)) w

pub answer_plain : (word : List ℕ) (answer : Result (Unit {0}) GcError) → IsWord word → AreLines false (answer_text word answer)
answer_plain word (Ok done) w = done_plain word w
answer_plain word (Err error) w = refused_plain word error w

pub id_plain : (word : List ℕ) (answer : Result BufferId GcError) → IsWord word → AreLines false (id_text word answer)
id_plain word (Ok id) w =
    one_line false (word ∷ codes " " ∷ decimal id.place ∷ codes "." ∷ decimal id.generation ∷ [])
    (w.lacks, (refl, (decimal_lacks id.place, (refl, (decimal_lacks id.generation, tt))))) (w.plain _)
id_plain word (Err error) w = refused_plain word error w

pub told_plain : (word : List ℕ) (which value : ℕ) → IsWord word → AreLines false (value_line word which value)
told_plain word which value w =
    one_line false (word ∷ codes " " ∷ decimal which ∷ codes " " ∷ decimal value ∷ []) (w.lacks, (refl, (decimal_lacks which, (refl, (decimal_lacks value, tt))))) (w.plain _)

pub value_plain : (word : List ℕ) (which : ℕ) (answer : Result ℕ GcError) → IsWord word → AreLines false (value_text word which answer)
value_plain word which (Ok value) w = told_plain word which value w
value_plain word which (Err error) w = refused_plain word error w

pub number_plain : (word : List ℕ) (value : ℕ) → IsWord word → AreLines false (number_line word value)
number_plain word value w = one_line false (word ∷ codes " " ∷ decimal value ∷ []) (w.lacks, (refl, (decimal_lacks value, tt))) (w.plain _)

pub take_plain : (id : BufferId) (buf : Filling) → AreLines false (take_line id buf)
take_plain id buf =
    one_line false
    (codes "take " ∷ decimal id.place ∷ codes "." ∷ decimal id.generation
    ∷ codes " block=" ∷ decimal buf.rec.block
    ∷ codes " complete=" ∷ flag_text buf.rec.complete
    ∷ codes " larger=" ∷ flag_text buf.rec.larger
    ∷ codes " leader=" ∷ flag_text buf.rec.has_leader
    ∷ codes " len=" ∷ decimal buf.rec.data_len
    ∷ codes " filled=" ∷ decimal buf.rec.filled
    ∷ codes " sha256=" ∷ digest_text buf ∷ []) (
      refl,
      (
        decimal_lacks id.place,
        (
          refl,
          (
            decimal_lacks id.generation,
            (
              refl,
              (
                decimal_lacks buf.rec.block,
                (
                  refl,
                  (
                    of_flag buf.rec.complete,
                    (
                      refl,
                      (
                        of_flag buf.rec.larger,
                        (refl, (of_flag buf.rec.has_leader, (refl, (decimal_lacks buf.rec.data_len, (refl, (decimal_lacks buf.rec.filled, (refl, (hex_lacks (sha256 (take buf.rec.data_len buf.bytes)), tt)))))))),
                      ),
                    ),
                  ),
                ),
              ),
            ),
          ),
        ),
      ),
    ) refl

of_step : (s : StepText) → lacks_feed (step_text s) ≡ true
of_step Done = refl
of_step (Number n) = decimal_lacks n
of_step None = refl
of_step Closed = refl
of_step NotHeld = refl
of_step Vacant = refl
of_step Away = refl

pub step_plain : (actor : ℕ) (act : List ℕ) (s : StepText) → lacks_feed act ≡ true → AreLines false (step_line actor act s)
step_plain actor act s lacks =
    one_line false (codes "step " ∷ decimal actor ∷ codes " " ∷ act ∷ codes " " ∷ step_text s ∷ []) (refl, (decimal_lacks actor, (refl, (lacks, (refl, (of_step s, tt)))))) refl

request_plain : (bytes : List ℕ) → AreLines false (request_line bytes)
request_plain bytes = one_line false (codes "request " ∷ encode_lower bytes ∷ []) (refl, (hex_lacks bytes, tt)) refl

pub requests_plain : (rs : List Request) → AreLines false (requests_text rs)
requests_plain [] = no_line false
requests_plain (r ∷ rs) = lines_both false (request_line (request_bytes r)) (requests_text rs) (request_plain (request_bytes r)) (requests_plain rs)

pub standard_plain : (rs : List Request) → AreLines false (standard_text rs)
standard_plain [] = no_line false
standard_plain (r ∷ rs) = lines_both false (request_line (standard_form (request_bytes r))) (standard_text rs) (request_plain (standard_form (request_bytes r))) (standard_plain rs)

pub opened_plain : (r : Result Opened GcError) → AreLines false (opened_text r)
opened_plain (Ok o) = number_plain (codes "open") o.serial (record { lacks = refl; plain = λ rest. refl })
opened_plain (Err error) = refused_plain (codes "open") error (record { lacks = refl; plain = λ rest. refl })

of_end : (n : EndCounts) → AreLines false (end_line n)
of_end n =
    one_line false
    (codes "end taken=" ∷ decimal n.taken ∷ codes " fills=" ∷ decimal n.fills ∷ codes " complete=" ∷ decimal n.complete
    ∷ codes " underrun=" ∷ decimal n.underrun ∷ codes " requests=" ∷ decimal n.requests ∷ codes " foreign=" ∷ decimal n.foreign
    ∷ codes " late=" ∷ decimal n.late ∷ codes " repeat=" ∷ decimal n.repeat ∷ codes " misfit=" ∷ decimal n.misfit
    ∷ codes " starved=" ∷ decimal n.starved ∷ codes " notice=" ∷ decimal n.notice ∷ codes " idle=" ∷ decimal n.idle ∷ []) (
      refl,
      (
        decimal_lacks n.taken,
        (
          refl,
          (
            decimal_lacks n.fills,
            (
              refl,
              (
                decimal_lacks n.complete,
                (
                  refl,
                  (
                    decimal_lacks n.underrun,
                    (
                      refl,
                      (
                        decimal_lacks n.requests,
                        (
                          refl,
                          (
                            decimal_lacks n.foreign,
                            (refl, (decimal_lacks n.late, (refl, (decimal_lacks n.repeat, (refl, (decimal_lacks n.misfit, (refl, (decimal_lacks n.starved, (refl, (decimal_lacks n.notice, (refl, (decimal_lacks n.idle, tt)))))))))))),
                          ),
                        ),
                      ),
                    ),
                  ),
                ),
              ),
            ),
          ),
        ),
      ),
    ) refl

of_dropped : (told : Bool) (n : ℕ) → AreLines false (dropped_text told n)
of_dropped true n = number_plain (codes "dropped") n (record { lacks = refl; plain = λ rest. refl })
of_dropped false n = no_line false

pub end_plain : (c : AcqConfig) (refused : ℕ) (t : Trace) → AreLines false (end_text c refused t)
end_plain c refused t = lines_both false (dropped_text t.told_mode _) (end_line (end_counts c refused t)) (of_dropped t.told_mode _) (of_end (end_counts c refused t))
