-- Notes are lines that begin with `# `.
use Rattle.std.proofs.Common.{◌≡◌, ℕ, List, [], ◌∷◌, ◌++◌, map, take, length, Bool, true, false, refl}
use Rattle.std.specs.Prelude.{◌==◌, nat_lt, codes, Option, Some, None, if◌then◌else◌}
use Rattle.std.specs.List.{concat}
use Rattle.std.specs.Fmt.{decimal}
use Rattle.hex.specs.Hex.{encode_lower}
use Rattle.wire_fields.specs.Fields.{spelled}
use Rattle.gentl_types.specs.declared.buffer_id.BufferId.{BufferId}
use Rattle.stream_packets.specs.declared.fields.Head.{Head}
use Rattle.stream_packets.specs.declared.fields.LeaderInfo.{LeaderInfo}
use Rattle.stream_packets.specs.Packets.{StreamPacket, head_of}
use Rattle.gvsp_wire.specs.declared.wire_error.WireError.{WireError}
use Rattle.gvsp_wire.specs.declared.wire_error.WireError.TheVariants.{Short, Standard, Format, ZeroBlock, BadId, PayloadType, FrameSize}
use Rattle.gvsp_std.specs.declared.std_error.StdError.{StdError}
use Rattle.gvsp_std.specs.declared.std_error.StdError.TheVariants.{Short as TooShort, Extended, Zero, Before}
use Rattle.acquisition_machine.specs.declared.config.AcqConfig.{AcqConfig}
use Rattle.acquisition_machine.specs.declared.need.Why.{Why}
use Rattle.acquisition_machine.specs.declared.need.Why.TheVariants.{Foreign, Late, Repeat, Misfit, Starved, Notice}
use Rattle.acquisition_machine.specs.Blocks.{Cause, complete, old, displaced, stopped}
use Rattle.gev_types.specs.declared.reasons.Reasons.{Reasons}
use Rattle.missing_ranges.specs.Lost.{ids_in}
use Rattle.script_trace.specs.Notes.{Outcome, Note, idle, ignored, unwidened, leads, opens, asks, first, absent, drops, done, unbuffered}
use Rattle.gev_report.specs.AccountTexts.{behind_commas, listed, where_so, span_text, why_text}
use Rattle.script_trace.specs.Texts.{hex_text, id_text, id_or_none, number_or_none, flag_text, more_text, ids_text, cause_text, foreign_words, unwidened_words, packet_words, status_words, payload_length, ignored_packet, ignored_nothing, ignored_words, leader_words, done_words, words_of, words_line, notes_text}
use Rattle.script_trace.specs.Trace.{Trace}
use Rattle.script_trace.specs.Ending.{as_count}
use Rattle.acquisition_machine.specs.Runs.{After}
use Rattle.script_trace.specs.Counted.{is_opening, times_so}
use Rattle.script_trace.specs.Explaining.{is_whole, is_partial, is_unbuffered, is_drop, absent_spans, blocks_words}
use Rattle.script_trace.specs.NoteLines.{lacks_feed}
use Rattle.script_trace.proofs.Feeds.{lacks_both, AllLack, pieces_lack, decimal_lacks, hex_lacks, AreLines, no_line, one_line, lines_both}

of_hex : (width n : ℕ) → lacks_feed (hex_text width n) ≡ true
of_hex width n = lacks_both (codes "0x") (encode_lower (spelled ((width, n) ∷ []))) refl (hex_lacks (spelled ((width, n) ∷ [])))

of_span : (r : ℕ × ℕ) → lacks_feed (span_text r) ≡ true
of_span r = go (r.0 == r.1) where
  go : (v : Bool) → lacks_feed (if v then decimal r.0 else concat (decimal r.0 ∷ codes "-" ∷ decimal r.1 ∷ [])) ≡ true
  go true = decimal_lacks r.0
  go false = pieces_lack (decimal r.0 ∷ codes "-" ∷ decimal r.1 ∷ []) (decimal_lacks r.0, (refl, (decimal_lacks r.1, tt)))

of_id : (id : BufferId) → lacks_feed (id_text id) ≡ true
of_id id = pieces_lack (decimal id.place ∷ codes "." ∷ decimal id.generation ∷ []) (decimal_lacks id.place, (refl, (decimal_lacks id.generation, tt)))

of_id_or_none : (o : Option BufferId) → lacks_feed (id_or_none o) ≡ true
of_id_or_none None = refl
of_id_or_none (Some id) = of_id id

of_number_or_none : (o : Option ℕ) → lacks_feed (number_or_none o) ≡ true
of_number_or_none None = refl
of_number_or_none (Some n) = decimal_lacks n

of_flag : (v : Bool) → lacks_feed (flag_text v) ≡ true
of_flag true = refl
of_flag false = refl

of_commas : (xs : List (List ℕ)) → AllLack xs → lacks_feed (behind_commas xs) ≡ true
of_commas [] all = refl
of_commas (x ∷ xs) all = lacks_both x (behind_commas xs) all.0 (of_commas xs all.1)

of_listed : (xs : List (List ℕ)) → AllLack xs → lacks_feed (listed xs) ≡ true
of_listed [] all = refl
of_listed (x ∷ xs) all = lacks_both x (behind_commas xs) all.0 (of_commas xs all.1)

all_both : (xs ys : List (List ℕ)) → AllLack xs → AllLack ys → AllLack (xs ++ ys)
all_both [] ys a b = b
all_both (x ∷ xs) ys a b = (a.0, all_both xs ys a.1 b)

of_spans : (rs : List (ℕ × ℕ)) → AllLack (map span_text rs)
of_spans [] = tt
of_spans (r ∷ rs) = (of_span r, of_spans rs)

of_more : (rs : List (ℕ × ℕ)) → AllLack (more_text rs)
of_more rs = go (nat_lt 8 (length rs)) where
  go : (v : Bool) → AllLack (if v then codes ".." ∷ [] else [])
  go true = (refl, tt)
  go false = tt

of_ids : (rs : List (ℕ × ℕ)) → lacks_feed (ids_text rs) ≡ true
of_ids rs = of_listed (map span_text (take 8 rs) ++ more_text rs) (all_both (map span_text (take 8 rs)) (more_text rs) (of_spans (take 8 rs)) (of_more rs))

of_where : (v : Bool) (word : List ℕ) → lacks_feed word ≡ true → AllLack (where_so v word)
of_where true word h = (h, tt)
of_where false word h = tt

of_why : (r : Reasons) → lacks_feed (why_text r) ≡ true
of_why r =
    of_listed _ (all_both (where_so r.no_leader (codes "leader")) _ (of_where r.no_leader (codes "leader") refl)
    (all_both (where_so r.small (codes "small")) _ (of_where r.small (codes "small") refl)
    (all_both (where_so r.no_trailer (codes "trailer")) _ (of_where r.no_trailer (codes "trailer") refl)
    (all_both (where_so r.no_payload (codes "payloads")) _ (of_where r.no_payload (codes "payloads") refl) (of_where r.short (codes "short") refl)))))

of_cause : (cause : Cause) → lacks_feed (cause_text cause) ≡ true
of_cause complete = refl
of_cause old = refl
of_cause displaced = refl
of_cause stopped = refl

of_foreign : (e : WireError) → lacks_feed (foreign_words e) ≡ true
of_foreign (Short n) = pieces_lack (codes "foreign short=" ∷ decimal n ∷ []) (refl, (decimal_lacks n, tt))
of_foreign Standard = refl
of_foreign (Format n) = pieces_lack (codes "foreign format=" ∷ decimal n ∷ []) (refl, (decimal_lacks n, tt))
of_foreign ZeroBlock = refl
of_foreign (BadId id) = pieces_lack (codes "foreign bad-id=" ∷ decimal id ∷ []) (refl, (decimal_lacks id, tt))
of_foreign (PayloadType t) = pieces_lack (codes "foreign payload-type=" ∷ hex_text 2 t ∷ []) (refl, (of_hex 2 t, tt))
of_foreign FrameSize = refl

of_unwidened : (e : StdError) → lacks_feed (unwidened_words e) ≡ true
of_unwidened (TooShort n) = pieces_lack (codes "foreign short=" ∷ decimal n ∷ []) (refl, (decimal_lacks n, tt))
of_unwidened Extended = refl
of_unwidened Zero = refl
of_unwidened (Before b) = pieces_lack (codes "foreign before=" ∷ decimal b ∷ []) (refl, (decimal_lacks b, tt))

of_packet : (word : List ℕ) (h : Head) → lacks_feed word ≡ true → lacks_feed (packet_words word h) ≡ true
of_packet word h lacks =
    pieces_lack (word ∷ codes " block=" ∷ decimal h.block ∷ codes " id=" ∷ decimal h.id ∷ []) (lacks, (refl, (decimal_lacks h.block, (refl, (decimal_lacks h.id, tt)))))

of_status : (h : Head) → lacks_feed (status_words h) ≡ true
of_status h = lacks_both (codes " status=") (hex_text 2 h.status) refl (of_hex 2 h.status)

of_ignored : (why : Why) (x : StreamPacket) → lacks_feed (ignored_packet why x) ≡ true
of_ignored (Foreign e) x = of_foreign e
of_ignored (Late bound) x =
    pieces_lack (packet_words (codes "late") (head_of x) ∷ codes " bound=" ∷ number_or_none bound ∷ []) (of_packet (codes "late") (head_of x) refl, (refl, (of_number_or_none bound, tt)))
of_ignored Repeat x = of_packet (codes "repeat") (head_of x) refl
of_ignored Misfit x =
    pieces_lack (packet_words (codes "misfit") (head_of x) ∷ status_words (head_of x) ∷ codes " bytes=" ∷ decimal (payload_length x) ∷ [])
    (of_packet (codes "misfit") (head_of x) refl, (of_status (head_of x), (refl, (decimal_lacks (payload_length x), tt))))
of_ignored Starved x = of_packet (codes "starved") (head_of x) refl
of_ignored Notice x =
    pieces_lack (packet_words (codes "notice") (head_of x) ∷ status_words (head_of x) ∷ []) (of_packet (codes "notice") (head_of x) refl, (of_status (head_of x), tt))

of_nothing : (why : Why) → lacks_feed (ignored_nothing why) ≡ true
of_nothing (Foreign e) = of_foreign e
of_nothing (Late bound) = refl
of_nothing Repeat = refl
of_nothing Misfit = refl
of_nothing Starved = refl
of_nothing Notice = refl

of_why_ignored : (why : Why) (x : Option StreamPacket) → lacks_feed (ignored_words why x) ≡ true
of_why_ignored why None = of_nothing why
of_why_ignored why (Some x) = of_ignored why x

of_leader : (b : ℕ) (i : LeaderInfo) → lacks_feed (leader_words b i) ≡ true
of_leader b i =
    pieces_lack
    (codes "leader block=" ∷ decimal b ∷ codes " width=" ∷ decimal i.size_x ∷ codes " height=" ∷ decimal i.size_y
    ∷ codes " pixel=" ∷ hex_text 4 i.pixel ∷ codes " bytes=" ∷ decimal i.size ∷ codes " time=" ∷ decimal i.timestamp ∷ [])
    (refl, (decimal_lacks b, (refl, (decimal_lacks i.size_x, (refl, (decimal_lacks i.size_y, (refl, (of_hex 4 i.pixel, (refl, (decimal_lacks i.size, (refl, (decimal_lacks i.timestamp, tt))))))))))))

of_done : (o : Outcome) → lacks_feed (done_words o) ≡ true
of_done o =
    pieces_lack
    (codes "done block=" ∷ decimal o.block ∷ codes " buffer=" ∷ id_text o.buffer ∷ codes " cause=" ∷ cause_text o.cause
    ∷ codes " complete=" ∷ flag_text o.complete ∷ codes " kept=" ∷ decimal o.kept ∷ codes " missing=" ∷ decimal (ids_in o.lost)
    ∷ codes " why=" ∷ why_text o.why ∷ codes " ids=" ∷ ids_text o.lost ∷ codes " out=" ∷ flag_text o.out ∷ []) (
      refl,
      (
        decimal_lacks o.block,
        (
          refl,
          (
            of_id o.buffer,
            (
              refl,
              (
                of_cause o.cause,
                (
                  refl,
                  (
                    of_flag o.complete,
                    (
                      refl,
                      (
                        decimal_lacks o.kept,
                        (refl, (decimal_lacks (ids_in o.lost), (refl, (of_why o.why, (refl, (of_ids o.lost, (refl, (of_flag o.out, tt)))))))),
                      ),
                    ),
                  ),
                ),
              ),
            ),
          ),
        ),
      ),
    )

words_lack : (x : Note) → lacks_feed (words_of x) ≡ true
words_lack (idle bytes) = pieces_lack (codes "idle bytes=" ∷ decimal bytes ∷ []) (refl, (decimal_lacks bytes, tt))
words_lack (ignored why x) = of_why_ignored why x
words_lack (unwidened e) = of_unwidened e
words_lack (leads b i) = of_leader b i
words_lack (opens b buffer) = pieces_lack (codes "open block=" ∷ decimal b ∷ codes " buffer=" ∷ id_or_none buffer ∷ []) (refl, (decimal_lacks b, (refl, (of_id_or_none buffer, tt))))
words_lack (asks b r round) =
    pieces_lack (codes "ask block=" ∷ decimal b ∷ codes " ids=" ∷ span_text r ∷ codes " round=" ∷ decimal round ∷ []) (refl, (decimal_lacks b, (refl, (of_span r, (refl, (decimal_lacks round, tt))))))
words_lack (first b) = pieces_lack (codes "first block=" ∷ decimal b ∷ []) (refl, (decimal_lacks b, tt))
words_lack (absent r) = pieces_lack (codes "absent blocks=" ∷ span_text r ∷ []) (refl, (of_span r, tt))
words_lack (drops b buffer) = pieces_lack (codes "drop block=" ∷ decimal b ∷ codes " buffer=" ∷ id_text buffer ∷ []) (refl, (decimal_lacks b, (refl, (of_id buffer, tt))))
words_lack (done o) = of_done o
words_lack (unbuffered b cause) =
    pieces_lack (codes "done block=" ∷ decimal b ∷ codes " buffer=none cause=" ∷ cause_text cause ∷ []) (refl, (decimal_lacks b, (refl, (of_cause cause, tt))))

-- ---- lines

words_note : (n moment : ℕ) (words : List ℕ) → lacks_feed words ≡ true → AreLines true (words_line n moment words)
words_note n moment words h =
    one_line true (codes "# " ∷ decimal n ∷ codes " " ∷ decimal moment ∷ codes " " ∷ words ∷ [])
    (refl, (decimal_lacks n, (refl, (decimal_lacks moment, (refl, (h, tt)))))) refl

pub notes_note : (n moment : ℕ) (xs : List Note) → AreLines true (notes_text n moment xs)
notes_note n moment [] = no_line true
notes_note n moment (x ∷ xs) = lines_both true (words_line n moment (words_of x)) (notes_text n moment xs) (words_note n moment (words_of x) (words_lack x)) (notes_note n moment xs)

pub blocks_note : (n moment : ℕ) (c : AcqConfig) (t : Trace) (xs : List Note) → AreLines true (words_line n moment (blocks_words c t xs))
blocks_note n moment c t xs =
    words_note n moment (blocks_words c t xs)
    (pieces_lack
    (codes "blocks opened=" ∷ decimal (as_count (times_so is_opening xs))
    ∷ codes " complete=" ∷ decimal (as_count (times_so is_whole xs))
    ∷ codes " incomplete=" ∷ decimal (as_count (times_so is_partial xs))
    ∷ codes " unbuffered=" ∷ decimal (as_count (times_so is_unbuffered xs))
    ∷ codes " open=" ∷ decimal (as_count (length (After c t.inputs).opens))
    ∷ codes " absent=" ∷ decimal (as_count (ids_in (absent_spans xs)))
    ∷ codes " dropped=" ∷ decimal (as_count (times_so is_drop xs)) ∷ []) (
      refl,
      (
        decimal_lacks (as_count (times_so is_opening xs)),
        (
          refl,
          (
            decimal_lacks (as_count (times_so is_whole xs)),
            (
              refl,
              (
                decimal_lacks (as_count (times_so is_partial xs)),
                (
                  refl,
                  (
                    decimal_lacks (as_count (times_so is_unbuffered xs)),
                    (
                      refl,
                      (
                        decimal_lacks (as_count (length (After c t.inputs).opens)),
                        (
                          refl,
                          (
                            decimal_lacks (as_count (ids_in (absent_spans xs))),
                            (refl, (decimal_lacks (as_count (times_so is_drop xs)), tt)),
                          ),
                        ),
                      ),
                    ),
                  ),
                ),
              ),
            ),
          ),
        ),
      ),
    ))
