-- A capture that is read record by record, and how its run ends.
use Rattle.std.proofs.Common.{◌≡◌, ℕ, ◌+◌, ◌-◌, ◌^◌, ◌<◌, ◌≤◌, List, [], ◌∷◌, ◌++◌, length, drop, Option, Some, None, Result, Ok, Err, refl, ap, sym, ◌∙◌, subst, arith, inl, inr, append_assoc, length-append}
use Rattle.std.specs.Prelude.{◌⊎◌, Bool, false, OnOk, is_err}
use Rattle.std.proofs.lemmas.List.{append-nil, length-drop}
use Rattle.gev_links.specs.Faults.{Rose}
use Rattle.gev_links.specs.Told.{Gives, IsSpent, Appends, WritesFront}
use Rattle.gev_script.proofs.Tellings.{Gives-append, Gives-same}
use Rattle.script_runs.specs.Verdicts.{IfTold}
use Rattle.gev_capture.specs.declared.kind.CaptureKind.{CaptureKind}
use Rattle.gev_capture.specs.declared.capture_end.CaptureEnd.{CaptureEnd}
use Rattle.gev_capture.specs.declared.capture_end.CaptureEnd.TheVariants.{Ended, Refused}
use Rattle.gev_capture.specs.declared.capture_end.CaptureEnd.TheVariants as capture_end
use Rattle.gev_capture.specs.declared.moments.Moments.{Moments}
use Rattle.gev_capture.specs.Files.{Packet, Format, fresh, Told, refused, told}
use Rattle.gev_capture.specs.Captures.{Read, Refusal, IsOpen, IsAtEnd, IsRefused, EndsAs, with_packet, packets_in, HasCaptured}
use Rattle.gev_capture.specs.Laws.{Stays}
use Rattle.gev_capture.specs.Sightings.{Sighting, no_moments, sighted, sightings}
use Rattle.gev_capture.specs.Reading.{most_held, ReadsOn, CauseOfEnd}
use Rattle.gev_capture.specs.Walking as walking
use Rattle.gev_capture.specs.Walking.{CaptureState, Nexts, Walks}
use Rattle.gev_capture.proofs.OneCapture.{captures_are_one}
use Rattle.gev_capture.proofs.Pieces.{pieces_tell}
use Rattle.gev_capture.proofs.Walking.{walks_more, walks_next, walks_end, walks_on, packets_next, packets_append}
use Rattle.capture_runs.specs.declared.ending.Ending.{Ending}
use Rattle.capture_runs.specs.declared.ending.Ending.TheVariants.{Done, BadCapture, ReadFault, WriteFault, NoMemory}
use Rattle.capture_runs.specs.Texts.{Texts, said, state, broken, whole, tells, Tells}
use Rattle.capture_runs.specs.Ends.{size_of, WasCaptured, WasRead, StopsShort, at_end, at_fault, between, RunEnds, AnswersContent}
use Rattle.capture_runs.specs.Turns.{moments_behind, Drains, rest_text, EndsWith, GoesOn, BreaksOff, TurnEnds}
use Rattle.capture_runs.proofs.Fronts.{drains_none, drains_more, drained_whole, drained_front, front_none, front_more, still_front}
use Rattle.capture_runs.proofs.Behind.{moments_behind-append, sighted-append, said-append, state-append}

-- ---- records so far

-- These records were read and told of, and of the text some was written, and the rest is held back.
pub record Stood {P : Type 0} (t : Texts P) (Begun Stands : P → Type 0) (reader : CaptureState) (m : Moments) (out held : List ℕ)
    (left left_now written written_now : Option (List ℕ)) : Type 0 where
  pub all : List ℕ
  pub records : List Read
  pub came : Gives left left_now all
  pub walks : Walks fresh all records reader.format reader.held
  pub few : length reader.held ≤ most_held
  pub count : reader.records ≡ length records
  pub moments : m ≡ moments_behind no_moments (packets_in records)
  pub told : (p : P) → Begun p → Stands (state t p (sightings (packets_in records)))
  pub drained : (p : P) → Begun p → Drains written written_now (out ++ said t p (sightings (packets_in records))) held

pub stood_none : {P : Type 0} (t : Texts P) (Begun : P → Type 0) (reader : CaptureState) (m : Moments) (out : List ℕ) (left written : Option (List ℕ))
    → reader ≡ record { format = fresh; records = 0; packet = None; held = [] } → m ≡ no_moments → Stood t Begun Begun reader m out out left left written written
stood_none t Begun reader m out left written e f = record {
  all = [];
  records = [];
  came = Gives-same left;
  walks = (ap (λ (r : CaptureState). r.format) e, ap (λ (r : CaptureState). r.held) e);
  few = let none : length reader.held ≡ 0 = ap (λ (r : CaptureState). length r.held) e in omega (arith, none);
  count = ap (λ (r : CaptureState). r.records) e;
  moments = f;
  told = λ p begun. begun;
  drained = λ p begun. subst (λ (text : List ℕ). Drains written written text out) (sym (append-nil out)) (drains_none written out);
}

-- what is left of so many bytes behind a record
few_behind : (held more rest : List ℕ) (size : ℕ) → rest ≡ drop size (held ++ more) → length (held ++ more) ≤ most_held → length rest ≤ most_held
few_behind held more rest size e few =
    let same : length rest ≡ length (drop size (held ++ more)) = ap length e in omega (arith, same, length-drop size (held ++ more), few)

abbrev read_with : ℕ → Format → Option Packet → Read
read_with size format packet = record { size = size; format = format; packet = packet }

-- the sightings with one more record
sightings_next : (rs : List Read) (r : Read) (m : Moments) → m ≡ moments_behind no_moments (packets_in rs)
    → sightings (packets_in (rs ++ r ∷ [])) ≡ sightings (packets_in rs) ++ sighted m (with_packet r.packet [])
sightings_next rs r m e =
    ap (λ (ps : List Packet). sightings ps) (packets_next rs r)
    ∙ sighted-append no_moments (packets_in rs) (with_packet r.packet [])
    ∙ ap (λ (k : Moments). sightings (packets_in rs) ++ sighted k (with_packet r.packet [])) (sym e)

module _ {P : Type 0} where
  pub stood_on : (t : Texts P) (Begun Stands Stands_after : P → Type 0) (reader reader_after : CaptureState) (m m_after : Moments) (out held held_after : List ℕ)
      (left mid left_after written written_mid written_after : Option (List ℕ))
      → Stood t Begun Stands reader m out held left mid written written_mid
      → GoesOn t Stands Stands_after reader reader_after m m_after held held_after mid left_after written_mid written_after
      → Stood t Begun Stands_after reader_after m_after out held_after left left_after written written_after
  stood_on t Begun Stands Stands_after reader reader_after m m_after out held held_after left mid left_after written written_mid written_after s g =
      let r = read_with g.read.holds.size reader_after.format reader_after.packet in
      let xs = sightings (packets_in s.records) in
      let ys = sighted m (with_packet reader_after.packet []) in
      let more = g.read.more in
      let walked = walks_next fresh (s.all ++ more) s.records reader.format (reader.held ++ more) r
      (walks_more fresh s.all more s.records reader.format reader.held s.walks) g.read.holds.told_so in
      let sights : sightings (packets_in (s.records ++ r ∷ [])) ≡ xs ++ ys = sightings_next s.records r m s.moments in
      record {
        all = s.all ++ more;
        records = s.records ++ r ∷ [];
        came = Gives-append left mid left_after s.all more s.came g.read.given;
        walks = subst (λ (h : List ℕ). Walks fresh (s.all ++ more) (s.records ++ r ∷ []) reader_after.format h) (sym g.read.holds.held) walked;
        few = few_behind reader.held more reader_after.held g.read.holds.size g.read.holds.held g.read.few;
        count = omega (arith, g.records, s.count, length-append s.records (r ∷ []));
        moments =
            g.moments ∙ ap (λ (k : Moments). moments_behind k (with_packet reader_after.packet [])) s.moments
            ∙ sym (moments_behind-append no_moments (packets_in s.records) (with_packet reader_after.packet []))
            ∙ ap (λ (ps : List Packet). moments_behind no_moments ps) (sym (packets_next s.records r));
        told = λ p begun.
            subst Stands_after
            (sym (state-append t p xs ys) ∙ ap (λ (l : List Sighting). state t p l) (sym sights))
            (g.told (state t p xs) (s.told p begun));
        drained = λ p begun.
            subst (λ (text : List ℕ). Drains written written_after text held_after)
            (append_assoc out (said t p xs) (said t (state t p xs) ys)
            ∙ ap (λ (l : List ℕ). out ++ l) (sym (said-append t p xs ys) ∙ ap (λ (l : List Sighting). said t p l) (sym sights)))
            (drains_more written written_mid written_after (out ++ said t p xs) (said t (state t p xs) ys) held held_after
            (s.drained p begun) (g.drained (state t p xs) (s.told p begun)));
      }

-- ---- the end

captured_of : (all : List ℕ) (rs : List Read) (now : Format) (rest : List ℕ) (end : Option Refusal) → Walks fresh all rs now rest → EndsAs now (length rs) rest end → HasCaptured all (packets_in rs) end
captured_of all rs now rest end w e =
    let counted : length rs ≡ 0 + length rs = omega arith in
    record {
      records = rs;
      are = walks_end fresh 0 all rs now rest end w (subst (λ (n : ℕ). EndsAs now n rest end) counted e);
      packets_are = refl;
    }

-- the bytes are those of the records and what is left
walked_size : (format : Format) (bytes : List ℕ) (rs : List Read) (now : Format) (rest : List ℕ) → Walks format bytes rs now rest → length bytes ≤ size_of rs + length rest
walked_size format bytes [] now rest w = let same : length rest ≡ length bytes = ap length w.1 in omega (arith, same)
walked_size format bytes (r ∷ rs) now rest w = omega (arith, walked_size r.format (drop r.size bytes) rs now rest w.1, length-drop r.size bytes)

few_walked : (bytes : List ℕ) (rs : List Read) (now : Format) (rest : List ℕ) → Walks fresh bytes rs now rest → length rest ≤ most_held → length bytes ≤ size_of rs + most_held
few_walked bytes rs now rest w few = omega (arith, walked_size fresh bytes rs now rest w, few)

-- no more bytes come
content_spent : (left left_after : Option (List ℕ)) (bytes : List ℕ) (packets : List Packet) (end : Option Refusal) → Gives left left_after bytes → IsSpent left_after
    → HasCaptured bytes packets end → IfTold left (λ content. HasCaptured content packets end)
content_spent None left_after bytes packets end g spent c = tt
content_spent (Some l) None bytes packets end g spent c = absurd g
content_spent (Some l) (Some m) bytes packets end g spent c =
    subst (λ (content : List ℕ). HasCaptured content packets end) (sym (g ∙ ap (λ (t : List ℕ). bytes ++ t) spent ∙ append-nil bytes)) c

-- what is refused is refused whatever follows
refused_with : (now : Format) (rest more : List ℕ) (kind : CaptureKind) → told now rest ≡ refused kind → told now (rest ++ more) ≡ refused kind
refused_with now rest more kind e = subst (λ (t : Told). Stays (length rest) t (told now (rest ++ more))) e (pieces_tell now rest more)

abbrev refusal_at : ℕ → CaptureKind → Option Refusal
refusal_at n kind = Some (record { number = n; kind = kind })

content_refused : (left left_after : Option (List ℕ)) (all : List ℕ) (rs : List Read) (now : Format) (rest : List ℕ) (kind : CaptureKind) → Gives left left_after all
    → Walks fresh all rs now rest → told now rest ≡ refused kind → IfTold left (λ content. HasCaptured content (packets_in rs) (refusal_at (length rs + 1) kind))
content_refused None left_after all rs now rest kind g w e = tt
content_refused (Some l) None all rs now rest kind g w e = absurd g
content_refused (Some l) (Some m) all rs now rest kind g w e =
    subst (λ (content : List ℕ). HasCaptured content (packets_in rs) (refusal_at (length rs + 1) kind)) (sym g)
    (captured_of (all ++ m) rs now (rest ++ m) (refusal_at (length rs + 1) kind) (walks_more fresh all m rs now rest w) (refl, inl (refused_with now rest m kind e)))

content_cut : (left left_after : Option (List ℕ)) (all : List ℕ) (rs : List Read) (now : Format) (rest : List ℕ) (kind : CaptureKind) → Gives left left_after all
    → Walks fresh all rs now rest → HasCaptured all (packets_in rs) (refusal_at (length rs + 1) kind) → (told now rest ≡ refused kind) ⊎ IsSpent left_after
    → IfTold left (λ content. HasCaptured content (packets_in rs) (refusal_at (length rs + 1) kind))
content_cut left left_after all rs now rest kind g w c (inl e) = content_refused left left_after all rs now rest kind g w e
content_cut left left_after all rs now rest kind g w c (inr spent) = content_spent left left_after all (packets_in rs) (refusal_at (length rs + 1) kind) g spent c

module _ {P : Type 0} where
  -- all that came, and what was walked over it
  came_with : (t : Texts P) (Begun Stands : P → Type 0) (reader : CaptureState) (m : Moments) (out held more : List ℕ) (left mid left_after written written_mid : Option (List ℕ))
      (s : Stood t Begun Stands reader m out held left mid written written_mid) → Walks fresh (s.all ++ more) s.records reader.format (reader.held ++ more)
  came_with t Begun Stands reader m out held more left mid left_after written written_mid s =
      walks_more fresh s.all more s.records reader.format reader.held s.walks

  -- the whole text was written
  whole_written : (t : Texts P) (Begun Stands : P → Type 0) (p : P) (xs : List Sighting) (out held : List ℕ) (written written_mid written_after : Option (List ℕ))
      → Drains written written_mid (out ++ said t p xs) held → Appends written_mid written_after (held ++ (t.finish (state t p xs) ++ t.close (state t p xs)))
      → Appends written written_after (out ++ whole t p xs)
  whole_written t Begun Stands p xs out held written written_mid written_after d e =
      subst (λ (text : List ℕ). Appends written written_after text)
      (append_assoc out (said t p xs) (t.finish (state t p xs) ++ t.close (state t p xs)))
      (drained_whole written written_mid written_after (out ++ said t p xs) (t.finish (state t p xs) ++ t.close (state t p xs)) held d e)

  broken_written : (t : Texts P) (p : P) (xs : List Sighting) (out held : List ℕ) (written written_mid written_after : Option (List ℕ))
      → Drains written written_mid (out ++ said t p xs) held → Appends written_mid written_after (held ++ t.finish (state t p xs))
      → Appends written written_after (out ++ broken t p xs)
  broken_written t p xs out held written written_mid written_after d e =
      subst (λ (text : List ℕ). Appends written written_after text)
      (append_assoc out (said t p xs) (t.finish (state t p xs)))
      (drained_whole written written_mid written_after (out ++ said t p xs) (t.finish (state t p xs)) held d e)

  -- the text of packets and of others behind them
  whole-append : (t : Texts P) (p : P) (xs ys : List Sighting) → whole t p (xs ++ ys) ≡ said t p xs ++ whole t (state t p xs) ys
  whole-append t p xs ys =
      let q = state t p xs in
      let end : P → List ℕ = λ r. t.finish r ++ t.close r in
      ap (λ (l : List ℕ). l ++ end (state t p (xs ++ ys))) (said-append t p xs ys)
      ∙ ap (λ (r : P). said t p xs ++ said t q ys ++ end r) (state-append t p xs ys)
      ∙ append_assoc (said t p xs) (said t q ys) (end (state t q ys))

  -- a front of what is told of packets is one of the text of each capture that begins with them
  front_on : (t : Texts P) (p : P) (out : List ℕ) (ps more : List Packet) (written written_after : Option (List ℕ))
      → WritesFront written written_after (out ++ said t p (sightings ps)) → WritesFront written written_after (out ++ whole t p (sightings (ps ++ more)))
  front_on t p out ps more written written_after f =
      let xs = sightings ps in
      let zs = sighted (moments_behind no_moments ps) more in
      subst (λ (text : List ℕ). WritesFront written written_after text)
      (append_assoc out (said t p xs) (whole t (state t p xs) zs)
      ∙ ap (λ (l : List ℕ). out ++ l)
      (sym (whole-append t p xs zs) ∙ ap (λ (l : List Sighting). whole t p l) (sym (sighted-append no_moments ps more))))
      (front_more written written_after (out ++ said t p xs) (whole t (state t p xs) zs) f)

  -- a front of what is told of the records so far and of others was written
  front_written : (t : Texts P) (p : P) (m : Moments) (rs more : List Read) (out held : List ℕ) (written written_mid written_after : Option (List ℕ))
      → m ≡ moments_behind no_moments (packets_in rs) → Drains written written_mid (out ++ said t p (sightings (packets_in rs))) held
      → WritesFront written_mid written_after (held ++ said t (state t p (sightings (packets_in rs))) (sighted m (packets_in more)))
      → WritesFront written written_after (out ++ said t p (sightings (packets_in (rs ++ more))))
  front_written t p m rs more out held written written_mid written_after e d f =
      let xs = sightings (packets_in rs) in
      let ys = sighted m (packets_in more) in
      let sights : sightings (packets_in (rs ++ more)) ≡ xs ++ ys =
      ap (λ (ps : List Packet). sightings ps) (packets_append rs more) ∙ sighted-append no_moments (packets_in rs) (packets_in more)
      ∙ ap (λ (k : Moments). xs ++ sighted k (packets_in more)) (sym e) in
      subst (λ (text : List ℕ). WritesFront written written_after text)
      (append_assoc out (said t p xs) (said t (state t p xs) ys)
      ∙ ap (λ (l : List ℕ). out ++ l) (sym (said-append t p xs ys) ∙ ap (λ (l : List Sighting). said t p l) (sym sights)))
      (drained_front written written_mid written_after (out ++ said t p xs) (said t (state t p xs) ys) held d f)

  -- ---- what was read

  -- the capture is at its end
  was_ended : (t : Texts P) (Begun Stands : P → Type 0) (reader : CaptureState) (m : Moments) (out held : List ℕ) (left mid left_after written written_mid : Option (List ℕ)) (Q : List Packet → Type 0)
      (s : Stood t Begun Stands reader m out held left mid written written_mid)
      → ReadsOn reader.format reader.held mid left_after (λ bytes. IsAtEnd reader.format bytes × IsSpent left_after) → Q (packets_in s.records) → WasCaptured left left_after None Q
  unfolding captured_of
  was_ended t Begun Stands reader m out held left mid left_after written written_mid Q s read q =
      let all = s.all ++ read.more in
      let came = Gives-append left mid left_after s.all read.more s.came read.given in
      let walked = came_with t Begun Stands reader m out held read.more left mid left_after written written_mid s in
      let captured = captured_of all s.records reader.format (reader.held ++ read.more) None walked read.holds.0 in
      record {
        bytes = all;
        packets = packets_in s.records;
        given = came;
        captured = captured;
        few = few_walked all s.records reader.format (reader.held ++ read.more) walked read.few;
        content = content_spent left left_after all (packets_in s.records) None came read.holds.1 captured;
        holds = q;
      }

  -- its next record is refused
  was_refused : (t : Texts P) (Begun Stands : P → Type 0) (reader : CaptureState) (m : Moments) (out held : List ℕ) (left mid left_after written written_mid : Option (List ℕ)) (Q : List Packet → Type 0) (kind : CaptureKind) (n : ℕ)
      (s : Stood t Begun Stands reader m out held left mid written written_mid) → length s.records + 1 ≡ n
      → ReadsOn reader.format reader.held mid left_after (λ bytes. IsRefused kind reader.format bytes × ((told reader.format bytes ≡ refused kind) ⊎ IsSpent left_after))
      → Q (packets_in s.records) → WasCaptured left left_after (refusal_at n kind) Q
  unfolding captured_of
  was_refused t Begun Stands reader m out held left mid left_after written written_mid Q kind n s number read q =
      let all = s.all ++ read.more in
      let rest = reader.held ++ read.more in
      let came = Gives-append left mid left_after s.all read.more s.came read.given in
      let walked = came_with t Begun Stands reader m out held read.more left mid left_after written written_mid s in
      let captured = captured_of all s.records reader.format rest (refusal_at (length s.records + 1) kind) walked (refl, read.holds.0) in
      subst (λ (k : ℕ). WasCaptured left left_after (refusal_at k kind) Q) number
      (record {
        bytes = all;
        packets = packets_in s.records;
        given = came;
        captured = captured;
        few = few_walked all s.records reader.format rest walked read.few;
        content = content_cut left left_after all s.records reader.format rest kind came walked captured read.holds.1;
        holds = q;
      })

  -- these bytes came behind the records so far
  was_read : (t : Texts P) (Begun Stands : P → Type 0) (reader : CaptureState) (m : Moments) (out held more : List ℕ) (left mid left_after written written_mid : Option (List ℕ)) (Q : List Read → Format → List ℕ → Type 0)
      (s : Stood t Begun Stands reader m out held left mid written written_mid) → Gives mid left_after more → length (reader.held ++ more) ≤ most_held → Q s.records reader.format (reader.held ++ more)
      → WasRead left left_after Q
  was_read t Begun Stands reader m out held more left mid left_after written written_mid Q s came few q = record {
    bytes = s.all ++ more;
    records = s.records;
    now = reader.format;
    rest = reader.held ++ more;
    given = Gives-append left mid left_after s.all more s.came came;
    walks = came_with t Begun Stands reader m out held more left mid left_after written written_mid s;
    few = few;
    holds = q;
  }

  -- ---- a run that stops short

  ended_short : (t : Texts P) (Begun Stands : P → Type 0) (reader : CaptureState) (m : Moments) (out held : List ℕ) (left mid left_after : Option (List ℕ)) (reads reads_mid reads_after : ℕ) (written written_mid written_after : Option (List ℕ))
      (end : CaptureEnd) (s : Stood t Begun Stands reader m out held left mid written written_mid) → reads_mid ≡ reads
      → ReadsOn reader.format reader.held mid left_after (λ bytes. CauseOfEnd end reader.format bytes left_after reads_mid reads_after) → (p : P) → Begun p
      → WritesFront written_mid written_after (held ++ rest_text t (state t p (sightings (packets_in s.records))) end)
      → StopsShort (λ xs. out ++ whole t p xs) (λ xs. out ++ broken t p xs) left left_after reads reads_after written written_after
  ended_short t Begun Stands reader m out held left mid left_after reads reads_mid reads_after written written_mid written_after Ended s e read p begun front =
      let xs = sightings (packets_in s.records) in
      let end = t.finish (state t p xs) ++ t.close (state t p xs) in
      at_end None
      (was_ended t Begun Stands reader m out held left mid left_after written written_mid (λ packets. WritesFront written written_after (out ++ whole t p (sightings packets))) s read
      (subst (λ (text : List ℕ). WritesFront written written_after text) (append_assoc out (said t p xs) end)
      (drained_front written written_mid written_after (out ++ said t p xs) end held (s.drained p begun) front)))
  ended_short t Begun Stands reader m out held left mid left_after reads reads_mid reads_after written written_mid written_after (Refused kind) s e read p begun front =
      let xs = sightings (packets_in s.records) in
      let end = t.finish (state t p xs) ++ t.close (state t p xs) in
      at_end (refusal_at (length s.records + 1) kind)
      (was_refused t Begun Stands reader m out held left mid left_after written written_mid (λ packets. WritesFront written written_after (out ++ whole t p (sightings packets))) kind (length s.records + 1) s refl read
      (subst (λ (text : List ℕ). WritesFront written written_after text) (append_assoc out (said t p xs) end)
      (drained_front written written_mid written_after (out ++ said t p xs) end held (s.drained p begun) front)))
  ended_short t Begun Stands reader m out held left mid left_after reads reads_mid reads_after written written_mid written_after capture_end.ReadFault s e read p begun front =
      let xs = sightings (packets_in s.records) in
      at_fault (subst (λ (k : ℕ). Rose k reads_after) e read.holds.1)
      (was_read t Begun Stands reader m out held read.more left mid left_after written written_mid
      (λ records now rest. IsOpen now rest × WritesFront written written_after (out ++ broken t p (sightings (packets_in records)))) s read.given read.few (
        read.holds.0,
        subst (λ (text : List ℕ). WritesFront written written_after text) (append_assoc out (said t p xs) (t.finish (state t p xs)))
            (drained_front written written_mid written_after (out ++ said t p xs) (t.finish (state t p xs)) held (s.drained p begun) front),
      ))

  broken_off : (t : Texts P) (Begun Stands : P → Type 0) (reader : CaptureState) (m : Moments) (out held : List ℕ) (left mid left_after : Option (List ℕ)) (reads reads_after : ℕ) (written written_mid written_after : Option (List ℕ))
      → Stood t Begun Stands reader m out held left mid written written_mid → BreaksOff t Stands reader m held mid left_after written_mid written_after → (p : P) → Begun p
      → StopsShort (λ xs. out ++ whole t p xs) (λ xs. out ++ broken t p xs) left left_after reads reads_after written written_after
  broken_off t Begun Stands reader m out held left mid left_after reads reads_after written written_mid written_after s b p begun =
      let all = s.all ++ b.more in
      between
      (record {
        bytes = all;
        records = s.records ++ b.records;
        now = b.now;
        rest = b.rest;
        given = Gives-append left mid left_after s.all b.more s.came b.given;
        walks = walks_on fresh all s.records reader.format (reader.held ++ b.more) b.records b.now b.rest (came_with t Begun Stands reader m out held b.more left mid left_after written written_mid s) b.walks;
        few = b.few;
        holds = λ more.
            front_on t p out (packets_in (s.records ++ b.records)) more written written_after
            (front_written t p m s.records b.records out held written written_mid written_after s.moments (s.drained p begun) (b.front (state t p (sightings (packets_in s.records))) (s.told p begun)));
      })

  pub stood_ends : (t : Texts P) (Begun Stands : P → Type 0) (reader : CaptureState) (m : Moments) (out held : List ℕ)
      (left mid left_after : Option (List ℕ)) (reads reads_mid reads_after : ℕ) (written written_mid written_after : Option (List ℕ)) (writes writes_mid writes_after : ℕ) (ending : Ending)
      → Stood t Begun Stands reader m out held left mid written written_mid → reads_mid ≡ reads → writes_mid ≡ writes
      → TurnEnds t Stands ending reader m held mid left_after reads_mid reads_after written_mid written_after writes_mid writes_after
      → (p : P) → Begun p
      → RunEnds (λ xs. out ++ whole t p xs) (λ xs. out ++ broken t p xs) (tells t p) ending left left_after reads reads_after written written_after writes writes_after
  stood_ends t Begun Stands reader m out held left mid left_after reads reads_mid reads_after written written_mid written_after writes writes_mid writes_after (Done told) s e f turn p begun =
      let h = turn.1 (state t p (sightings (packets_in s.records))) (s.told p begun) in
      was_ended t Begun Stands reader m out held left mid left_after written written_mid
      (λ packets. (told ≡ tells t p (sightings packets)) × Appends written written_after (out ++ whole t p (sightings packets))) s turn.0
      (h.0, whole_written t Begun Stands p (sightings (packets_in s.records)) out held written written_mid written_after (s.drained p begun) h.1)
  stood_ends t Begun Stands reader m out held left mid left_after reads reads_mid reads_after written written_mid written_after writes writes_mid writes_after (BadCapture n kind) s e f turn p begun =
      let number : length s.records + 1 ≡ n = omega (arith, turn.0, s.count) in
      was_refused t Begun Stands reader m out held left mid left_after written written_mid (λ packets. Appends written written_after (out ++ whole t p (sightings packets))) kind n s number turn.1
      (whole_written t Begun Stands p (sightings (packets_in s.records)) out held written written_mid written_after (s.drained p begun) (turn.2 (state t p (sightings (packets_in s.records))) (s.told p begun)))
  stood_ends t Begun Stands reader m out held left mid left_after reads reads_mid reads_after written written_mid written_after writes writes_mid writes_after ReadFault s e f turn p begun = (
    subst (λ (k : ℕ). Rose k reads_after) e turn.0,
    was_read t Begun Stands reader m out held turn.1.more left mid left_after written written_mid
        (λ records now rest. IsOpen now rest × Appends written written_after (out ++ broken t p (sightings (packets_in records)))) s turn.1.given turn.1.few
        (turn.1.holds, broken_written t p (sightings (packets_in s.records)) out held written written_mid written_after (s.drained p begun) (turn.2 (state t p (sightings (packets_in s.records))) (s.told p begun))),
  )
  stood_ends t Begun Stands reader m out held left mid left_after reads reads_mid reads_after written written_mid written_after writes writes_mid writes_after WriteFault s e f (rose, inl short) p begun = (
    subst (λ (k : ℕ). Rose k writes_after) f rose,
    ended_short t Begun Stands reader m out held left mid left_after reads reads_mid reads_after written written_mid written_after short.end s e short.read p begun
        (short.front (state t p (sightings (packets_in s.records))) (s.told p begun)),
  )
  stood_ends t Begun Stands reader m out held left mid left_after reads reads_mid reads_after written written_mid written_after writes writes_mid writes_after WriteFault s e f (rose, inr off) p begun =
      (subst (λ (k : ℕ). Rose k writes_after) f rose, broken_off t Begun Stands reader m out held left mid left_after reads reads_after written written_mid written_after s off p begun)
  stood_ends t Begun Stands reader m out held left mid left_after reads reads_mid reads_after written written_mid written_after writes writes_mid writes_after NoMemory s e f turn p begun =
      between
      (was_read t Begun Stands reader m out held turn.more left mid left_after written written_mid
      (λ records now rest. (more : List Packet) → WritesFront written written_after (out ++ whole t p (sightings (packets_in records ++ more)))) s turn.given turn.few
      (λ more. front_on t p out (packets_in s.records) more written written_after
      (still_front (out ++ said t p (sightings (packets_in s.records))) held written written_mid written_after (s.drained p begun) turn.unwritten)))

-- a run that had no memory to begin
pub run_none : {P : Type 0} (t : Texts P) (p : P) (out : List ℕ) (left : Option (List ℕ)) (reads : ℕ) (written : Option (List ℕ)) (writes : ℕ)
    → RunEnds (λ xs. out ++ whole t p xs) (λ xs. out ++ broken t p xs) (tells t p) NoMemory left left reads reads written written writes writes
run_none t p out left reads written writes =
    between
    (record {
      bytes = [];
      records = [];
      now = fresh;
      rest = [];
      given = Gives-same left;
      walks = (refl, refl);
      few = omega arith;
      holds = λ more. front_none written written (out ++ whole t p (sightings more)) refl;
    })

-- ---- one turn

abbrev reads_weaker : (format : Format) (held : List ℕ) (left left_after : Option (List ℕ)) (P Q : List ℕ → Type 0) → ((bytes : List ℕ) → P bytes → Q bytes) → ReadsOn format held left left_after P → ReadsOn format held left left_after Q
reads_weaker format held left left_after P Q f r = record { more = r.more; given = r.given; first = r.first; few = r.few; holds = f (held ++ r.more) r.holds }

ended_by : (end is : CaptureEnd) (reader reader_after : CaptureState) (left left_after : Option (List ℕ)) (reads reads_after : ℕ) → end ≡ is
    → Nexts (Err end) reader reader_after left left_after reads reads_after
    → ReadsOn reader.format reader.held left left_after (λ bytes. CauseOfEnd is reader.format bytes left_after reads reads_after)
ended_by end is reader reader_after left left_after reads reads_after e n =
    subst (λ (x : CaptureEnd). ReadsOn reader.format reader.held left left_after (λ bytes. CauseOfEnd x reader.format bytes left_after reads reads_after)) e
    (reads_weaker reader.format reader.held left left_after
    (λ bytes. CauseOfEnd end reader.format bytes left_after reads reads_after × walking.Stays reader reader_after bytes)
    (λ bytes. CauseOfEnd end reader.format bytes left_after reads reads_after) (λ bytes h. h.0) n)

module _ {P : Type 0} where
  -- no further record came
  pub turn_ended : (t : Texts P) (Stands : P → Type 0) (end : CaptureEnd) (n : ℕ) (ending : Ending) (reader reader_after : CaptureState) (m : Moments) (held : List ℕ)
      (left left_after : Option (List ℕ)) (reads reads_after : ℕ) (written written_after : Option (List ℕ)) (writes writes_after : ℕ)
      → n ≡ reader.records → Nexts (Err end) reader reader_after left left_after reads reads_after
      → EndsWith t Stands end n ending held written written_after writes writes_after
      → TurnEnds t Stands ending reader m held left left_after reads reads_after written written_after writes writes_after
  turn_ended t Stands end n (Done told) reader reader_after m held left left_after reads reads_after written written_after writes writes_after c nexts ends =
      (ended_by end Ended reader reader_after left left_after reads reads_after ends.0 nexts, ends.1)
  turn_ended t Stands end n (BadCapture number kind) reader reader_after m held left left_after reads reads_after written written_after writes writes_after c nexts ends =
      (omega (arith, ends.1, c), ended_by end (Refused kind) reader reader_after left left_after reads reads_after ends.0 nexts, ends.2)
  turn_ended t Stands end n ReadFault reader reader_after m held left left_after reads reads_after written written_after writes writes_after c nexts ends =
      let r = ended_by end capture_end.ReadFault reader reader_after left left_after reads reads_after ends.0 nexts in (
        r.holds.1,
        reads_weaker reader.format reader.held left left_after (λ bytes. CauseOfEnd capture_end.ReadFault reader.format bytes left_after reads reads_after) (λ bytes. IsOpen reader.format bytes) (λ bytes h. h.0) r,
        ends.1,
      )
  turn_ended t Stands end n WriteFault reader reader_after m held left left_after reads reads_after written written_after writes writes_after c nexts ends =
      (ends.0, inl (record { end = end; read = ended_by end end reader reader_after left left_after reads reads_after refl nexts; front = ends.1 }))
  turn_ended t Stands end n NoMemory reader reader_after m held left left_after reads reads_after written written_after writes writes_after c nexts ends =
      record { more = nexts.more; given = nexts.given; few = nexts.few; unwritten = ends }

  -- a record came, and its text wasn't written whole
  pub turn_broken : (t : Texts P) (Stands Stands_after : P → Type 0) (reader reader_after : CaptureState) (m : Moments) (held held_mid : List ℕ)
      (left left_after written written_after : Option (List ℕ)) (reads reads_after writes writes_after : ℕ)
      → Nexts (Ok tt) reader reader_after left left_after reads reads_after
      → ((p : P) → Stands p → Tells t p (sighted m (with_packet reader_after.packet [])) Stands_after held held_mid)
      → Rose writes writes_after → WritesFront written written_after held_mid
      → TurnEnds t Stands WriteFault reader m held left left_after reads reads_after written written_after writes writes_after
  turn_broken t Stands Stands_after reader reader_after m held held_mid left left_after written written_after reads reads_after writes writes_after nexts tells rose front =
      let r = read_with nexts.1.holds.size reader_after.format reader_after.packet in (
        rose,
        inr
            (record {
              more = nexts.1.more;
              given = nexts.1.given;
              records = r ∷ [];
              now = reader_after.format;
              rest = drop nexts.1.holds.size (reader.held ++ nexts.1.more);
              walks = (nexts.1.holds.told_so, (refl, refl));
              few = few_behind reader.held nexts.1.more (drop nexts.1.holds.size (reader.held ++ nexts.1.more)) nexts.1.holds.size refl nexts.1.few;
              front = λ p stands. subst (λ (text : List ℕ). WritesFront written written_after text) (tells p stands).added front;
            }),
      )

  -- a record came, its packet was told of, and some text was written
  pub turn_goes : (t : Texts P) (Stands Stands_after : P → Type 0) (reader reader_after : CaptureState) (m m_after : Moments) (held held_mid held_after : List ℕ)
      (left left_after written written_after : Option (List ℕ)) (reads reads_after : ℕ)
      → Nexts (Ok tt) reader reader_after left left_after reads reads_after → reader.records < 2 ^ 64 - 1
      → m_after ≡ moments_behind m (with_packet reader_after.packet [])
      → ((p : P) → Stands p → Tells t p (sighted m (with_packet reader_after.packet [])) Stands_after held held_mid)
      → Drains written written_after held_mid held_after
      → GoesOn t Stands Stands_after reader reader_after m m_after held held_after left left_after written written_after
  turn_goes t Stands Stands_after reader reader_after m m_after held held_mid held_after left left_after written written_after reads reads_after nexts few moments tells drains = record {
    records = omega (arith, nexts.0, few);
    read = nexts.1;
    moments = moments;
    told = λ p stands. (tells p stands).stands;
    drained = λ p stands. subst (λ (text : List ℕ). Drains written written_after text held_after) (tells p stands).added drains;
  }

-- ---- what the bytes decide

answers_by : (whole_text broken_text : List Sighting → List ℕ) (some : List Sighting → Bool) (ending : Ending) (l : List ℕ) (left_after : Option (List ℕ)) (reads reads_after : ℕ) (written written_after : Option (List ℕ)) (writes writes_after : ℕ)
    → RunEnds whole_text broken_text some ending (Some l) left_after reads reads_after written written_after writes writes_after → AnswersContent some ending l
answers_by whole_text broken_text some (Done told) l left_after reads reads_after written written_after writes writes_after h packets end c =
    let same = captures_are_one.one l packets h.packets end None c h.content in
    (same.1, h.holds.0 ∙ ap (λ (ps : List Packet). some (sightings ps)) (sym same.0))
answers_by whole_text broken_text some (BadCapture n kind) l left_after reads reads_after written written_after writes writes_after h packets end c =
    (captures_are_one.one l packets h.packets end (refusal_at n kind) c h.content).1
answers_by whole_text broken_text some ReadFault l left_after reads reads_after written written_after writes writes_after h packets end c = tt
answers_by whole_text broken_text some WriteFault l left_after reads reads_after written written_after writes writes_after h packets end c = tt
answers_by whole_text broken_text some NoMemory l left_after reads reads_after written written_after writes writes_after h packets end c = tt

pub answers_told : (whole_text broken_text : List Sighting → List ℕ) (some : List Sighting → Bool) (ending : Ending) (left left_after : Option (List ℕ)) (reads reads_after : ℕ) (written written_after : Option (List ℕ)) (writes writes_after : ℕ)
    → RunEnds whole_text broken_text some ending left left_after reads reads_after written written_after writes writes_after → IfTold left (λ content. AnswersContent some ending content)
answers_told whole_text broken_text some ending None left_after reads reads_after written written_after writes writes_after h = tt
answers_told whole_text broken_text some ending (Some l) left_after reads reads_after written written_after writes writes_after h =
    answers_by whole_text broken_text some ending l left_after reads reads_after written written_after writes writes_after h

pub if_ok : {A E : Type 0} (r : Result A E) (P : Type 0) → OnOk r P → false ≡ is_err r → P
if_ok (Ok x) P h e = h
if_ok (Err x) P h e = absurd (cc)

-- ---- texts by other words

read_as_well : (left left_after : Option (List ℕ)) (P Q : List Read → Format → List ℕ → Type 0) → ((rs : List Read) (now : Format) (rest : List ℕ) → P rs now rest → Q rs now rest)
    → WasRead left left_after P → WasRead left left_after Q
read_as_well left left_after P Q f r =
    record { bytes = r.bytes; records = r.records; now = r.now; rest = r.rest; given = r.given; walks = r.walks; few = r.few; holds = f r.records r.now r.rest r.holds }

captured_as_well : (left left_after : Option (List ℕ)) (end : Option Refusal) (P Q : List Packet → Type 0) → ((ps : List Packet) → P ps → Q ps) → WasCaptured left left_after end P → WasCaptured left left_after end Q
captured_as_well left left_after end P Q f r =
    record { bytes = r.bytes; packets = r.packets; given = r.given; captured = r.captured; few = r.few; content = r.content; holds = f r.packets r.holds }

short_as : (w v b d : List Sighting → List ℕ) → ((xs : List Sighting) → w xs ≡ v xs) → ((xs : List Sighting) → b xs ≡ d xs)
    → (left left_after : Option (List ℕ)) (reads reads_after : ℕ) (written written_after : Option (List ℕ))
    → StopsShort w b left left_after reads reads_after written written_after → StopsShort v d left left_after reads reads_after written written_after
short_as w v b d e f left left_after reads reads_after written written_after (at_end end h) =
    at_end end
    (captured_as_well left left_after end (λ ps. WritesFront written written_after (w (sightings ps))) (λ ps. WritesFront written written_after (v (sightings ps)))
    (λ ps. subst (λ (t : List ℕ). WritesFront written written_after t) (e (sightings ps))) h)
short_as w v b d e f left left_after reads reads_after written written_after (at_fault rose h) =
    at_fault rose
    (read_as_well left left_after
    (λ rs now rest. IsOpen now rest × WritesFront written written_after (b (sightings (packets_in rs))))
    (λ rs now rest. IsOpen now rest × WritesFront written written_after (d (sightings (packets_in rs))))
    (λ rs now rest g. (g.0, subst (λ (t : List ℕ). WritesFront written written_after t) (f (sightings (packets_in rs))) g.1)) h)
short_as w v b d e f left left_after reads reads_after written written_after (between h) =
    between
    (read_as_well left left_after
    (λ rs now rest. (more : List Packet) → WritesFront written written_after (w (sightings (packets_in rs ++ more))))
    (λ rs now rest. (more : List Packet) → WritesFront written written_after (v (sightings (packets_in rs ++ more))))
    (λ rs now rest g more. subst (λ (t : List ℕ). WritesFront written written_after t) (e (sightings (packets_in rs ++ more))) (g more)) h)

pub ends_as : (w v b d : List Sighting → List ℕ) (some other : List Sighting → Bool) → ((xs : List Sighting) → w xs ≡ v xs) → ((xs : List Sighting) → b xs ≡ d xs) → ((xs : List Sighting) → some xs ≡ other xs)
    → (ending : Ending) (left left_after : Option (List ℕ)) (reads reads_after : ℕ) (written written_after : Option (List ℕ)) (writes writes_after : ℕ)
    → RunEnds w b some ending left left_after reads reads_after written written_after writes writes_after → RunEnds v d other ending left left_after reads reads_after written written_after writes writes_after
ends_as w v b d some other e f g (Done told) left left_after reads reads_after written written_after writes writes_after h =
    captured_as_well left left_after None
    (λ ps. (told ≡ some (sightings ps)) × Appends written written_after (w (sightings ps))) (λ ps. (told ≡ other (sightings ps)) × Appends written written_after (v (sightings ps)))
    (λ ps k. (k.0 ∙ g (sightings ps), subst (λ (t : List ℕ). Appends written written_after t) (e (sightings ps)) k.1)) h
ends_as w v b d some other e f g (BadCapture n kind) left left_after reads reads_after written written_after writes writes_after h =
    captured_as_well left left_after (refusal_at n kind) (λ ps. Appends written written_after (w (sightings ps))) (λ ps. Appends written written_after (v (sightings ps)))
    (λ ps. subst (λ (t : List ℕ). Appends written written_after t) (e (sightings ps))) h
ends_as w v b d some other e f g ReadFault left left_after reads reads_after written written_after writes writes_after h = (
  h.0,
  read_as_well left left_after
      (λ rs now rest. IsOpen now rest × Appends written written_after (b (sightings (packets_in rs)))) (λ rs now rest. IsOpen now rest × Appends written written_after (d (sightings (packets_in rs))))
      (λ rs now rest k. (k.0, subst (λ (t : List ℕ). Appends written written_after t) (f (sightings (packets_in rs))) k.1)) h.1,
)
ends_as w v b d some other e f g WriteFault left left_after reads reads_after written written_after writes writes_after h =
    (h.0, short_as w v b d e f left left_after reads reads_after written written_after h.1)
ends_as w v b d some other e f g NoMemory left left_after reads reads_after written written_after writes writes_after h = short_as w v b d e f left left_after reads reads_after written written_after h
