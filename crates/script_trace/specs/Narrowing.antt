-- Lines of a script of version 2 whose datagrams are those of other lines, with standard identifiers.
use Rattle.std.specs.Prelude.{◌≡◌, ◌≢◌, ⊤, ℕ, ◌≤◌, ◌^◌, ◌==◌, max, not, true, Bool, List, [], ◌∷◌, ◌++◌, codes, Ok}
use Rattle.std.specs.List.{AllByRecursion, filter, starts_with}
use Rattle.hex.specs.Hex.{decode_of, encode_lower}
use Rattle.stream_packets.specs.Packets.{StreamPacket, head_of}
use Rattle.gvsp_wire.specs.Plain.{plain}
use Rattle.gvsp_std.specs.Narrowed.{std_plain, MayNarrow}
use Rattle.gev_script.specs.Lines as line
use Rattle.gev_script.specs.Lines.{ScriptLine}
use Rattle.gev_script.specs.Words.{parts_of}
use Rattle.acquisition_machine.specs.declared.config.AcqConfig.{AcqConfig}
use Rattle.script_trace.specs.Trace.{Trace, Part, board, grown}
use Rattle.script_trace.specs.Adding.{AddsPart, Leads}
use Rattle.script_trace.specs.Wide.{Wide, itself, meaning, Does, kept_behind}

-- These lines lead from one trace to another, with this kept beside it, and have this report.
abbrev pub LeadsWide : AcqConfig → Wide → Trace → List ScriptLine → List ℕ → Wide → Trace → Type 0
LeadsWide c w t [] report v new = (report ≡ []) × (v ≡ w) × (new ≡ t)
LeadsWide c w t (l ∷ lines) report v new =
    (first : List ℕ) × (kept : Wide) × (mid : Trace) × (rest : List ℕ)
    × Does c w t l first kept mid × LeadsWide c (kept_behind kept t mid) mid lines rest v new × (report ≡ first ++ rest)

-- Behind this trace the second line is the first one narrowed, and this is kept after it.
pub data Narrows (w : Wide) (t : Trace) : ScriptLine → ScriptLine → Wide → Type 0 where
  -- the same line, which isn't widened: no datagram, an idle one, or one with extended identifiers
  stays : (l : ScriptLine) → meaning w t l ≡ itself → Narrows w t l l w
  -- the datagram of a packet whose 16 bits stand for its block, while the stream runs
  packet : (x : StreamPacket) (digits : List ℕ) → w.version ≡ 2 → (board t).run ≡ 1 → w.top ≤ 2 ^ 63 → MayNarrow w.top (x ∷ []) → decode_of digits ≡ Ok (std_plain x)
      → Narrows w t (line.datagram (encode_lower (plain x))) (line.datagram digits) (record w { top = max w.top (head_of x).block; widened = true })
  -- a datagram that comes while the stream doesn't run, whatever the bytes of both are
  idle : (digits other bytes shorter : List ℕ) → (board t).run ≢ 1 → decode_of digits ≡ Ok bytes → decode_of other ≡ Ok shorter → Narrows w t (line.datagram digits) (line.datagram other) w

-- The lines lead to a trace, along which the others are these lines narrowed.
abbrev pub NarrowsAll : AcqConfig → Wide → Trace → List ScriptLine → List ScriptLine → Wide → Trace → Type 0
NarrowsAll c w t [] [] v new = (v ≡ w) × (new ≡ t)
NarrowsAll c w t (l ∷ lines) (m ∷ others) v new =
    (part : Part) × (kept : Wide) × AddsPart c t l part × Narrows w t l m kept × NarrowsAll c (kept_behind kept t (grown t part)) (grown t part) lines others v new
NarrowsAll c w t [] (m ∷ others) v new = ⊥
NarrowsAll c w t (l ∷ lines) [] v new = ⊥

-- the line's first word is `request`
abbrev pub is_request_line : List ℕ → Bool
is_request_line line = starts_with (λ a b. a == b) line (codes "request ")

-- the other lines of a report, in order, each without its line feed
abbrev pub other_lines : List ℕ → List (List ℕ)
other_lines report = filter (λ line. not (is_request_line line)) (parts_of 10 report)

-- The line makes no request.
abbrev pub IsNoMoment : ScriptLine → Type 0
IsNoMoment (line.tick moment) = ⊥
IsNoMoment _ = ⊤

-- Both lead to one trace, and their reports are the same but for lines that begin with `request `.
pub record RunAlike (c : AcqConfig) (w : Wide) (t : Trace) (lines others : List ScriptLine) (v : Wide) (new : Trace) : Type 0 where
  pub extended : Leads c t lines new
  pub report : List ℕ
  pub narrowed : LeadsWide c w t others report v new
  pub none_refused : v.refused ≡ w.refused
  pub said : List ℕ
  pub extended_said : new.text ≡ t.text ++ said
  pub same_but_requests : other_lines said ≡ other_lines report
  pub same_report : AllByRecursion IsNoMoment lines → new.text ≡ t.text ++ report

abbrev pub NarrowedRunAlike : Type 0
NarrowedRunAlike =
    (c : AcqConfig) (w : Wide) (t : Trace) (lines others : List ScriptLine) (v : Wide) (new : Trace)
    → NarrowsAll c w t lines others v new → RunAlike c w t lines others v new
