-- What lines that drive the acquisition add is what the definitions compute.
use Rattle.std.proofs.Common.{◌≡◌, ℕ, Bool, true, false, List, [], ◌∷◌, ◌++◌, refl, sym, ap, subst, ◌∙◌}
use Rattle.std.specs.Prelude.{Option, None, Some, slice_get, slice_index_or}
use Rattle.gentl_types.specs.declared.word.Word.{Word}
use Rattle.board_machine.specs.declared.events.Entry.{Entry}
use Rattle.board_machine.specs.declared.events.Event.{Event}
use Rattle.board_machine.specs.declared.events.Event.TheVariants.{Claim}
use Rattle.board_machine.specs.Machine.{Board, Meets, empty_board, vacant}
use Rattle.board_machine.specs.Adding.{entries_of}
use Rattle.board_machine.specs.Histories.{after_from, RunsFrom, After}
use Rattle.board_machine.proofs.Adding.{entries_of-append}
use Rattle.board_machine.proofs.Runs.{after-append, runs_rest, runs_front}
use Rattle.board_calls.specs.Rounds.{filled_or_laid}
use Rattle.acquisition_machine.specs.declared.retired.Retired.{Retired}
use Rattle.acquisition_machine.specs.Blocks.{fills}
use Rattle.acquisition_machine.specs.Machine.{State, Input, step, datagram, claimed}
use Rattle.acquisition_machine.specs.Runs.{first_state, After as AcqAfter}
use Rattle.acquisition_machine.proofs.Joining.{after_from-append}
use Rattle.script_trace.specs.Trace.{Trace, Part, board, grown, acquirer}
use Rattle.block_fills.specs.Fills.{FillsRetired}
use Rattle.board_calls.specs.declared.mode.Mode.{Mode}
use Rattle.board_calls.specs.declared.mode.Mode.TheVariants.{OldestFirst}
use Rattle.board_calls.specs.Modes.{ClaimsOnly, ClaimsFor}
use Rattle.script_trace.specs.Modes.{FillsBlock, FillsInMode, place_of}
use Rattle.script_trace.proofs.Quiet.{BlockParts, block_parts}
use Rattle.script_trace.specs.StreamLines.{Settles, Hears, retired_by, tells, told_twice, outcome}
use Rattle.world_laws.specs.Receiver.{Receiver, soak_config, told, told_again, claims, claim_of, acts_on, fills_all}
use Rattle.soak_receiver.specs.Moves.{IsLeft}
use Rattle.soak_receiver.proofs.Fillings.{LeavesOpen, fills_compute, fills_leave}
use Rattle.soak_receiver.proofs.Moving.{left_at}

-- ---- one input

-- the acquisition after one more input
one_input : (q : List Input) (i : Input) → (step soak_config (AcqAfter soak_config q) i).after ≡ AcqAfter soak_config (q ++ i ∷ [])
one_input q i = sym (after_from-append soak_config first_state q (i ∷ []))

-- the board after more entries
more_entries : (t : Trace) (es : List Entry) → After (t.entries ++ es) ≡ after_from (board t) es
more_entries t es = after-append empty_board t.entries es

told_left : (t : Trace) (i : Input) (events : List Event) (said : List ℕ) (r : Receiver) → FillsRetired (retired_by soak_config t.inputs i) events → RunsFrom (board t) (entries_of acquirer events)
    → IsLeft (grown t (tells t [] i events said)) (told i (left_at t r))
told_left t i events said r filled runs = record {
  acquisition = one_input t.inputs i;
  board = sym (more_entries t (entries_of acquirer events) ∙ fills_compute (retired_by soak_config t.inputs i) events (board t) filled runs);
}

-- ---- where waiting buffers stay, nothing is dropped

-- the fills are those of the retired blocks alone
plain_block : (x : Retired) (es : List Event) → FillsBlock OldestFirst x es → (filled : Bool) × (es ≡ filled_or_laid x.place x.buf filled)
plain_block x es block =
    let p : BlockParts OldestFirst x es = block_parts OldestFirst x es block in
    (p.filled, p.is ∙ ap (λ l. l ++ filled_or_laid x.place x.buf p.filled) p.drops.1)

plain_fills : (xs : List Retired) (es : List Event) → FillsInMode OldestFirst xs es → FillsRetired xs es
plain_fills [] es is = is
plain_fills (x ∷ xs) es (first, rest, parts, block, more) =
    let one : (filled : Bool) × (first ≡ filled_or_laid x.place x.buf filled) = plain_block x first block in
    (one.0, rest, parts ∙ ap (λ l. l ++ rest) one.1, plain_fills xs rest more)

fills_of : (mode : Mode) (xs : List Retired) (es : List Event) → mode ≡ OldestFirst → FillsInMode mode xs es → FillsRetired xs es
fills_of mode xs es oldest filled = plain_fills xs es (subst (λ (m : Mode). FillsInMode m xs es) oldest filled)

-- a claim is one alone
only_claim : (claim : Option (ℕ × Bool)) (es : List Event) → ClaimsOnly claim es → es ≡ Claim (place_of claim) ∷ []
only_claim None es is = is
only_claim (Some (i, false)) es is = is
only_claim (Some (i, true)) es is = absurd is

claims_of : (mode : Mode) (claim : Option (ℕ × Bool)) (es : List Event) → mode ≡ OldestFirst → ClaimsFor mode claim es → es ≡ Claim (place_of claim) ∷ []
claims_of mode claim es oldest claims = only_claim claim es (subst (λ (m : Mode). ClaimsFor m claim es) oldest claims)

pub settles_left : (t : Trace) (i : Input) (said : List ℕ) (part : Part) (r : Receiver) → t.mode ≡ OldestFirst → Settles soak_config t [] i said part → RunsFrom (board t) part.entries → IsLeft (grown t part) (told i (left_at t r))
settles_left t i said part r oldest settles runs =
    let now : RunsFrom (board t) (entries_of acquirer settles.events) = subst (λ (p : Part). RunsFrom (board t) p.entries) settles.is runs in
    subst (λ (p : Part). IsLeft (grown t p) (told i (left_at t r))) (sym settles.is) (told_left t i settles.events said r (fills_of t.mode (retired_by soak_config t.inputs i) settles.events oldest settles.filled) now)

-- ---- a claim between

claim_is : (b : Board) (claim : Option ℕ) → Meets b acquirer (Claim claim) → claim ≡ claim_of b
claim_is b None empty = ap (λ pool. slice_get pool 0) (sym empty)
claim_is b (Some i) (rest, is) = ap (λ pool. slice_get pool 0) (sym is)

outcome_same : (b new : Board) (claim : Option ℕ) → new.words ≡ b.words → outcome b claim ≡ outcome new claim
outcome_same b new None same = refl
outcome_same b new (Some i) same = ap (λ (words : List Word). Some (record { place = i; size = (slice_index_or words i vacant).size })) (sym same)

again_left : (t : Trace) (bytes : List ℕ) (first : List Event) (claim : Option ℕ) (second : List Event) (part : Part) (r : Receiver) → (board t).closed ≡ false
    → FillsRetired (retired_by soak_config t.inputs (datagram bytes)) first
    → FillsRetired (retired_by soak_config (t.inputs ++ datagram bytes ∷ claimed (outcome (board t) claim) ∷ []) (datagram bytes)) second
    → RunsFrom (board t) (entries_of acquirer (first ++ Claim claim ∷ second))
    → part.entries ≡ entries_of acquirer (first ++ Claim claim ∷ second) → part.inputs ≡ told_twice t bytes claim
    → IsLeft (grown t part) (told (datagram bytes) (claims (told (datagram bytes) (left_at t r))))
again_left t bytes first claim second part r opened displaced filled runs entries inputs = record {
  acquisition =
      ap (λ g. (step soak_config (step soak_config once.acquisition (claimed g)).after (datagram bytes)).after) (sym given_same)
      ∙ (sym (after_from-append soak_config first_state t.inputs (told_twice t bytes claim)) ∙ ap (λ q. AcqAfter soak_config (t.inputs ++ q)) (sym inputs));
  board =
      sym (ap (λ es. After (t.entries ++ es)) entries
      ∙ (more_entries t (entries_of acquirer (first ++ Claim claim ∷ second))
      ∙ (ap (after_from (board t)) joined
      ∙ (after-append (board t) (entries_of acquirer first) (entries_of acquirer (Claim claim ∷ second))
      ∙ (fills_compute _ second mid filled (runs_rest (board t) (entries_of acquirer first) (entries_of acquirer (Claim claim ∷ second)) both).1
      ∙ (ap (λ (s : State). fills_all (fills soak_config.p (step soak_config s (datagram bytes)).retired) mid) told_so
      ∙ ap (fills_all (fills soak_config.p (step soak_config (claims once).acquisition (datagram bytes)).retired)) mid_is))))));
}
  where
    once : Receiver
    once = told (datagram bytes) (left_at t r)

    joined : entries_of acquirer (first ++ Claim claim ∷ second) ≡ entries_of acquirer first ++ entries_of acquirer (Claim claim ∷ second)
    joined = entries_of-append acquirer first (Claim claim ∷ second)

    both : RunsFrom (board t) (entries_of acquirer first ++ entries_of acquirer (Claim claim ∷ second))
    both = subst (λ (h : List Entry). RunsFrom (board t) h) joined runs

    filled_first : after_from (board t) (entries_of acquirer first) ≡ once.board
    filled_first = fills_compute (retired_by soak_config t.inputs (datagram bytes)) first (board t) displaced (runs_front (board t) (entries_of acquirer first) (entries_of acquirer (Claim claim ∷ second)) both)

    claim_found : claim ≡ claim_of once.board
    claim_found =
        claim_is (after_from (board t) (entries_of acquirer first)) claim (runs_rest (board t) (entries_of acquirer first) (entries_of acquirer (Claim claim ∷ second)) both).0.meets
        ∙ ap claim_of filled_first

    mid : Board
    mid = acts_on acquirer (Claim claim ∷ []) (after_from (board t) (entries_of acquirer first))

    mid_is : mid ≡ (claims once).board
    mid_is =
        ap (acts_on acquirer (Claim claim ∷ [])) filled_first
        ∙ ap (λ (found : Option ℕ). acts_on acquirer (Claim found ∷ []) once.board) claim_found

    given_same : outcome (board t) claim ≡ outcome once.board (claim_of once.board)
    given_same =
        let leaves : LeavesOpen (board t) once.board = fills_leave (retired_by soak_config t.inputs (datagram bytes)) (board t) opened in
        outcome_same (board t) once.board claim leaves.words ∙ ap (outcome once.board) claim_found

    told_so : AcqAfter soak_config (t.inputs ++ datagram bytes ∷ claimed (outcome (board t) claim) ∷ []) ≡ (claims once).acquisition
    told_so =
        after_from-append soak_config first_state t.inputs (datagram bytes ∷ claimed (outcome (board t) claim) ∷ [])
        ∙ ap (λ g. (step soak_config once.acquisition (claimed g)).after) given_same

-- ---- a datagram

pub hears_left : (t : Trace) (bytes : List ℕ) (asked : Option ℕ) (part : Part) (r : Receiver) → t.mode ≡ OldestFirst → (board t).closed ≡ false → Hears soak_config t bytes asked part → RunsFrom (board t) part.entries
    → IsLeft (grown t part) (told_again asked bytes (told (datagram bytes) (left_at t r)))
hears_left t bytes None part r oldest opened heard runs = settles_left t (datagram bytes) [] part r oldest heard runs
hears_left t bytes (Some block) part r oldest opened heard runs =
    again_left t bytes heard.first (place_of heard.claim) heard.second part r opened (fills_of t.mode _ heard.first oldest heard.displaced) (fills_of t.mode _ heard.second oldest heard.filled)
    (subst (λ (es : List Entry). RunsFrom (board t) es) entries runs) entries (ap (λ (p : Part). p.inputs) heard.is)
  where
    entries : part.entries ≡ entries_of acquirer (heard.first ++ Claim (place_of heard.claim) ∷ heard.second)
    entries =
        ap (λ (p : Part). p.entries) heard.is
        ∙ ap (λ es. entries_of acquirer (heard.first ++ (es ++ heard.second))) (claims_of t.mode heard.claim heard.claims oldest heard.got)
