-- The moves of turns are what the control link sent and heard.
use Rattle.std.proofs.Common.{◌≡◌, ◌≢◌, ℕ, List, [], ◌∷◌, ◌++◌, Option, Some, None, refl, ap, sym, ◌∙◌}
use Rattle.std.proofs.lemmas.List.{append-nil}
use Rattle.std.specs.Prelude.{⊤}
use Rattle.client_machine.specs.Machine.{Client}
use Rattle.acquisition_machine.specs.declared.config.AcqConfig.{AcqConfig}
use Rattle.acquisition_machine.specs.Machine.{Input}
use Rattle.gev_links.specs.Links.{Address, Answer, nothing, failed, came}
use Rattle.gev_control.specs.declared.turn_end.TurnEnd.{TurnEnd}
use Rattle.gev_control.specs.declared.turn_end.TurnEnd.TheVariants as ends
use Rattle.gev_control.specs.Controlled.{control_of, listed, sent_by}
use Rattle.gev_control.specs.SetupTurns.{SetUp, SetupTurned, setup_turn, sent_if_heard}
use Rattle.gev_control.specs.SetsUp.{setup_sent, setup_heards}
use Rattle.gev_acq.specs.Turns.{Turned, inputs_of, asks_of, SendsAll}
use Rattle.gev_acq.specs.Acquired.{heards_in, sends_in, ControlEach}
use Rattle.live_promises.specs.Moves.{Move, sends, hears, sends_all, hears_of, setup_moves, turn_moves, reader_moves, moves_sent, moves_heard, datagrams}

pub sent-append : (xs ys : List Move) → moves_sent (xs ++ ys) ≡ moves_sent xs ++ moves_sent ys
sent-append [] ys = refl
sent-append (sends bytes ∷ xs) ys = ap (λ l. bytes ∷ l) (sent-append xs ys)
sent-append (hears bytes ∷ xs) ys = sent-append xs ys

pub heard-append : (xs ys : List Move) → moves_heard (xs ++ ys) ≡ moves_heard xs ++ moves_heard ys
heard-append [] ys = refl
heard-append (sends bytes ∷ xs) ys = heard-append xs ys
heard-append (hears bytes ∷ xs) ys = ap (λ l. bytes ∷ l) (heard-append xs ys)

pub datagrams-append : (xs ys : List Answer) → datagrams (xs ++ ys) ≡ datagrams xs ++ datagrams ys
datagrams-append [] ys = refl
datagrams-append (nothing ∷ xs) ys = datagrams-append xs ys
datagrams-append (failed ∷ xs) ys = datagrams-append xs ys
datagrams-append (came bytes peer ∷ xs) ys = ap (λ l. bytes ∷ l) (datagrams-append xs ys)

all_sent : (xs : List (List ℕ)) → moves_sent (sends_all xs) ≡ xs
all_sent [] = refl
all_sent (x ∷ xs) = ap (λ l. x ∷ l) (all_sent xs)

none_heard : (xs : List (List ℕ)) → moves_heard (sends_all xs) ≡ []
none_heard [] = refl
none_heard (x ∷ xs) = none_heard xs

none_sent : (heard : Option Answer) → moves_sent (hears_of heard) ≡ []
none_sent None = refl
none_sent (Some nothing) = refl
none_sent (Some failed) = refl
none_sent (Some (came bytes peer)) = refl

one_heard : (heard : Option Answer) → moves_heard (hears_of heard) ≡ datagrams (listed heard)
one_heard None = refl
one_heard (Some nothing) = refl
one_heard (Some failed) = refl
one_heard (Some (came bytes peer)) = refl

-- ---- the setup

setup_turn_sent : (xs : List (List ℕ)) (heard : Option Answer) → moves_sent (sends_all xs ++ hears_of heard) ≡ xs
setup_turn_sent xs heard =
    sent-append (sends_all xs) (hears_of heard)
    ∙ (ap (λ l. l ++ moves_sent (hears_of heard)) (all_sent xs) ∙ (ap (λ l. xs ++ l) (none_sent heard) ∙ append-nil xs))

setup_turn_heard : (xs : List (List ℕ)) (heard : Option Answer) → moves_heard (sends_all xs ++ hears_of heard) ≡ datagrams (listed heard)
setup_turn_heard xs heard =
    heard-append (sends_all xs) (hears_of heard) ∙ (ap (λ l. l ++ moves_heard (hears_of heard)) (none_heard xs) ∙ one_heard heard)

pub setup_sent_is : (stream : Address) (s : SetUp) (ts : List SetupTurned) → moves_sent (setup_moves stream s ts) ≡ setup_sent stream s ts
setup_sent_is stream s [] = refl
setup_sent_is stream s (t ∷ ts) =
    let xs : List (List ℕ) = sent_if_heard t.heard (setup_turn stream s t).send in
    let rest : List Move = setup_moves stream (setup_turn stream s t).state ts in
    sent-append (sends_all xs ++ hears_of t.heard) rest
    ∙ (ap (λ l. l ++ moves_sent rest) (setup_turn_sent xs t.heard) ∙ ap (λ l. xs ++ l) (setup_sent_is stream (setup_turn stream s t).state ts))

pub setup_heard_is : (stream : Address) (s : SetUp) (ts : List SetupTurned) → moves_heard (setup_moves stream s ts) ≡ datagrams (setup_heards ts)
setup_heard_is stream s [] = refl
setup_heard_is stream s (t ∷ ts) =
    let xs : List (List ℕ) = sent_if_heard t.heard (setup_turn stream s t).send in
    let rest : List Move = setup_moves stream (setup_turn stream s t).state ts in
    heard-append (sends_all xs ++ hears_of t.heard) rest
    ∙ (ap (λ l. l ++ moves_heard rest) (setup_turn_heard xs t.heard)
    ∙ (ap (λ l. datagrams (listed t.heard) ++ l) (setup_heard_is stream (setup_turn stream s t).state ts)
    ∙ sym (datagrams-append (listed t.heard) (setup_heards ts))))

-- ---- the reader

-- no turn ended by a fault
abbrev pub NoneFails : List Turned → Type 0
NoneFails [] = ⊤
NoneFails (t ∷ ts) = (t.end ≢ ends.Fault) × NoneFails ts

pub sent_whole : (end : TurnEnd) (every sent : List (List ℕ)) → end ≢ ends.Fault → SendsAll end every sent → sent ≡ every
sent_whole ends.GoesOn every sent fine all = all
sent_whole ends.Fault every sent fine all = absurd (fine refl)
sent_whole (ends.NoAnswer req) every sent fine all = all
sent_whole (ends.Refused status) every sent fine all = all

pub turn_sent : (xs ys : List (List ℕ)) (heard : Option Answer) → moves_sent (sends_all xs ++ (hears_of heard ++ sends_all ys)) ≡ xs ++ ys
turn_sent xs ys heard =
    sent-append (sends_all xs) (hears_of heard ++ sends_all ys)
    ∙ (ap (λ l. l ++ moves_sent (hears_of heard ++ sends_all ys)) (all_sent xs)
    ∙ ap (λ l. xs ++ l)
    (sent-append (hears_of heard) (sends_all ys) ∙ (ap (λ l. l ++ moves_sent (sends_all ys)) (none_sent heard) ∙ all_sent ys)))

pub turn_heard : (xs ys : List (List ℕ)) (heard : Option Answer) → moves_heard (sends_all xs ++ (hears_of heard ++ sends_all ys)) ≡ datagrams (listed heard)
turn_heard xs ys heard =
    heard-append (sends_all xs) (hears_of heard ++ sends_all ys)
    ∙ (ap (λ l. l ++ moves_heard (hears_of heard ++ sends_all ys)) (none_heard xs)
    ∙ (heard-append (hears_of heard) (sends_all ys)
    ∙ (ap (λ l. l ++ moves_heard (sends_all ys)) (one_heard heard)
    ∙ (ap (λ l. datagrams (listed heard) ++ l) (none_heard ys) ∙ append-nil (datagrams (listed heard))))))

pub reader_sent_is : (c : AcqConfig) (q : List Input) (s u : Client) (ts : List Turned) → ControlEach c q s ts u → NoneFails ts
    → moves_sent (reader_moves c q s ts) ≡ sends_in ts
reader_sent_is c q s u [] each fine = refl
reader_sent_is c q s u (t ∷ ts) each fine =
    let rest : List Move = reader_moves c (q ++ inputs_of t) (control_of s t.heard t.moment).state ts in
    let every : List (List ℕ) = asks_of c q t ++ sent_by t.end (control_of s t.heard t.moment).send in
    sent-append (turn_moves c q s t) rest
    ∙ (ap (λ l. l ++ moves_sent rest) (turn_sent (asks_of c q t) (sent_by t.end (control_of s t.heard t.moment).send) t.heard)
    ∙ (ap (λ l. l ++ moves_sent rest) (sym (sent_whole t.end every t.sent fine.0 each.0.sends))
    ∙ ap (λ l. t.sent ++ l) (reader_sent_is c (q ++ inputs_of t) (control_of s t.heard t.moment).state u ts each.1 fine.1)))

pub reader_heard_is : (c : AcqConfig) (q : List Input) (s : Client) (ts : List Turned) → moves_heard (reader_moves c q s ts) ≡ datagrams (heards_in ts)
reader_heard_is c q s [] = refl
reader_heard_is c q s (t ∷ ts) =
    let rest : List Move = reader_moves c (q ++ inputs_of t) (control_of s t.heard t.moment).state ts in
    heard-append (turn_moves c q s t) rest
    ∙ (ap (λ l. l ++ moves_heard rest) (turn_heard (asks_of c q t) (sent_by t.end (control_of s t.heard t.moment).send) t.heard)
    ∙ (ap (λ l. datagrams (listed t.heard) ++ l) (reader_heard_is c (q ++ inputs_of t) (control_of s t.heard t.moment).state ts)
    ∙ sym (datagrams-append (listed t.heard) (heards_in ts))))
