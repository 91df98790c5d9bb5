-- A run over links, and over ports.
use Rattle.std.proofs.Common.{◌≡◌, ◌≢◌, ℕ, zero, suc, ◌+◌, ◌≤◌, ◌∷◌, [], List, Option, inl, inr, ◌⊎◌, refl, sym, ap, subst, ◌∙◌, arith}
use Rattle.board_machine.specs.declared.events.Entry.{Entry}
use Rattle.client_machine.specs.Machine.{Client, new_client}
use Rattle.gev_links.specs.Faults.{Rose}
use Rattle.gev_links.specs.Links.{Address, Answer, IsBlank}
use Rattle.gev_links.specs.PortsState.{IsNew}
use Rattle.link_filters.specs.Strangers.{CountsStrangers}
use Rattle.camera_words.specs.declared.settings.Settings.{Settings}
use Rattle.gev_status.specs.declared.status.Status.{Status}
use Rattle.gev_status.specs.declared.status.Status.TheVariants as status
use Rattle.frame_writing.specs.declared.receive_counts.ReceiveCounts.{ReceiveCounts}
use Rattle.gev_receive.specs.Answers.{rank}
use Rattle.gev_receive.specs.Ending.{Finishes}
use Rattle.gev_receive.specs.Bound.{control_peer, AllTold, RaisesByTwo}
use Rattle.gev_receive.specs.Receives.{IsUntold, host_side, sum_of, SEND_LIMIT, Meets, Receives, told_by, history_of, ReceivesOver}
use Rattle.gev_receive.proofs.Standing.{StandsBy, is_link_fault, is_write_fault}

-- ---- over links

-- the run over links that other links stand on, which hear one address
pub receives_from : {L C : Type 0} (heard : L → Option (List Answer)) (sent : L → Option (List (Address × List ℕ))) (faults : L → ℕ) (told : C → Option (List ℕ))
    (settings : Settings) (camera own : Address) (source : ℕ) (control_o stream_o control_e stream_e c_o s_o c_e s_e : L) (host_o app_o host_e app_e : C) (begin client : Client)
    (written written_mid written_after : Option (List ℕ)) (writes writes_mid writes_after : ℕ) (left : Option (List ℕ)) (h : List Entry)
    (first answer : Status) (counts : ReceiveCounts) (control_strangers stream_strangers strangers : ℕ)
    → c_o ≡ control_o → s_o ≡ stream_o → control_e ≡ c_e → stream_e ≡ s_e → begin ≡ new_client SEND_LIMIT → camera.address ≡ source
    → Meets settings camera own (host_side source (told_by heard sent told c_o s_o host_o app_o) begin) (host_side source (told_by heard sent told c_e s_e host_e app_e) client)
    (faults s_o) (faults s_e) (faults c_o) (faults c_e) (told app_o) (told app_e) written written_mid writes writes_mid left h first counts
    → CountsStrangers source (heard c_e) control_strangers → CountsStrangers source (heard s_e) stream_strangers → strangers ≡ sum_of control_strangers stream_strangers
    → Finishes settings.output first answer counts strangers written_mid written_after writes_mid writes_after
    → Receives settings camera own (told_by heard sent told control_o stream_o host_o app_o) (told_by heard sent told control_e stream_e host_e app_e)
    (faults stream_o) (faults stream_e) (faults control_o) (faults control_e) written written_after writes writes_after left h answer
receives_from {L} {C} heard sent faults told settings camera own source control_o stream_o control_e stream_e c_o s_o c_e s_e host_o app_o host_e app_e begin client
    written written_mid written_after writes writes_mid writes_after left h first answer counts control_strangers stream_strangers strangers
    c_same s_same c_back s_back new is meets of_control of_stream number finishes = record {
      client = client;
      written_mid = written_mid;
      faults_mid = writes_mid;
      first = first;
      counts = counts;
      meets =
          subst (λ (x : L). At camera.address control_o stream_o control_e x (new_client SEND_LIMIT)) (sym s_back)
          (subst (λ (x : L). At camera.address control_o stream_o x s_e (new_client SEND_LIMIT)) (sym c_back)
          (subst (λ (x : L). At camera.address control_o x c_e s_e (new_client SEND_LIMIT)) s_same
          (subst (λ (x : L). At camera.address x s_o c_e s_e (new_client SEND_LIMIT)) c_same
          (subst (λ (x : Client). At camera.address c_o s_o c_e s_e x) new
          (subst (λ (k : ℕ). At k c_o s_o c_e s_e begin) (sym is) meets)))));
      control_strangers = control_strangers;
      stream_strangers = stream_strangers;
      control_counted = subst (λ (x : L). CountsStrangers camera.address (heard x) control_strangers) (sym c_back)
          (subst (λ (k : ℕ). CountsStrangers k (heard c_e) control_strangers) (sym is) of_control);
      stream_counted = subst (λ (x : L). CountsStrangers camera.address (heard x) stream_strangers) (sym s_back)
          (subst (λ (k : ℕ). CountsStrangers k (heard s_e) stream_strangers) (sym is) of_stream);
      finishes = subst (λ (k : ℕ). Finishes settings.output first answer counts k written_mid written_after writes_mid writes_after) number finishes;
    }
  where
    At : ℕ → L → L → L → L → Client → Type 0
    At k c s d t x = Meets settings camera own (host_side k (told_by heard sent told c s host_o app_o) x) (host_side k (told_by heard sent told d t host_e app_e) client)
        (faults s) (faults t) (faults c) (faults d) (told app_o) (told app_e) written written_mid writes writes_mid left h first counts

-- ---- over ports

pub untold_new : {L C : Type 0} (heard : L → Option (List Answer)) (sent : L → Option (List (Address × List ℕ))) (faults : L → ℕ) (told : C → Option (List ℕ))
    (control stream : L) (host_clock app_clock : C) → IsNew (heard control) (sent control) (faults control) → IsNew (heard stream) (sent stream) (faults stream)
    → IsBlank (told host_clock) → IsBlank (told app_clock) → IsUntold (told_by heard sent told control stream host_clock app_clock)
untold_new heard sent faults told control stream host_clock app_clock new_control new_stream blank_host blank_app = record {
  stream = new_stream.unheard;
  control = new_control.unheard;
  sent = new_control.unsent;
  host_clock = blank_host;
  app_clock = blank_app;
}

pub receives_over : {L C : Type 0} (heard : L → Option (List Answer)) (sent : L → Option (List (Address × List ℕ))) (faults : L → ℕ) (told : C → Option (List ℕ))
    (settings : Settings) (camera own address : Address) (answer : Status) (bound bound_mid bound_after : Option (List Address))
    (links links_mid links_after : Option (List L)) (clocks clocks_mid clocks_after : Option (List C))
    (left written written_after : Option (List ℕ)) (writes writes_after : ℕ) (h : List Entry) (seen : Option (List Entry))
    (control_o stream_o control_e stream_e : L) (host_o app_o host_e app_e input_e : C)
    → camera ≡ control_peer settings.camera → AllTold bound bound_mid (address ∷ own ∷ []) → bound_after ≡ bound_mid
    → links_mid ≡ links → AllTold links_mid links_after (control_e ∷ stream_e ∷ []) → clocks_mid ≡ clocks → AllTold clocks_mid clocks_after (host_e ∷ app_e ∷ input_e ∷ [])
    → IsNew (heard control_o) (sent control_o) (faults control_o) → IsNew (heard stream_o) (sent stream_o) (faults stream_o) → IsBlank (told host_o) → IsBlank (told app_o)
    → h ≡ history_of seen
    → Receives settings camera own (told_by heard sent told control_o stream_o host_o app_o) (told_by heard sent told control_e stream_e host_e app_e)
    (faults stream_o) (faults stream_e) (faults control_o) (faults control_e) written written_after writes writes_after left h answer
    → ReceivesOver heard sent faults told settings answer bound bound_after links links_after clocks clocks_after left written written_after writes writes_after seen
receives_over {L} {C} heard sent faults told settings camera own address answer bound bound_mid bound_after links links_mid links_after clocks clocks_mid clocks_after
    left written written_after writes writes_after h seen control_o stream_o control_e stream_e host_o app_o host_e app_e input_e
    peer are_bound bound_same links_same back clocks_same clocks_back new_control new_stream blank_host blank_app history receives = inr (record {
      control_address = address;
      own = own;
      are_bound = subst (λ (b : Option (List Address)). AllTold bound b (address ∷ own ∷ [])) (sym bound_same) are_bound;
      control = control_e;
      stream = stream_e;
      links_back = subst (λ (l : Option (List L)). AllTold l links_after (control_e ∷ stream_e ∷ [])) links_same back;
      host_clock = host_e;
      app_clock = app_e;
      input_clock = input_e;
      clocks_back = subst (λ (l : Option (List C)). AllTold l clocks_after (host_e ∷ app_e ∷ input_e ∷ [])) clocks_same clocks_back;
      begin = told_by heard sent told control_o stream_o host_o app_o;
      untold = untold_new heard sent faults told control_o stream_o host_o app_o new_control new_stream blank_host blank_app;
      receives =
          subst (λ (e : List Entry). At (control_peer settings.camera) 0 0 e) history
          (subst (λ (k : ℕ). At (control_peer settings.camera) 0 k h) new_control.no_fault
          (subst (λ (k : ℕ). At (control_peer settings.camera) k (faults control_o) h) new_stream.no_fault
          (subst (λ (p : Address). At p (faults stream_o) (faults control_o) h) peer receives)));
    })
  where
    At : Address → ℕ → ℕ → List Entry → Type 0
    At p s c e = Receives settings p own (told_by heard sent told control_o stream_o host_o app_o) (told_by heard sent told control_e stream_e host_e app_e)
        s (faults stream_e) c (faults control_e) written written_after writes writes_after left e answer

-- ---- the counts of faults

rank_link : (answer : Status) → answer ≡ status.LinkFault → rank answer ≡ 0
rank_link answer is = ap rank is

rank_write : (answer : Status) → answer ≡ status.WriteFault → rank answer ≡ 2
rank_write answer is = ap rank is

some_rank : (answer : Status) → answer ≢ status.LinkFault → 1 ≤ rank answer
some_rank answer other = go (rank answer) refl
  where
    go : (r : ℕ) → rank answer ≡ r → 1 ≤ rank answer
    go zero is = absurd (other (is_link_fault answer is))
    go (suc r) is = omega (arith, is)

pub link_failed : (answer : Status) (stream stream_after control control_after old mid new writes writes_after : ℕ)
    → StandsBy (rank answer) stream stream_after control control_after writes writes_after → mid ≡ old → RaisesByTwo control_after stream_after mid new
    → answer ≡ status.LinkFault → Rose old new
link_failed answer stream stream_after control control_after old mid new writes writes_after stands same raises is =
    subst (λ (k : ℕ). Rose k new) same (raises.rises (some (stands.link_failed (rank_link answer is))))
  where
    some : (1 ≤ stream_after) ⊎ (1 ≤ control_after) → 1 ≤ control_after + stream_after
    some (inl one) = omega (arith, one)
    some (inr one) = omega (arith, one)

pub link_steady : (answer : Status) (stream stream_after control control_after old mid new writes writes_after : ℕ)
    → StandsBy (rank answer) stream stream_after control control_after writes writes_after → stream ≡ 0 → control ≡ 0 → mid ≡ old
    → RaisesByTwo control_after stream_after mid new → answer ≢ status.LinkFault → new ≡ old
link_steady answer stream stream_after control control_after old mid new writes writes_after stands no_stream no_control same raises other =
    let some = some_rank answer other in
    let s = stands.stream_steady some in
    let c = stands.control_steady some in
    raises.stays (omega (arith, s, c, no_stream, no_control)) ∙ same

pub write_failed : (answer : Status) (stream stream_after control control_after writes writes_after : ℕ) → StandsBy (rank answer) stream stream_after control control_after writes writes_after
    → answer ≡ status.WriteFault → Rose writes writes_after
write_failed answer stream stream_after control control_after writes writes_after stands is = stands.write_failed (rank_write answer is)

pub write_steady : (answer : Status) (stream stream_after control control_after writes writes_after : ℕ) → StandsBy (rank answer) stream stream_after control control_after writes writes_after
    → answer ≢ status.WriteFault → answer ≢ status.LinkFault → writes_after ≡ writes
write_steady answer stream stream_after control control_after writes writes_after stands unwritten unlinked =
    stands.write_steady (some_rank answer unlinked) (λ e. unwritten (is_write_fault answer e))
