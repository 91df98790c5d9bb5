-- Reader and application ran, by what the words ask for.
use Rattle.std.proofs.Common.{◌≡◌, ℕ, Bool, List, [], Option, refl, subst}
use Rattle.acquisition_machine.specs.declared.config.AcqConfig.{AcqConfig}
use Rattle.acquisition_machine.specs.declared.counts.Counts.{Counts}
use Rattle.board_machine.specs.Actors.{born}
use Rattle.buffer_words.specs.Passes.{Token, own}
use Rattle.buffer_words.specs.Workers.{Works}
use Rattle.board_calls.specs.declared.mode.Mode.{Mode}
use Rattle.gev_links.specs.Links.{Address}
use Rattle.gev_links.specs.Told.{Drops}
use Rattle.live_crew.specs.Prepared.{SawOnly, Prepares}
use Rattle.live_crew.specs.Crews.{RanTwo}
use Rattle.gev_acq.specs.Turns.{Outside}
use Rattle.gev_acq.specs.Kinds.{is_readers}
use Rattle.gev_acq.specs.Reading.{FaultsOf}
use Rattle.gev_apply.specs.Kinds.{is_applications}
use Rattle.camera_words.specs.declared.settings.Settings.{Settings}
use Rattle.packet_requests.specs.declared.id_mode.IdMode.{IdMode}
use Rattle.camera_words.specs.declared.settings.Output.{Output}
use Rattle.camera_reader.specs.declared.reader_end.ReaderEnd.{ReaderEnd}
use Rattle.camera_reader.specs.Reading.{is_fault}
use Rattle.first_leader.specs.declared.leading.FirstLeader.{FirstLeader}
use Rattle.frame_writing.specs.declared.handed_out.HandedOut.{HandedOut}
use Rattle.frame_writing.specs.Work.{HandsOutAndStops}
use Rattle.frame_writing.specs.declared.receive_counts.ReceiveCounts.{ReceiveCounts}
use Rattle.gev_receive.specs.Answers.{StreamEnd, frames_end}
use Rattle.gev_receive.specs.Starting.{config_of, mode_of, buffer_size, leader_counts, with_counts}
use Rattle.gev_receive.specs.Reader.{ReadsFrames}
use Rattle.gev_receive.specs.Frames.{RanFrames}

-- what the workers did, by their own numbers
abbrev RanBy : Mode → AcqConfig → IdMode → ℕ → ℕ → Output → Bool → Address → Outside → Outside → ℕ → ℕ → ℕ → ℕ → Counts → ReaderEnd → Option (List ℕ) → Option (List ℕ)
    → HandedOut → Option (List ℕ) → Option (List ℕ) → ℕ → ℕ → Option (List ℕ) → Option (List ℕ) → ℕ → ℕ → Token → Token → Type 0
RanBy mode c ids silence frames output on camera o n stream stream_after control control_after counts read app app_after handed written written_after faults faults_after input left misses misses_after s u =
    RanTwo
    (λ given back. ReadsFrames mode c ids camera silence o n counts read given back
    × Works (is_readers mode) given back × FaultsOf (is_fault read) stream stream_after control control_after)
    (λ given back. HandsOutAndStops frames output app app_after handed given back written written_after faults faults_after on left
    × Works is_applications given back × Drops input left × (misses_after ≡ misses))
    s u

pub ran_frames : (settings : Settings) (camera : Address) (leader : FirstLeader) (resends : Bool) (o n : Outside) (stream stream_after control control_after : ℕ)
    (app app_after written written_after : Option (List ℕ)) (faults faults_after : ℕ) (input left : Option (List ℕ)) (misses misses_after : ℕ)
    (read : ReaderEnd) (handed : HandedOut) (counted : Counts) (end : StreamEnd) (counts : ReceiveCounts) (s u : Token)
    (mode : Mode) (c : AcqConfig) (ids : IdMode) (silence frames : ℕ) (output : Output) (on : Bool) (size : ℕ)
    → mode ≡ mode_of settings.mode → c ≡ config_of settings leader resends → ids ≡ leader.ids → silence ≡ settings.silence → frames ≡ settings.frames
    → output ≡ settings.output → on ≡ settings.until_input_ends → size ≡ buffer_size settings leader
    → SawOnly (Prepares size settings.buffers) s → s.number ≡ 0 → born (own s) ≡ []
    → RanBy mode c ids silence frames output on camera o n stream stream_after control control_after counted read app app_after handed written written_after faults faults_after input left misses misses_after s u
    → end ≡ frames_end handed.end read settings.frames handed.taken
    → counts ≡ with_counts (leader_counts settings leader) handed.taken handed.complete counted
    → RanFrames settings camera leader resends o n stream stream_after control control_after app app_after written written_after faults faults_after input left misses misses_after end counts u.seen
ran_frames settings camera leader resends o n stream stream_after control control_after app app_after written written_after faults faults_after input left misses misses_after
    read handed counted end counts s u mode c ids silence frames output on size mode_is c_is ids_is silence_is frames_are output_is on_is size_is saw first childless ran ended counts_are = record {
      begin = s;
      last = u;
      prepared = subst (λ (k : ℕ). SawOnly (Prepares k settings.buffers) s) size_is saw;
      first = first;
      childless = childless;
      read = read;
      handed = handed;
      counted = counted;
      ran =
          subst (λ (x : Bool). RanBy (mode_of settings.mode) (config_of settings leader resends) leader.ids settings.silence settings.frames settings.output x camera o n stream stream_after control control_after counted read app app_after handed written written_after faults faults_after input left misses misses_after s u) on_is
          (subst (λ (x : Output). RanBy (mode_of settings.mode) (config_of settings leader resends) leader.ids settings.silence settings.frames x on camera o n stream stream_after control control_after counted read app app_after handed written written_after faults faults_after input left misses misses_after s u) output_is
          (subst (λ (x : ℕ). RanBy (mode_of settings.mode) (config_of settings leader resends) leader.ids settings.silence x output on camera o n stream stream_after control control_after counted read app app_after handed written written_after faults faults_after input left misses misses_after s u) frames_are
          (subst (λ (x : ℕ). RanBy (mode_of settings.mode) (config_of settings leader resends) leader.ids x frames output on camera o n stream stream_after control control_after counted read app app_after handed written written_after faults faults_after input left misses misses_after s u) silence_is
          (subst (λ (x : IdMode). RanBy (mode_of settings.mode) (config_of settings leader resends) x silence frames output on camera o n stream stream_after control control_after counted read app app_after handed written written_after faults faults_after input left misses misses_after s u) ids_is
          (subst (λ (x : AcqConfig). RanBy (mode_of settings.mode) x ids silence frames output on camera o n stream stream_after control control_after counted read app app_after handed written written_after faults faults_after input left misses misses_after s u) c_is
          (subst (λ (x : Mode). RanBy x c ids silence frames output on camera o n stream stream_after control control_after counted read app app_after handed written written_after faults faults_after input left misses misses_after s u) mode_is ran))))));
      saw = refl;
      ended = ended;
      counts_are = counts_are;
    }
