-- What a record that was found, or an end, makes of a reader.
use Rattle.std.proofs.Common.{◌≡◌, ◌≤◌, ℕ, zero, suc, List, [], ◌∷◌, ◌++◌, length, drop, Option, None, Result, Ok, Err, refl, ap, sym, ◌∙◌, subst}
use Rattle.std.specs.Prelude.{option_map, slice_set}
use Rattle.gev_links.specs.Given.{one_more}
use Rattle.gev_capture.specs.declared.form.SectionInterface.{SectionInterface}
use Rattle.gev_capture.specs.declared.form.Form.{Form}
use Rattle.gev_capture.specs.declared.step.Entry.{Entry}
use Rattle.gev_capture.specs.declared.step.Change.{Change}
use Rattle.gev_capture.specs.declared.step.Change.TheVariants.{Same, Cleared, More, Now}
use Rattle.gev_capture.specs.declared.step.Found.{Found}
use Rattle.gev_capture.specs.declared.capture_end.CaptureEnd.{CaptureEnd}
use Rattle.gev_capture.specs.Files.{given, told}
use Rattle.gev_capture.specs.Steps.{format_of, interfaces_after, entry_packet, MayChange, HaveParts}
use Rattle.gev_capture.specs.Reading.{Finds}
use Rattle.gev_capture.specs.Walking.{CaptureState, state_of, IsReader, Nexts}

pub next_ok : (form : Form) (interfaces interfaces_new : List SectionInterface) (records records_new size : ℕ) (slot : Option Entry) (room room_new : List ℕ) (found : Found) (old : CaptureState)
    (left left_after : Option (List ℕ)) (faults faults_after : ℕ)
    → state_of form interfaces records size slot room ≡ old
    → Finds (Ok found) (format_of form interfaces) interfaces (drop size room) room_new left left_after faults faults_after
    → interfaces_new ≡ interfaces_after found.change interfaces → records_new ≡ one_more records
    → Nexts (Ok tt) old (state_of found.form interfaces_new records_new found.size found.packet room_new) left left_after faults faults_after
next_ok form interfaces interfaces_new records records_new size slot room room_new found old left left_after faults faults_after e f g h =
    let bytes = drop size room ++ f.more in
    let format = format_of form interfaces in
    let new = state_of found.form interfaces_new records_new found.size found.packet room_new in
    let as_told : told format bytes ≡ given found.size new.format new.packet =
    f.holds.0
    ∙ ap (λ (fs : List SectionInterface). given found.size (format_of found.form fs) (option_map (entry_packet bytes) found.packet)) (sym g)
    ∙ ap (λ (bs : List ℕ). given found.size new.format (option_map (entry_packet bs) found.packet)) (sym f.holds.2) in
    subst (λ (o : CaptureState). Nexts (Ok tt) o new left left_after faults faults_after) e (
      h,
      record {
        more = f.more;
        given = f.given;
        first = f.first;
        few = f.few;
        holds = record { size = found.size; told_so = as_told; held = ap (λ (bs : List ℕ). drop found.size bs) f.holds.2 };
      },
    )

pub next_err : (form : Form) (interfaces : List SectionInterface) (records size : ℕ) (slot : Option Entry) (room room_new : List ℕ) (end : CaptureEnd) (old : CaptureState)
    (left left_after : Option (List ℕ)) (faults faults_after : ℕ)
    → state_of form interfaces records size slot room ≡ old
    → Finds (Err end) (format_of form interfaces) interfaces (drop size room) room_new left left_after faults faults_after
    → Nexts (Err end) old (state_of form interfaces records 0 None room_new) left left_after faults faults_after
next_err form interfaces records size slot room room_new end old left left_after faults faults_after e f =
    let new = state_of form interfaces records 0 None room_new in
    subst (λ (o : CaptureState). Nexts (Err end) o new left left_after faults faults_after) e
    (record {
      more = f.more;
      given = f.given;
      first = f.first;
      few = f.few;
      holds = (f.holds.0, record { format = refl; records = refl; packet = refl; held = f.holds.1 });
    })

have_more : (interfaces : List SectionInterface) (interface : SectionInterface) → HaveParts interfaces → 1 ≤ interface.parts → HaveParts (interfaces ++ interface ∷ [])
have_more [] interface h p zero f e = let here : interface ≡ f = cc in subst (λ (g : SectionInterface). 1 ≤ g.parts) here p
have_more [] interface h p (suc k) f e = absurd (cc)
have_more (g ∷ interfaces) interface h p zero f e = h zero f e
have_more (g ∷ interfaces) interface h p (suc k) f e = have_more interfaces interface (λ j x. h (suc j) x) p k f e

have_set : (interfaces : List SectionInterface) (place : ℕ) (interface : SectionInterface) → HaveParts interfaces → 1 ≤ interface.parts → HaveParts (slice_set interfaces place interface)
have_set [] place interface h p k f e = h k f e
have_set (g ∷ interfaces) zero interface h p zero f e = let here : interface ≡ f = cc in subst (λ (g : SectionInterface). 1 ≤ g.parts) here p
have_set (g ∷ interfaces) zero interface h p (suc k) f e = h (suc k) f e
have_set (g ∷ interfaces) (suc place) interface h p zero f e = h zero f e
have_set (g ∷ interfaces) (suc place) interface h p (suc k) f e = have_set interfaces place interface (λ j x. h (suc j) x) p k f e

have_changed : (interfaces interfaces_new : List SectionInterface) (change : Change) → HaveParts interfaces → MayChange interfaces change → interfaces_new ≡ interfaces_after change interfaces → HaveParts interfaces_new
have_changed interfaces interfaces_new change h may e = subst HaveParts (sym e) (go change may) where
  go : (c : Change) → MayChange interfaces c → HaveParts (interfaces_after c interfaces)
  go Same m = h
  go Cleared m = λ k f none. absurd (cc)
  go (More interface) m = have_more interfaces interface h m.1
  go (Now place interface) m = have_set interfaces place interface h m.1

pub reader_ok : (form : Form) (interfaces interfaces_new : List SectionInterface) (size : ℕ) (room room_new : List ℕ) (found : Found) (left left_after : Option (List ℕ)) (faults faults_after : ℕ)
    → Finds (Ok found) (format_of form interfaces) interfaces (drop size room) room_new left left_after faults faults_after
    → HaveParts interfaces → interfaces_new ≡ interfaces_after found.change interfaces → length room_new ≤ 1114112
    → IsReader found.form interfaces_new found.size found.packet room_new
reader_ok form interfaces interfaces_new size room room_new found left left_after faults faults_after f h g few = record {
  few = few;
  within = subst (λ (bs : List ℕ). found.size ≤ length bs) (sym f.holds.2) f.holds.1.within;
  form_parts = f.holds.1.form;
  interface_parts = have_changed interfaces interfaces_new found.change h f.holds.1.change g;
  packet = f.holds.1.packet;
}

-- what was found, by the interfaces and the bytes that were meant
pub found_in : (result : Result Found CaptureEnd) (form : Form) (slice interfaces : List SectionInterface) (held held_is room_new : List ℕ) (left left_after : Option (List ℕ)) (faults faults_after : ℕ)
    → slice ≡ interfaces → held ≡ held_is
    → Finds result (format_of form slice) slice held room_new left left_after faults faults_after → Finds result (format_of form interfaces) interfaces held_is room_new left left_after faults faults_after
found_in result form slice interfaces held held_is room_new left left_after faults faults_after e f h =
    subst (λ (fs : List SectionInterface). Finds result (format_of form fs) fs held_is room_new left left_after faults faults_after) e
    (subst (λ (bs : List ℕ). Finds result (format_of form slice) slice bs room_new left left_after faults faults_after) f h)
