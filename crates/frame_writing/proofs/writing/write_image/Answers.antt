-- The picture that is written is the buffer's, by its own record.
use Rattle.std.proofs.Common.{◌≡◌, ℕ, List, Option, Result, Err, sym, ap, subst, ◌∙◌}
use Rattle.gev_links.specs.Faults.{Rose}
use Rattle.gev_links.specs.Told.{Appends, WritesFront}
use Rattle.gev_types.specs.declared.block_record.Record.{Record}
use Rattle.gev_types.specs.Filling.{Filling}
use Rattle.frame_pictures.specs.declared.no_picture.NoPicture.{NoPicture}
use Rattle.frame_pictures.specs.Pictures.{picture, picture_of}
use Rattle.picture_report.specs.Writing.{Draws, DrawsFront}
use Rattle.frame_writing.specs.Texts.{picture_text}
use Rattle.frame_writing.proofs.Written.{wrote_nothing}
use Rattle.frame_writing.proofs.writing.write_image.Goals as goal

pictured : (filling : Filling) (rec : Record) (bytes : List ℕ) → rec ≡ filling.rec → bytes ≡ filling.bytes → picture rec bytes ≡ picture_of filling
pictured filling rec bytes one two =
    ap (λ (r : Record). picture r bytes) one ∙ ap (λ (b : List ℕ). picture filling.rec b) two

drawn : (shown own : Result (List ℕ) NoPicture) (w x : Option (List ℕ)) (n m : ℕ) → shown ≡ own → Draws shown w x × (m ≡ n) → Appends w x (picture_text own) × (m ≡ n)
drawn shown own w x n m same did = (subst (λ (t : List ℕ). Appends w x t) (sym (ap picture_text (sym same ∙ did.0.is))) did.0.appended, did.1)

undrawn : (shown own : Result (List ℕ) NoPicture) (w x : Option (List ℕ)) (n m : ℕ) (why : NoPicture) → shown ≡ own → (shown ≡ Err why) × (x ≡ w) × (m ≡ n)
    → Appends w x (picture_text own) × (m ≡ n)
undrawn shown own w x n m why same did =
    (subst (λ (t : List ℕ). Appends w x t) (sym (ap picture_text (sym same ∙ did.0))) (wrote_nothing w x did.1), did.2)

begun : (shown own : Result (List ℕ) NoPicture) (w x : Option (List ℕ)) (n m : ℕ) → shown ≡ own → DrawsFront shown w x × Rose n m → WritesFront w x (picture_text own) × Rose n m
begun shown own w x n m same did = (subst (λ (t : List ℕ). WritesFront w x t) (sym (ap picture_text (sym same ∙ did.0.is))) did.0.front, did.1)

pub returns-in-Ok : goal.returns-in-Ok
returns-in-Ok g c =
    drawn _ _ _ _ _ _ (pictured c.args.buf.now c.rec.result c.bytes.result.now c.rec.ensures.value c.bytes.ensures.value) c.in-Ok.ensures

pub returns-in-Err-NoPicture : goal.returns-in-Err-NoPicture
returns-in-Err-NoPicture g c =
    undrawn _ _ _ _ _ _ _ (pictured c.args.buf.now c.rec.result c.bytes.result.now c.rec.ensures.value c.bytes.ensures.value)
    (rw c.in-Err-NoPicture.field-0-is at c.in-Err-NoPicture.ensures)

pub returns-in-Err-WriteFault : goal.returns-in-Err-WriteFault
returns-in-Err-WriteFault g c =
    begun _ _ _ _ _ _ (pictured c.args.buf.now c.rec.result c.bytes.result.now c.rec.ensures.value c.bytes.ensures.value)
    (rw c.in-Err-WriteFault.field-0-is at c.in-Err-WriteFault.ensures)

pub returns-in-Err-NoMemory : goal.returns-in-Err-NoMemory
returns-in-Err-NoMemory g c = rw c.in-Err-NoMemory.field-0-is at c.in-Err-NoMemory.ensures
