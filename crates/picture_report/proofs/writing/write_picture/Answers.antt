use Rattle.std.proofs.Common.{◌≡◌, ◌∙◌, rules, List, ℕ, ◌++◌, take, ap, subst}
use Rattle.gev_links.specs.Told.{Appends, WritesFront}
use Rattle.gev_types.specs.declared.block_record.Record.{Record}
use Rattle.gev_types.specs.declared.image_info.ImageInfo.{ImageInfo}
use Rattle.frame_pictures.specs.declared.samples.Samples.{Samples}
use Rattle.frame_pictures.specs.Pictures.{head_text, rows_text, drawing}
use Rattle.picture_report.proofs.Drawn.{picture_is}
use Rattle.picture_report.proofs.writing.write_picture.Goals as goal

-- the piece has the head, and the rows are those of the front
text_is : (s : Samples) (rec : Record) (info : ImageInfo) (piece image front : List ℕ) → piece ≡ head_text s rec info → image ≡ front
    → piece ++ rows_text s info image info.rows ≡ drawing s rec info front
text_is s rec info piece image front head same =
    ap (λ (t : List ℕ). t ++ rows_text s info image info.rows) head ∙ ap (λ (t : List ℕ). drawing s rec info t) same

pub returns-in-Ok-write_drawing : goal.returns-in-Ok-write_drawing
returns-in-Ok-write_drawing g c = (
  record {
    text = drawing c.in-Some-samples_of.samples c.args.rec c.in-Some.info (take c.args.rec.data_len c.args.bytes.now);
    is =
        picture_is c.args.rec c.in-Some.info c.args.bytes.now c.in-Some-samples_of.samples (search rules) (search rules) (search rules)
        (search rules) (search rules);
    appended =
        subst (λ (t : List ℕ). Appends (g.K.Sink.written c.args.sink.now) (g.K.Sink.written c.write_drawing.new.sink) t)
        (text_is c.in-Some-samples_of.samples c.args.rec c.in-Some.info c.in-Ok.piece.items c.front_of-image.result.now (take c.args.rec.data_len c.args.bytes.now) c.in-Ok.ensures.head c.front_of-image.ensures) c.in-Ok-write_drawing.ensures.written;
  },
  c.in-Ok-write_drawing.ensures.no_fault,
)

pub returns : goal.returns
returns g c = (
  record {
    text = drawing c.in-Some-samples_of.samples c.args.rec c.in-Some.info (take c.args.rec.data_len c.args.bytes.now);
    is =
        picture_is c.args.rec c.in-Some.info c.args.bytes.now c.in-Some-samples_of.samples (search rules) (search rules) (search rules)
        (search rules) (search rules);
    front =
        subst (λ (t : List ℕ). WritesFront (g.K.Sink.written c.args.sink.now) (g.K.Sink.written c.write_drawing.new.sink) t)
        (text_is c.in-Some-samples_of.samples c.args.rec c.in-Some.info c.in-Ok.piece.items c.front_of-image.result.now (take c.args.rec.data_len c.args.bytes.now) c.in-Ok.ensures.head c.front_of-image.ensures) c.in-Err-write_drawing.ensures.front;
  },
  c.in-Err-write_drawing.ensures.failed,
)
