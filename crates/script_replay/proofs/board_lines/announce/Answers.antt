use Rattle.std.proofs.Common.{◌≡◌, Bool, true, false}
use Rattle.std.proofs.lemmas.Result.{on_ok_weaker}
use Rattle.script_replay.proofs.Announced.{announce_acts, announce_ready}
use Rattle.script_replay.proofs.Resting.{lifted_announced}
use Rattle.script_replay.proofs.board_lines.announce.Goals as goal

not_both : (b : Bool) → b ≡ true → b ≡ false → ⊥
not_both b holds fails = cc

pub returns-then-is_want_of_memory : goal.returns-then-is_want_of_memory
returns-then-is_want_of_memory c = record {
  acts = tt;
  ready = announce_ready c.ds_announce-answer.result _ _ c.args.size c.ds_announce-answer.ensures.entries c.ds_announce-answer.ensures.contents c.ds_announce-answer.ensures.refused c.owned.ensures.kept c.owned.ensures.owned.wide c.requires.ready;
  lifted = lifted_announced c.ds_announce-answer.result c.args.board.now c.ds_announce-answer.new.self c.args.size c.requires.ready c.ds_announce-answer.ensures.entries c.ds_announce-answer.ensures.contents c.ds_announce-answer.ensures.refused;
}

pub returns : goal.returns
returns c = record {
  acts =
      on_ok_weaker c.line_new_id.result
      (λ said. announce_acts c.ds_announce-answer.result _ _ c.args.size _ (λ e. absurd (not_both c.is_want_of_memory.result (c.is_want_of_memory.ensures.1 e) c.if-is_want_of_memory.false)) c.ds_announce-answer.ensures.entries c.ds_announce-answer.ensures.contents c.ds_announce-answer.ensures.refused c.owned.ensures.kept c.owned.ensures.owned.wide said)
      c.line_new_id.ensures;
  ready = announce_ready c.ds_announce-answer.result _ _ c.args.size c.ds_announce-answer.ensures.entries c.ds_announce-answer.ensures.contents c.ds_announce-answer.ensures.refused c.owned.ensures.kept c.owned.ensures.owned.wide c.requires.ready;
  lifted = lifted_announced c.ds_announce-answer.result c.args.board.now c.ds_announce-answer.new.self c.args.size c.requires.ready c.ds_announce-answer.ensures.entries c.ds_announce-answer.ensures.contents c.ds_announce-answer.ensures.refused;
}
