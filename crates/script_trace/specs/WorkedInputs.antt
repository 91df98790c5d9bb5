-- The notes of some inputs, worked out by hand: images of three bytes, in one payload, with a window of one block, and
-- entries that gave way.
use Rattle.std.specs.Prelude.{◌≡◌, ℕ, true, false, List, [], ◌∷◌, ◌++◌, codes, Some, None}
use Rattle.gentl_types.specs.declared.word.State.TheVariants.{Held}
use Rattle.stream_packets.specs.declared.fields.Head.{Head}
use Rattle.stream_packets.specs.Packets.{leader, payload, trailer, notice}
use Rattle.gvsp_wire.specs.Plain.{plain}
use Rattle.board_machine.specs.Machine.{Board, Item, empty_board}
use Rattle.acquisition_machine.specs.declared.config.AcqConfig.{AcqConfig}
use Rattle.acquisition_machine.specs.Machine.{Input, datagram, claimed, tick, stop}
use Rattle.acquisition_machine.specs.Runs.{first_state}
use Rattle.acquisition_machine.specs.Worked.{seen}
use Rattle.script_trace.specs.Inputs.{notes_from}
use Rattle.script_trace.specs.Texts.{notes_text}

abbrev pub config : AcqConfig
config = record { p = 528; window = 1; timeout = 1000; age = 100; rounds = 2 }

-- a board whose place 0 has its first buffer
abbrev pub board : Board
board = record empty_board { words = (record { state = Held; size = 3; generation = 1 }) ∷ [] }

abbrev pub head_with : ℕ → ℕ → ℕ → Head
head_with status b k = record { status = status; flags = 0; block = b; id = k }

abbrev pub leads : ℕ → Input
leads b =
    datagram (plain (leader (head_with 0 b 0)
    record { timestamp = 0; pixel = 0x01080001; size_x = 3; size_y = 1; offset_x = 0; offset_y = 0; padding_x = 0; padding_y = 0; size = 3 }))

abbrev pub carries : ℕ → Input
carries b = datagram (plain (payload (head_with 0 b 1) (97 ∷ 98 ∷ 99 ∷ [])))

abbrev pub trails : ℕ → Input
trails b = datagram (plain (trailer (head_with 0 b 2) 1))

-- a claim that finds the buffer of place 0, of so many bytes
abbrev pub finds : ℕ → Input
finds size = claimed (Some (record { place = 0; size = size }))

abbrev pub whole : ℕ → List Input
whole b = leads b ∷ finds 3 ∷ leads b ∷ carries b ∷ trails b ∷ []

abbrev pub told : List Input → List ℕ
told q = notes_text 5 0 (notes_from config board [] first_state q)

-- a board with three buffers
abbrev pub board_of_three : Board
board_of_three = record empty_board {
  words =
      (record { state = Held; size = 3; generation = 1 }) ∷ (record { state = Held; size = 3; generation = 4 })
      ∷ (record { state = Held; size = 3; generation = 2 }) ∷ [];
}

-- an entry of the output, with the record of this block
abbrev pub waited : ℕ → ℕ → Item
waited place block = record {
  place = place;
  filling = record { bytes = 97 ∷ 98 ∷ 99 ∷ []; rec = record { block = block; complete = true; larger = false; has_leader = true; data_len = 3; filled = 3; image = seen 3 1; account = None } };
}

-- with these lists of what claims and fills dropped
abbrev pub told_dropping : List (List Item) → List Input → List ℕ
told_dropping ds q = notes_text 5 0 (notes_from config board_of_three ds first_state q)

pub record NotesAreWorked : Type 0 where
  -- a block that is whole
  pub complete : told (whole 1) ≡
      codes "# 5 0 open block=1 buffer=0.1\n"
      ++ (codes "# 5 0 leader block=1 width=3 height=1 pixel=0x01080001 bytes=3 time=0\n"
      ++ (codes "# 5 0 done block=1 buffer=0.1 cause=complete complete=1 kept=3 missing=0 why=- ids=- out=1\n" ++ []))
  -- a lost payload: it is asked for twice, and the block grows old
  pub lost : told (leads 1 ∷ finds 3 ∷ leads 1 ∷ trails 1 ∷ tick 100 ∷ tick 200 ∷ tick 1000 ∷ []) ≡
      codes "# 5 0 open block=1 buffer=0.1\n"
      ++ (codes "# 5 0 leader block=1 width=3 height=1 pixel=0x01080001 bytes=3 time=0\n"
      ++ (codes "# 5 0 ask block=1 ids=1 round=1\n"
      ++ (codes "# 5 0 ask block=1 ids=1 round=2\n"
      ++ (codes "# 5 0 done block=1 buffer=0.1 cause=old complete=0 kept=2 missing=1 why=payloads ids=1 out=1\n" ++ []))))
  -- lost frames: where the stream begins with block 3 none is missed before it, and blocks 4 to 6 are absent
  pub absent : told (whole 3 ++ whole 7) ≡
      codes "# 5 0 open block=3 buffer=0.1\n"
      ++ (codes "# 5 0 leader block=3 width=3 height=1 pixel=0x01080001 bytes=3 time=0\n"
      ++ (codes "# 5 0 first block=3\n"
      ++ (codes "# 5 0 done block=3 buffer=0.1 cause=complete complete=1 kept=3 missing=0 why=- ids=- out=1\n"
      ++ (codes "# 5 0 open block=7 buffer=0.1\n"
      ++ (codes "# 5 0 leader block=7 width=3 height=1 pixel=0x01080001 bytes=3 time=0\n"
      ++ (codes "# 5 0 absent blocks=4-6\n"
      ++ (codes "# 5 0 done block=7 buffer=0.1 cause=complete complete=1 kept=3 missing=0 why=- ids=- out=1\n" ++ [])))))))
  -- no buffer: the block is starved, and gives its place to the next
  pub starved : told (leads 1 ∷ claimed None ∷ leads 1 ∷ leads 2 ∷ finds 3 ∷ []) ≡
      codes "# 5 0 open block=1 buffer=none\n"
      ++ (codes "# 5 0 starved block=1 id=0\n"
      ++ (codes "# 5 0 done block=1 buffer=none cause=displaced\n"
      ++ (codes "# 5 0 open block=2 buffer=0.1\n" ++ [])))
  -- a buffer of 2 bytes
  pub small : told (leads 1 ∷ finds 2 ∷ leads 1 ∷ carries 1 ∷ trails 1 ∷ tick 1000 ∷ []) ≡
      codes "# 5 0 open block=1 buffer=0.1\n"
      ++ (codes "# 5 0 leader block=1 width=3 height=1 pixel=0x01080001 bytes=3 time=0\n"
      ++ (codes "# 5 0 done block=1 buffer=0.1 cause=old complete=0 kept=3 missing=0 why=small ids=- out=1\n" ++ []))
  -- no packet, a packet of a block that retired, and the camera's word that a packet is gone
  pub ignored : told (datagram (0 ∷ []) ∷ leads 1 ∷ finds 3 ∷ leads 1 ∷ leads 1 ∷ datagram (plain (notice (head_with 0x800C 1 1))) ∷ stop ∷ trails 1 ∷ []) ≡
      codes "# 5 0 foreign short=1\n"
      ++ (codes "# 5 0 open block=1 buffer=0.1\n"
      ++ (codes "# 5 0 leader block=1 width=3 height=1 pixel=0x01080001 bytes=3 time=0\n"
      ++ (codes "# 5 0 repeat block=1 id=0\n"
      ++ (codes "# 5 0 notice block=1 id=1 status=0x800c\n"
      ++ (codes "# 5 0 done block=1 buffer=0.1 cause=stopped complete=0 kept=1 missing=2 why=trailer,payloads ids=1-2 out=1\n"
      ++ (codes "# 5 0 late block=1 id=2 bound=2\n" ++ []))))))
  -- the claim takes an entry of the output, and the fill drops two
  pub dropping : told_dropping ((waited 2 6 ∷ []) ∷ (waited 1 7 ∷ waited 2 8 ∷ []) ∷ []) (whole 3) ≡
      codes "# 5 0 drop block=6 buffer=2.2\n"
      ++ (codes "# 5 0 open block=3 buffer=0.1\n"
      ++ (codes "# 5 0 leader block=3 width=3 height=1 pixel=0x01080001 bytes=3 time=0\n"
      ++ (codes "# 5 0 first block=3\n"
      ++ (codes "# 5 0 drop block=7 buffer=1.4\n"
      ++ (codes "# 5 0 drop block=8 buffer=2.2\n"
      ++ (codes "# 5 0 done block=3 buffer=0.1 cause=complete complete=1 kept=3 missing=0 why=- ids=- out=1\n" ++ []))))))
