-- The one spelling of each line, and which values are lines.
use Rattle.std.specs.Prelude.{◌≡◌, ⊤, ℕ, ◌+◌, ◌<◌, ◌≤◌, ◌^◌, List, [], ◌∷◌, ◌++◌, length, codes, decimal, true, Option, Some, None}
use Rattle.std.specs.List.{join_with_byte}
use Rattle.gev_script.specs.declared.act.Act.{Act}
use Rattle.gev_script.specs.declared.act.Act.TheVariants.{Grab, Lay, Pool, Fill, Claim, Take, SweepPool, SweepOut, Close}
use Rattle.gev_script.specs.Lines as line
use Rattle.gev_script.specs.Lines.{ScriptLine, Config}
use Rattle.gev_script.specs.Numbers.{is_hex}
use Rattle.gev_script.specs.Fields.{most_p}

abbrev pub id_word : ℕ → ℕ → List ℕ
id_word place generation = decimal place ++ 46 ∷ decimal generation

abbrev pub parent_word : Option ℕ → List ℕ
parent_word None = codes "-"
parent_word (Some serial) = decimal serial

abbrev pub act_word : Act → List ℕ
act_word Grab = codes "grab"
act_word Lay = codes "lay"
act_word Pool = codes "pool"
act_word Fill = codes "fill"
act_word Claim = codes "claim"
act_word Take = codes "take"
act_word SweepPool = codes "sweep-pool"
act_word SweepOut = codes "sweep-out"
act_word Close = codes "close"

abbrev pub place_words : Option ℕ → List (List ℕ)
place_words None = []
place_words (Some place) = decimal place ∷ []

-- the words of a line
abbrev pub words_in : ScriptLine → List (List ℕ)
words_in (line.header c) =
    codes "gevacq" ∷ decimal c.version ∷ decimal c.p ∷ decimal c.window ∷ decimal c.timeout ∷ decimal c.age ∷ decimal c.rounds ∷ []
words_in (line.announce size) = codes "announce" ∷ decimal size ∷ []
words_in (line.queue place generation) = codes "queue" ∷ id_word place generation ∷ []
words_in (line.revoke place generation) = codes "revoke" ∷ id_word place generation ∷ []
words_in (line.flush operation) = codes "flush" ∷ decimal operation ∷ []
words_in line.start = codes "start" ∷ []
words_in (line.stop flags) = codes "stop" ∷ decimal flags ∷ []
words_in (line.tick moment) = codes "t" ∷ decimal moment ∷ []
words_in (line.datagram digits) = codes "d" ∷ digits ∷ []
words_in line.take = codes "take" ∷ []
words_in line.kill = codes "kill" ∷ []
words_in line.event_flush = codes "event-flush" ∷ []
words_in (line.info which) = codes "info" ∷ decimal which ∷ []
words_in (line.buffer_info place generation which) = codes "binfo" ∷ id_word place generation ∷ decimal which ∷ []
words_in (line.open_child parent index) = codes "open" ∷ parent_word parent ∷ decimal index ∷ []
words_in (line.close_all serial) = codes "close" ∷ decimal serial ∷ []
words_in (line.step actor act place) = codes "step" ∷ decimal actor ∷ act_word act ∷ place_words place
words_in (line.mode mode) = codes "mode" ∷ decimal mode ∷ []
words_in line.end_of_script = codes "end" ∷ []
words_in line.camera_header = codes "gevacq-camera" ∷ codes "1" ∷ []
words_in (line.command peer digits) = codes "c" ∷ decimal peer ∷ digits ∷ []
words_in line.frame = codes "frame" ∷ []

-- the words with one space between each two, without the line feed
abbrev pub spelling : ScriptLine → List ℕ
spelling l = join_with_byte 32 (words_in l)

pub record IsConfig (c : Config) : Type 0 where
  pub version_from : 1 ≤ c.version
  pub version_to : c.version ≤ 2
  pub p_from : 528 ≤ c.p
  pub p_to : c.p ≤ most_p c.version
  pub window_from : 1 ≤ c.window
  pub window_to : c.window ≤ 4
  pub timeout_from : 1 ≤ c.timeout
  pub timeout_to : c.timeout ≤ 60000
  pub age_from : 1 ≤ c.age
  pub age_to : c.age ≤ 60000
  pub rounds : c.rounds ≤ 8

pub record IsId (place generation : ℕ) : Type 0 where
  pub small_place : place < 2 ^ 8
  pub small_generation : generation < 2 ^ 32

abbrev pub IsParent : Option ℕ → Type 0
IsParent None = ⊤
IsParent (Some serial) = serial < 2 ^ 64

-- The act takes a place where there is one, and none where there is none.
abbrev pub TakesPlace : Act → Option ℕ → Type 0
TakesPlace Grab None = ⊥
TakesPlace Lay None = ⊥
TakesPlace Pool None = ⊥
TakesPlace Fill None = ⊥
TakesPlace Claim None = ⊤
TakesPlace Take None = ⊤
TakesPlace SweepPool None = ⊤
TakesPlace SweepOut None = ⊤
TakesPlace Close None = ⊤
TakesPlace Grab (Some place) = place ≤ 14
TakesPlace Lay (Some place) = place ≤ 14
TakesPlace Pool (Some place) = place ≤ 14
TakesPlace Fill (Some place) = place ≤ 14
TakesPlace Claim (Some place) = ⊥
TakesPlace Take (Some place) = ⊥
TakesPlace SweepPool (Some place) = ⊥
TakesPlace SweepOut (Some place) = ⊥
TakesPlace Close (Some place) = ⊥

pub record IsStep (actor : ℕ) (act : Act) (place : Option ℕ) : Type 0 where
  pub actor_from : 1 ≤ actor
  pub actor_to : actor ≤ 4
  pub takes : TakesPlace act place

pub record IsDatagram (digits : List ℕ) : Type 0 where
  pub hex : is_hex digits ≡ true
  pub short : 2 + length digits ≤ 20000

pub record IsCommand (peer : ℕ) (digits : List ℕ) : Type 0 where
  pub peer_from : 1 ≤ peer
  pub peer_to : peer ≤ 65535
  pub hex : is_hex digits ≡ true
  pub short : 3 + length (decimal peer) + length digits ≤ 20000

-- The value is a line of a script: its numbers are in range, and its spelling has at most 20,000 bytes.
abbrev pub IsScriptLine : ScriptLine → Type 0
IsScriptLine (line.header c) = IsConfig c
IsScriptLine (line.announce size) = size < 2 ^ 64
IsScriptLine (line.queue place generation) = IsId place generation
IsScriptLine (line.revoke place generation) = IsId place generation
IsScriptLine (line.flush operation) = operation < 2 ^ 32
IsScriptLine line.start = ⊤
IsScriptLine (line.stop flags) = flags < 2 ^ 32
IsScriptLine (line.tick moment) = moment < 2 ^ 64
IsScriptLine (line.datagram digits) = IsDatagram digits
IsScriptLine line.take = ⊤
IsScriptLine line.kill = ⊤
IsScriptLine line.event_flush = ⊤
IsScriptLine (line.info which) = which < 2 ^ 32
IsScriptLine (line.buffer_info place generation which) = IsId place generation × (which < 2 ^ 32)
IsScriptLine (line.open_child parent index) = IsParent parent × (index < 2 ^ 32)
IsScriptLine (line.close_all serial) = serial < 2 ^ 64
IsScriptLine (line.step actor act place) = IsStep actor act place
IsScriptLine (line.mode mode) = mode ≤ 2
IsScriptLine line.end_of_script = ⊤
IsScriptLine line.camera_header = ⊤
IsScriptLine (line.command peer digits) = IsCommand peer digits
IsScriptLine line.frame = ⊤
