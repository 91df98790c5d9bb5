-- Which line comes next of the bytes that a source gives, and what was read for it.
use Rattle.std.specs.Prelude.{◌≡◌, ◌≢◌, ◌⊎◌, ℕ, ◌+◌, ◌<◌, ◌≤◌, List, [], ◌∷◌, ◌++◌, length, slice_index, Option, Some, None, Result, Ok, Err}
use Rattle.gev_links.specs.Faults.{Rose}
use Rattle.gev_links.specs.Told.{Gives, IsSpent}
use Rattle.gev_script.specs.declared.line_end.LineEnd.{LineEnd}
use Rattle.gev_script.specs.declared.line_end.LineEnd.TheVariants.{Long, NoEnd, Many, ReadFault}

-- no byte is a line feed
abbrev pub HasNoFeed : List ℕ → Type 0
HasNoFeed bytes = (i : ℕ) → i < length bytes → slice_index bytes i ≢ 10

-- no whole line, and not yet too long
pub record IsOpen (bytes : List ℕ) : Type 0 where
  pub no_feed : HasNoFeed bytes
  pub short : length bytes ≤ 20000

-- More than 20,000 bytes stand before a line feed or the end.
pub record IsLong (bytes : List ℕ) : Type 0 where
  pub some : 20000 < length bytes
  pub no_feed : (i : ℕ) → i ≤ 20000 → slice_index bytes i ≢ 10

-- The bytes begin with this line, and the rest follows its line feed.
pub record IsLine (bytes line rest : List ℕ) : Type 0 where
  pub parts : bytes ≡ line ++ 10 ∷ rest
  pub no_feed : HasNoFeed line
  pub short : length line ≤ 20000

-- Where bytes came, those that were held before had no whole line and weren't too long, so the first read of the call was
-- wanted. It's no promise on the reads behind it.
abbrev pub IsPrompt : List ℕ → List ℕ → Type 0
IsPrompt held more = (more ≡ []) ⊎ IsOpen held

-- These bytes were held or came, no more than there is room for; the first of them that came were wanted; and this
-- holds of all of them. Where they begin with a line, its line feed and what is held behind it are among them.
pub record ReadsOn (held : List ℕ) (left left_after : Option (List ℕ)) (P : List ℕ → Type 0) : Type 0 where
  pub more : List ℕ
  pub given : Gives left left_after more
  pub prompt : IsPrompt held more
  pub few : length (held ++ more) ≤ 32768
  pub holds : P (held ++ more)

-- how many lines were given, the last of them, the bytes that are held, and the first refusal
pub record LinesState : Type 0 where
  pub given : ℕ
  pub line : List ℕ
  pub held : List ℕ
  pub refusal : Option LineEnd

-- why these bytes give no line, all of which are still held but for a line too many
abbrev pub CauseOfEnd : LineEnd → ℕ → List ℕ → List ℕ → Option (List ℕ) → ℕ → ℕ → Type 0
CauseOfEnd Long given bytes held left faults faults_after = IsLong bytes × (held ≡ bytes)
CauseOfEnd NoEnd given bytes held left faults faults_after = IsOpen bytes × (held ≡ bytes) × IsSpent left
CauseOfEnd Many given bytes held left faults faults_after = (given ≡ 4294967295) × ((line : List ℕ) × IsLine bytes line held)
CauseOfEnd ReadFault given bytes held left faults faults_after = IsOpen bytes × (held ≡ bytes) × Rose faults faults_after

-- the next line and its number, or why there is none, where there was no refusal before
abbrev pub Nexts : Result ℕ LineEnd → LinesState → LinesState → Option (List ℕ) → Option (List ℕ) → ℕ → ℕ → Type 0
Nexts (Ok n) old new left left_after faults faults_after =
    (n ≡ old.given + 1) × (n ≤ 4294967295) × (new.given ≡ n) × (new.refusal ≡ None)
    × ReadsOn old.held left left_after (λ bytes. IsLine bytes new.line new.held)
Nexts (Err end) old new left left_after faults faults_after =
    (new.given ≡ old.given) × (new.refusal ≡ Some end)
    × ReadsOn old.held left left_after (λ bytes. CauseOfEnd end old.given bytes new.held left_after faults faults_after)

-- A refusal is kept: it's given again, nothing is read, and no call is made that could fail.
pub record Keeps (end : LineEnd) (result : Result ℕ LineEnd) (old new : LinesState) (left left_after : Option (List ℕ)) (faults faults_after : ℕ) : Type 0 where
  pub again : result ≡ Err end
  pub same : new ≡ old
  pub unread : left_after ≡ left
  pub faultless : faults_after ≡ faults
