-- The two ends of a queue, as callers see them: what each gave or took, and how often it found the queue full or empty.
use Rattle.std.specs.Prelude.{◌≡◌, ℕ, suc, ◌≤◌, List, ◌++◌, length}
use Rattle.atomic_table.specs.Seated.{TableId}

-- a queue: which it is, and how many items it has room for
pub record LineId : Type 0 where
  pub table : TableId
  pub capacity : ℕ

pub record GiverEnd (T : Type 0) : Type 0 where
  pub line : TableId
  pub given : List T
  -- how many tries to give found the queue full
  pub refusals : ℕ

pub record TakerEnd (T : Type 0) : Type 0 where
  pub line : TableId
  -- how many had been given at least when the ends parted
  pub least : ℕ
  pub taken : List T
  -- how many tries to take found the queue empty
  pub misses : ℕ

module _ {T : Type 0} where
  abbrev pub gave : GiverEnd T → List T → GiverEnd T
  gave e items = record { line = e.line; given = e.given ++ items; refusals = e.refusals }

  -- One try more found the queue full.
  abbrev pub refused : GiverEnd T → GiverEnd T
  refused e = record { line = e.line; given = e.given; refusals = suc e.refusals }

  abbrev pub took : TakerEnd T → List T → TakerEnd T
  took e items = record { line = e.line; least = e.least; taken = e.taken ++ items; misses = e.misses }

  -- One try more found the queue empty.
  abbrev pub missed : TakerEnd T → TakerEnd T
  missed e = record { line = e.line; least = e.least; taken = e.taken; misses = suc e.misses }

  -- At one moment all that had been given was taken, and that was no fewer than when the ends parted.
  pub record WasEmpty (e : TakerEnd T) : Type 0 where
    pub given : List T
    pub least : e.least ≤ length given
    pub all_taken : given ≡ e.taken

  -- At one moment the queue held as many as it has room for, of what had been given.
  pub record WasFull (capacity : ℕ) (e : GiverEnd T) : Type 0 where
    pub taken : List T
    pub held : List T
    pub full : length held ≡ capacity
    pub same : e.given ≡ taken ++ held

  -- the one list begins with the other
  pub record BeginsWith (whole front : List T) : Type 0 where
    pub rest : List T
    pub is : whole ≡ front ++ rest
