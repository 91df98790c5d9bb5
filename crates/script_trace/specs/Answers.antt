-- The line of the report for what a call was answered: `ok` or a value, or the number of the refusal.
use Rattle.std.specs.Prelude.{ℕ, List, Result, Ok, Err}
use Rattle.gentl_types.specs.declared.buffer_id.BufferId.{BufferId}
use Rattle.gentl_types.specs.declared.errors.GcError.{GcError}
use Rattle.gentl_types.specs.Codes.{code_of}
use Rattle.gev_report.specs.ReplayLines.{result_line, id_line, value_line}

abbrev pub refused_text : List ℕ → GcError → List ℕ
refused_text word error = result_line word (Err (code_of error))

-- nothing but that the call was done
abbrev pub done_text : List ℕ → List ℕ
done_text word = result_line word (Ok tt)

abbrev pub answer_text : List ℕ → Result (Unit {0}) GcError → List ℕ
answer_text word (Ok done) = done_text word
answer_text word (Err error) = refused_text word error

-- a buffer's id
abbrev pub id_text : List ℕ → Result BufferId GcError → List ℕ
id_text word (Ok id) = id_line word id
id_text word (Err error) = refused_text word error

-- the value of the information with this number
abbrev pub value_text : List ℕ → ℕ → Result ℕ GcError → List ℕ
value_text word which (Ok value) = value_line word which value
value_text word which (Err error) = refused_text word error
