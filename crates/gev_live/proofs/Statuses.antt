-- Each answer by which a live run's workers ended is one that a live run can give.
use Rattle.std.proofs.Common.{ℕ, ◌==◌, Result, Ok, Err}
use Rattle.std.proofs.lemmas.Bool.{cond_both}
use Rattle.gev_status.specs.declared.status.Status.TheVariants.{Done, NoMemory, TurnsSpent}
use Rattle.gev_serve.specs.declared.ends.ServeEnd.{ServeEnd}
use Rattle.gev_serve.specs.declared.ends.ServeEnd.TheVariants as serves
use Rattle.gev_control.specs.declared.acq_end.AcqEnd.{AcqEnd}
use Rattle.gev_control.specs.declared.acq_end.AcqEnd.TheVariants as reads
use Rattle.gev_live.specs.Endings.{read_status, application_status, camera_status, status_by, IsAnswer}

read_answers : (end : AcqEnd) (frames turns taken : ℕ) → IsAnswer (read_status end frames turns taken)
read_answers reads.Stopped frames turns taken = cond_both (taken == frames) Done NoMemory (λ s. IsAnswer s) (λ e. tt) (λ e. tt)
read_answers reads.Spent frames turns taken = cond_both (taken == frames) Done (TurnsSpent turns taken) (λ s. IsAnswer s) (λ e. tt) (λ e. tt)
read_answers reads.Fault frames turns taken = tt
read_answers (reads.NoAnswer req) frames turns taken = tt
read_answers (reads.Refused status) frames turns taken = tt

application_answers : {E : Type 0} (end : AcqEnd) (frames turns : ℕ) (answer : Result ℕ E) → IsAnswer (application_status end frames turns answer)
application_answers end frames turns (Ok taken) = read_answers end frames turns taken
application_answers end frames turns (Err error) = tt

camera_answers : {E : Type 0} (served : ServeEnd) (end : AcqEnd) (frames turns : ℕ) (answer : Result ℕ E) → IsAnswer (camera_status served end frames turns answer)
camera_answers serves.Stopped end frames turns answer = application_answers end frames turns answer
camera_answers serves.Fault end frames turns answer = tt
camera_answers serves.NoMemory end frames turns answer = tt
camera_answers serves.Spent end frames turns answer = application_answers end frames turns answer

pub all_answers : {E : Type 0} (served : ServeEnd) (end : AcqEnd) (frames turns : ℕ) (answer : Result ℕ E) → IsAnswer (status_by served end frames turns answer)
all_answers served reads.Stopped frames turns answer = camera_answers served reads.Stopped frames turns answer
all_answers served reads.Spent frames turns answer = camera_answers served reads.Spent frames turns answer
all_answers served reads.Fault frames turns answer = tt
all_answers served (reads.NoAnswer req) frames turns answer = camera_answers served (reads.NoAnswer req) frames turns answer
all_answers served (reads.Refused status) frames turns answer = camera_answers served (reads.Refused status) frames turns answer
