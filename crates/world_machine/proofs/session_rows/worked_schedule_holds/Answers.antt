use Rattle.std.proofs.Common.{ℕ, List, [], ◌∷◌, refl, inl, arith}
use Rattle.std.specs.List.{Contains}
use Rattle.wire_fields.specs.Fields.{number_at}
use Rattle.bootstrap_regs.specs.Registers.{register_at}
use Rattle.camera_machine.specs.Words.{words_from, initial_words}
use Rattle.world_machine.specs.Schedule.{IsSubmission}
use Rattle.world_machine.specs.SessionRows.{taking, releasing, take_bytes, release_bytes, take_ack}
use Rattle.world_machine.proofs.session_rows.worked_schedule_holds.Goals as goal

submits_taking : IsSubmission taking
submits_taking = record {
  command = record { access = tt; command = λ req some. record { request = some; allowed = (refl, record { count = 1; some = omega arith; few = omega arith; whole = refl }); fits = omega arith } };
  widths = tt;
}

submits_releasing : IsSubmission releasing
submits_releasing = record {
  command = record { access = tt; command = λ req some. record { request = some; allowed = (refl, record { count = 1; some = omega arith; few = omega arith; whole = refl }); fits = omega arith } };
  widths = tt;
}

first_in : (x : List ℕ) (xs : List (List ℕ)) → Contains (x ∷ xs) x
first_in x xs = (0, omega arith, refl)

second_in : (y x : List ℕ) (xs : List (List ℕ)) → Contains (y ∷ x ∷ xs) x
second_in y x xs = (1, omega arith, refl)

pub returns : goal.returns
unfolding number_at register_at words_from initial_words
returns c = record {
  schedule = record {
    schedule = (
      inl (record { peer_is = refl; was_sent = first_in take_bytes (release_bytes ∷ []) }),
      (
        inl (record { peer_is = refl; was_sent = second_in take_bytes release_bytes [] }),
        (
          tt,
          (
            submits_releasing,
            (
              first_in take_ack (take_ack ∷ []),
              (
                inl (record { peer_is = refl; was_sent = first_in take_bytes [] }),
                (inl (record { peer_is = refl; was_sent = first_in take_bytes [] }), (tt, (submits_taking, tt))),
              ),
            ),
          ),
        ),
      ),
    );
    few = omega arith;
  };
  running_at_first = refl;
  acks_at_first = refl;
  outcome = refl;
  submitted = refl;
  acks = refl;
  ended = refl;
  running = refl;
}
