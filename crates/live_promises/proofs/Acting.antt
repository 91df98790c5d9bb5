-- Acts one after the other.
use Rattle.std.proofs.Common.{◌≡◌, inl, inr, ℕ, List, [], ◌∷◌, ◌++◌, refl, ap, sym, subst, ◌∙◌, append_assoc}
use Rattle.gvcp_wire.specs.Messages.{PlainCommand}
use Rattle.client_machine.specs.Machine.{Client}
use Rattle.gev_links.specs.Links.{Address, Adds}
use Rattle.gev_links.proofs.Growing.{tells_none, tells_then, adds_none}
use Rattle.gev_control.specs.CarriesOut.{ControlSide}
use Rattle.gev_control.specs.Sends.{addressed}
use Rattle.gev_control.proofs.Fronts.{added_then}
use Rattle.live_promises.specs.Moves.{Move, moves_sent, moves_heard, datagrams}
use Rattle.live_promises.proofs.Links.{sent-append, heard-append, datagrams-append}
use Rattle.live_promises.specs.Acts.{Act, turns, gets, asks, behind, behind_all, moves_by, moves_in, IsAmong, IsTimed, AreTimed, HasActed, NoneLost, Ended, ended_by, ended_in, submitted_by, submitted_in, asked_by, asked_in}

pub behind-append : (s : Client) (xs ys : List Act) → behind_all s (xs ++ ys) ≡ behind_all (behind_all s xs) ys
behind-append s [] ys = refl
behind-append s (x ∷ xs) ys = behind-append (behind s x) xs ys

pub moves-append : (s : Client) (xs ys : List Act) → moves_in s (xs ++ ys) ≡ moves_in s xs ++ moves_in (behind_all s xs) ys
moves-append s [] ys = refl
moves-append s (x ∷ xs) ys =
    ap (λ (l : List Move). moves_by s x ++ l) (moves-append (behind s x) xs ys)
    ∙ sym (append_assoc (moves_by s x) (moves_in (behind s x) xs) (moves_in (behind_all (behind s x) xs) ys))

pub ended-append : (s : Client) (xs ys : List Act) → ended_in s (xs ++ ys) ≡ ended_in s xs ++ ended_in (behind_all s xs) ys
ended-append s [] ys = refl
ended-append s (x ∷ xs) ys =
    ap (λ (l : List Ended). ended_by s x ++ l) (ended-append (behind s x) xs ys)
    ∙ sym (append_assoc (ended_by s x) (ended_in (behind s x) xs) (ended_in (behind_all (behind s x) xs) ys))

pub submitted-append : (s : Client) (xs ys : List Act) → submitted_in s (xs ++ ys) ≡ submitted_in s xs ++ submitted_in (behind_all s xs) ys
submitted-append s [] ys = refl
submitted-append s (x ∷ xs) ys =
    ap (λ (l : List PlainCommand). submitted_by s x ++ l) (submitted-append (behind s x) xs ys)
    ∙ sym (append_assoc (submitted_by s x) (submitted_in (behind s x) xs) (submitted_in (behind_all (behind s x) xs) ys))

pub asked-append : (xs ys : List Act) → asked_in (xs ++ ys) ≡ asked_in xs ++ asked_in ys
asked-append [] ys = refl
asked-append (x ∷ xs) ys = ap (λ (l : List (List ℕ)). asked_by x ++ l) (asked-append xs ys) ∙ sym (append_assoc (asked_by x) (asked_in xs) (asked_in ys))

pub whole_both : (xs ys : List Act) → NoneLost xs → NoneLost ys → NoneLost (xs ++ ys)
whole_both [] ys first second = second
whole_both (x ∷ xs) ys first second = (first.0, whole_both xs ys first.1 second)

-- ---- moments

among_left : (moment : ℕ) (xs ys : List ℕ) → IsAmong moment xs → IsAmong moment (xs ++ ys)
among_left moment [] ys there = absurd there
among_left moment (x ∷ xs) ys (inl is) = inl is
among_left moment (x ∷ xs) ys (inr there) = inr (among_left moment xs ys there)

among_right : (moment : ℕ) (xs ys : List ℕ) → IsAmong moment ys → IsAmong moment (xs ++ ys)
among_right moment [] ys there = there
among_right moment (x ∷ xs) ys there = inr (among_right moment xs ys there)

timed_left : (ms ns : List ℕ) (a : Act) → IsTimed ms a → IsTimed (ms ++ ns) a
timed_left ms ns (turns c moment sent) timed = among_left moment ms ns timed
timed_left ms ns (gets bytes moment) timed = among_left moment ms ns timed
timed_left ms ns (asks bytes) timed = tt

timed_right : (ms ns : List ℕ) (a : Act) → IsTimed ns a → IsTimed (ms ++ ns) a
timed_right ms ns (turns c moment sent) timed = among_right moment ms ns timed
timed_right ms ns (gets bytes moment) timed = among_right moment ms ns timed
timed_right ms ns (asks bytes) timed = tt

all_right : (ms ns : List ℕ) (ys : List Act) → AreTimed ns ys → AreTimed (ms ++ ns) ys
all_right ms ns [] timed = tt
all_right ms ns (y ∷ ys) timed = (timed_right ms ns y timed.0, all_right ms ns ys timed.1)

pub timed_both : (ms ns : List ℕ) (xs ys : List Act) → AreTimed ms xs → AreTimed ns ys → AreTimed (ms ++ ns) (xs ++ ys)
timed_both ms ns [] ys first second = all_right ms ns ys second
timed_both ms ns (x ∷ xs) ys first second = (timed_left ms ns x first.0, timed_both ms ns xs ys first.1 second)

-- ---- what was done

pub acted_none : (camera : Address) (o n : ControlSide) → n ≡ o → HasActed camera o n []
acted_none camera o n same = subst (λ (x : ControlSide). HasActed camera o x []) (sym same) (record {
  client = refl;
  answers = [];
  heard = tells_none o.heard;
  came = refl;
  sent = adds_none o.sent;
  moments = [];
  told = tells_none o.told;
  timed = tt;
})

module _ (camera : Address) (o m n : ControlSide) (xs ys : List Act) (first : HasActed camera o m xs) (second : HasActed camera m n ys) where
  came_then : datagrams (first.answers ++ second.answers) ≡ moves_heard (moves_in o.client (xs ++ ys))
  came_then =
      datagrams-append first.answers second.answers
      ∙ (ap (λ (l : List (List ℕ)). l ++ datagrams second.answers) first.came
      ∙ (ap (λ (l : List (List ℕ)). moves_heard (moves_in o.client xs) ++ l) (second.came ∙ ap (λ (s : Client). moves_heard (moves_in s ys)) first.client)
      ∙ (sym (heard-append (moves_in o.client xs) (moves_in (behind_all o.client xs) ys)) ∙ ap moves_heard (sym (moves-append o.client xs ys)))))

  sent_then : moves_sent (moves_in o.client xs) ++ moves_sent (moves_in m.client ys) ≡ moves_sent (moves_in o.client (xs ++ ys))
  sent_then =
      ap (λ (s : Client). moves_sent (moves_in o.client xs) ++ moves_sent (moves_in s ys)) first.client
      ∙ (sym (sent-append (moves_in o.client xs) (moves_in (behind_all o.client xs) ys)) ∙ ap moves_sent (sym (moves-append o.client xs ys)))

  pub acted_then : HasActed camera o n (xs ++ ys)
  acted_then = record {
    client = second.client ∙ (ap (λ (s : Client). behind_all s ys) first.client ∙ sym (behind-append o.client xs ys));
    answers = first.answers ++ second.answers;
    heard = tells_then o.heard m.heard n.heard first.answers second.answers first.heard second.heard;
    came = came_then;
    sent =
        subst (λ (l : List (List ℕ)). Adds o.sent n.sent (addressed camera l)) sent_then
        (added_then camera o.sent m.sent n.sent (moves_sent (moves_in o.client xs)) (moves_sent (moves_in m.client ys)) first.sent second.sent);
    moments = first.moments ++ second.moments;
    told = tells_then o.told m.told n.told first.moments second.moments first.told second.told;
    timed = timed_both first.moments second.moments xs ys first.timed second.timed;
  }
