-- The lines of a script that is made are lines of a script.
use Rattle.std.proofs.Common.{ℕ, zero, suc, ◌+◌, ◌<◌, ◌≤◌, ◌^◌, List, ◌++◌, map, arith, lit<, lit≤}
use Rattle.std.specs.List.{All}
use Rattle.std.proofs.lemmas.List.Elements.{All-nil, All-from_recursion, All-append, All-weaker, All-map}
use Rattle.lossy_queue.specs.declared.datagram.Datagram.{Datagram}
use Rattle.lossy_queue.specs.declared.rates.Rates.{Rates}
use Rattle.gev_script.specs.Lines.{ScriptLine}
use Rattle.gev_script.specs.Spelling.{IsScriptLine}
use Rattle.gev_script.proofs.Spelled.{spelled}
use Rattle.gev_make.specs.declared.network.Network.{Network}
use Rattle.gev_make.specs.Network.{new_network, all_carried, emptied}
use Rattle.gev_make.specs.MakeText.{block_packets, opening_lines, datagram_line, FitsLine, turn_lines, block_lines, closing_lines, make_lines}
use Rattle.gev_make.specs.Laws.{IsReadAgain, MadeLinesAreRead}
use Rattle.gev_make.proofs.Fitting.{block_fits}

pub opening_are_lines : All IsScriptLine opening_lines
opening_are_lines =
    All-from_recursion IsScriptLine opening_lines (
      record {
        version_from = lit≤ tt;
        version_to = lit≤ tt;
        p_from = lit≤ tt;
        p_to = lit≤ tt;
        window_from = lit≤ tt;
        window_to = lit≤ tt;
        timeout_from = lit≤ tt;
        timeout_to = lit≤ tt;
        age_from = lit≤ tt;
        age_to = lit≤ tt;
        rounds = lit≤ tt;
      },
      (lit< tt, (lit< tt, (lit< tt, (lit< tt, (lit< tt, (tt, tt)))))),
    )

pub turn_are_lines : (b : ℕ) → b < 2 ^ 32 → All IsScriptLine (turn_lines b)
turn_are_lines b h = All-from_recursion IsScriptLine (turn_lines b) (omega arith, (tt, (lit< tt, tt)))

pub closing_are_lines : All IsScriptLine closing_lines
closing_are_lines = All-from_recursion IsScriptLine closing_lines (lit< tt, (tt, tt))

datagrams_are_lines : (queue : List Datagram) → All FitsLine queue → All IsScriptLine (map datagram_line queue)
datagrams_are_lines queue fit =
    All-map IsScriptLine datagram_line queue (All-weaker FitsLine (λ d. IsScriptLine (datagram_line d)) (λ d f. f.line) queue fit)

blocks_are_lines : (network : Network) (seed b n : ℕ) → All FitsLine network.queue → b + n ≤ 2 ^ 32 → All IsScriptLine (block_lines network seed b n)
unfolding block_lines
blocks_are_lines network seed b zero fit h = All-nil IsScriptLine
blocks_are_lines network seed b (suc n) fit h =
    let after : Network = all_carried network (block_packets seed b) in
    All-append IsScriptLine (map datagram_line after.queue ++ turn_lines b) (block_lines (emptied after) seed (b + 1) n)
    (All-append IsScriptLine (map datagram_line after.queue) (turn_lines b) (datagrams_are_lines after.queue (block_fits network seed b fit)) (turn_are_lines b (omega arith)))
    (blocks_are_lines (emptied after) seed (b + 1) n (All-nil FitsLine) (omega arith))

made_are_lines : (seed frames : ℕ) (rates : Rates) → frames < 2 ^ 32 → All IsScriptLine (make_lines seed frames rates)
unfolding make_lines
made_are_lines seed frames rates h =
    let blocks : List ScriptLine = block_lines (new_network seed rates) seed 1 frames in
    All-append IsScriptLine (opening_lines ++ blocks) closing_lines
    (All-append IsScriptLine opening_lines blocks opening_are_lines (blocks_are_lines (new_network seed rates) seed 1 frames (All-nil FitsLine) (omega arith)))
    closing_are_lines

pub made_are_read : MadeLinesAreRead
made_are_read seed frames rates h =
    All-weaker IsScriptLine IsReadAgain (λ l is. record { is_line = is; read = spelled l is }) (make_lines seed frames rates) (made_are_lines seed frames rates h)
