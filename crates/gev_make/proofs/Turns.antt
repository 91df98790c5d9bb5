-- One turn of each loop that writes lines: what was left is a first part, and what is left then.
use Rattle.std.proofs.Common.{◌≡◌, ℕ, suc, ◌+◌, ◌-◌, ◌<◌, ◌≤◌, List, [], ◌∷◌, ◌++◌, length, get_or, drop, map, refl, ap, sym, ◌∙◌, arith, subst, append_assoc, append-nil, add-one, drop-cons, drop_of_length-le}
use Rattle.std.specs.List.{All}
use Rattle.std.proofs.lemmas.List.Elements.{All-head, All-tail}
use Rattle.lossy_queue.specs.declared.datagram.Datagram.{Datagram}
use Rattle.lossy_queue.specs.declared.rates.Rates.{Rates}
use Rattle.gev_script.specs.declared.line.Line.{Line}
use Rattle.gev_script.specs.Lines.{ScriptLine, view}
use Rattle.gev_script.specs.Spelling.{IsScriptLine}
use Rattle.gev_make.specs.declared.network.Network.{Network}
use Rattle.gev_make.specs.Network.{new_network, all_carried, emptied}
use Rattle.gev_make.specs.MakeText.{block_packets, opening_lines, datagram_line, turn_lines, block_lines, closing_lines, make_lines, text_of, make_text}
use Rattle.gev_make.proofs.Texts.{text_of-append}

-- ---- lines of a slice

lines_left : (lines : List Line) (i : ℕ) (d : Line) → i < length lines → drop i lines ≡ get_or lines i d ∷ drop (i + 1) lines
lines_left lines i d h = rw add-one (drop-cons lines i d h)

pub first_is_line : (lines : List Line) (i : ℕ) (d : Line) → i < length lines → All IsScriptLine (map view (drop i lines)) → IsScriptLine (view (get_or lines i d))
first_is_line lines i d h all =
    All-head IsScriptLine (view (get_or lines i d)) (map view (drop (i + 1) lines))
    (subst (λ (ls : List Line). All IsScriptLine (map view ls)) (lines_left lines i d h) all)

pub others_are_lines : (lines : List Line) (i : ℕ) (d : Line) → i < length lines → All IsScriptLine (map view (drop i lines)) → All IsScriptLine (map view (drop (i + 1) lines))
others_are_lines lines i d h all =
    All-tail IsScriptLine (view (get_or lines i d)) (map view (drop (i + 1) lines))
    (subst (λ (ls : List Line). All IsScriptLine (map view ls)) (lines_left lines i d h) all)

pub lines_turn : (lines : List Line) (i : ℕ) (d : Line) → i < length lines
    → text_of (map view (drop i lines)) ≡ text_of (view (get_or lines i d) ∷ []) ++ text_of (map view (drop (i + 1) lines))
lines_turn lines i d h =
    ap (λ (ls : List Line). text_of (map view ls)) (lines_left lines i d h)
    ∙ text_of-append (view (get_or lines i d) ∷ []) (map view (drop (i + 1) lines))

pub lines_end : (lines : List Line) (i : ℕ) → length lines ≤ i → text_of (map view (drop i lines)) ≡ []
lines_end lines i h = ap (λ (ls : List Line). text_of (map view ls)) (drop_of_length-le lines h)

-- ---- datagrams of a queue

pub datagrams_turn : (queue rest : List Datagram) (d : Datagram) → queue ≡ d ∷ rest
    → text_of (map datagram_line queue) ≡ text_of (datagram_line d ∷ []) ++ text_of (map datagram_line rest)
datagrams_turn queue rest d e =
    ap (λ (q : List Datagram). text_of (map datagram_line q)) e ∙ text_of-append (datagram_line d ∷ []) (map datagram_line rest)

pub datagrams_end : (queue : List Datagram) → queue ≡ [] → text_of (map datagram_line queue) ≡ []
datagrams_end queue e = ap (λ (q : List Datagram). text_of (map datagram_line q)) e

-- ---- blocks

pub block_text : (network after : Network) (seed b : ℕ) → after ≡ all_carried network (block_packets seed b)
    → text_of (block_lines network seed b 1) ≡ text_of (map datagram_line after.queue) ++ text_of (turn_lines b)
unfolding block_lines
block_text network after seed b e =
    let held : List Datagram = (all_carried network (block_packets seed b)).queue in
    ap text_of (append-nil (map datagram_line held ++ turn_lines b))
    ∙ (text_of-append (map datagram_line held) (turn_lines b)
    ∙ ap (λ (n : Network). text_of (map datagram_line n.queue) ++ text_of (turn_lines b)) (sym e))

blocks_more : (network : Network) (seed b n : ℕ)
    → text_of (block_lines network seed b (suc n))
    ≡ text_of (block_lines network seed b 1) ++ text_of (block_lines (emptied (all_carried network (block_packets seed b))) seed (b + 1) n)
unfolding block_lines
blocks_more network seed b n =
    let after : Network = all_carried network (block_packets seed b) in
    let first : List ScriptLine = map datagram_line after.queue ++ turn_lines b in
    let others : List ScriptLine = block_lines (emptied after) seed (b + 1) n in
    text_of-append first others ∙ ap (λ (ls : List ScriptLine). text_of ls ++ text_of others) (sym (append-nil first))

pub blocks_turn : (network after : Network) (seed made frames : ℕ) → made < frames → after ≡ emptied (all_carried network (block_packets seed (made + 1)))
    → text_of (block_lines network seed (made + 1) (frames - made))
    ≡ text_of (block_lines network seed (made + 1) 1) ++ text_of (block_lines after seed (made + 1 + 1) (frames - (made + 1)))
blocks_turn network after seed made frames h e =
    let more : frames - made ≡ suc (frames - (made + 1)) = omega arith in
    ap (λ (n : ℕ). text_of (block_lines network seed (made + 1) n)) more
    ∙ (blocks_more network seed (made + 1) (frames - (made + 1))
    ∙ ap (λ (n : Network). text_of (block_lines network seed (made + 1) 1) ++ text_of (block_lines n seed (made + 1 + 1) (frames - (made + 1)))) (sym e))

no_blocks : (network : Network) (seed b : ℕ) → text_of (block_lines network seed b 0) ≡ []
unfolding block_lines
no_blocks network seed b = refl

pub blocks_end : (network : Network) (seed b made frames : ℕ) → frames ≤ made → text_of (block_lines network seed b (frames - made)) ≡ []
blocks_end network seed b made frames h =
    let none : frames - made ≡ 0 = omega arith in
    ap (λ (n : ℕ). text_of (block_lines network seed b n)) none ∙ no_blocks network seed b

-- ---- the script

pub script_text : (seed frames : ℕ) (rates : Rates) (network : Network) → network ≡ new_network seed rates
    → make_text seed frames rates ≡ text_of opening_lines ++ (text_of (block_lines network seed 1 frames) ++ text_of closing_lines)
unfolding make_lines
script_text seed frames rates network e =
    let blocks : List ScriptLine = block_lines (new_network seed rates) seed 1 frames in
    text_of-append (opening_lines ++ blocks) closing_lines
    ∙ (ap (λ (t : List ℕ). t ++ text_of closing_lines) (text_of-append opening_lines blocks)
    ∙ (append_assoc (text_of opening_lines) (text_of blocks) (text_of closing_lines)
    ∙ ap (λ (n : Network). text_of opening_lines ++ (text_of (block_lines n seed 1 frames) ++ text_of closing_lines)) (sym e)))
