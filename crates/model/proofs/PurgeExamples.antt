-- Purges (document 02, Paper 4): tops raised, what a state becomes when the first log deltas go, which K are refused, and what the call answers.
use mathlib.Core.Path.{◌≡◌, refl}
use mathlib.Core.Bool.{Bool, true, false}
use mathlib.Core.List.{List, [], ◌∷◌, ◌++◌, map}
use Prim.Native.Nat.{ℕ}
use lib.ListN.{length, take, drop, get_or, set, replicate}
use lib.IntN.{ℤ, pos, negsuc}
use Rattle.model.specs.Tops.{raise_top}
use Rattle.model.specs.Order.{State, sequences_of, needs, executables_of, log_of, held_of}
use Rattle.model.specs.Setpoints.{start_values, stop, raise, operate, change_of, apply, run_command, run_delta, setpoints_of}
use Rattle.model.specs.Purge.{origin_past, purge_first}
use Rattle.model.specs.Image.{messages_start, messages_of, values_of, base_of, floors_of, header_of, sections_of, used_of}
use Rattle.model.specs.Codes.{exceeds_log, many_floors}
use Rattle.model.specs.Calls.{purge_answer}
use Rattle.model.specs.PlainStation.{accepts_purge, receive_purge}
use Rattle.model.proofs.ExampleMessages.{A, B, C, plain, urgent, right_commands, a1, a2, b1, c2, b1_5, a1_group_2, lines, holding, origin, after}

-- ---- a sequence and tops; the tops raised by it
raisings : List ((ℕ × List ℕ) × List ℕ)
raisings =
    ((A 1, []), A 1 ∷ [])
    -- a line's first: before the others, between them, behind them
    ∷ ((A 2, B 1 ∷ C 5 ∷ []), A 2 ∷ B 1 ∷ C 5 ∷ [])
    ∷ ((B 2, A 1 ∷ C 5 ∷ []), A 1 ∷ B 2 ∷ C 5 ∷ [])
    ∷ ((C 1, A 1 ∷ B 7 ∷ []), A 1 ∷ B 7 ∷ C 1 ∷ [])
    -- "its highest": raised, and not lowered
    ∷ ((B 9, A 1 ∷ B 7 ∷ C 5 ∷ []), A 1 ∷ B 9 ∷ C 5 ∷ [])
    ∷ ((B 3, A 1 ∷ B 7 ∷ C 5 ∷ []), A 1 ∷ B 7 ∷ C 5 ∷ [])
    ∷ []

raisings_hold : map (λ e. raise_top e.0.0 e.0.1) raisings ≡ map (λ e. e.1) raisings
unfolding raisings
raisings_hold = refl

-- ---- what a purge leaves: floors; the base value of tag 3, purged block and group; the log and the held ones; tag 3
pub record Left : Type 0 where
  pub floors : List ℕ
  pub base : ℤ
  pub block : ℕ
  pub group : ℕ
  pub log : List ℕ
  pub held : List ℕ
  pub value : ℤ

abbrev left_of : State → Left
left_of S = record {
  floors = S.origin.floors;
  base = get_or S.origin.base 3 (pos 0);
  block = S.origin.block;
  group = S.origin.group;
  log = sequences_of (log_of S);
  held = sequences_of (held_of S);
  value = get_or (setpoints_of S) 3 (pos 0);
}

abbrev left : List ℕ → ℤ → ℕ → ℕ → List ℕ → List ℕ → ℤ → Left
left floors base block group log held value =
    record { floors = floors; base = base; block = block; group = group; log = log; held = held; value = value }

-- A1 sets tag 3 to 1500, B1 adds -20, C2 is held
abbrev two : State
two = holding (a1 ∷ b1 ∷ c2 ∷ [])

-- B1 of group 1 needs A1 of group 2 and stands behind it
abbrev grouped : State
grouped = holding (a1_group_2 ∷ plain (B 1) (A 1 ∷ []) right_commands ∷ [])

-- A1 without priority, B1 of block 1, C1 of block 5, C2 of no block behind it
abbrev blocked : State
blocked = holding (a1 ∷ b1_5 ∷ urgent (C 1) 5 7 right_commands ∷ c2 ∷ [])

-- a station that purged before, A1 and a delta of block 3 and group 4, and has A2 and B1 in its log
abbrev again : State
again = after (record { floors = A 1 ∷ C 2 ∷ []; base = set (replicate 64 (pos 0)) 3 (pos 100); block = 3; group = 4 }) (a2 ∷ b1 ∷ [])

-- a station and K
purges : List ((State × ℕ) × Left)
purges =
    -- "drops the first K log messages", none, one, all; "the setpoints after them become the base values"; held ones and setpoints stay
    ((two, 0), left [] (pos 0) 0 0 (A 1 ∷ B 1 ∷ []) (C 2 ∷ []) (pos 1480))
    ∷ ((two, 1), left (A 1 ∷ []) (pos 1500) 0 1 (B 1 ∷ []) (C 2 ∷ []) (pos 1480))
    ∷ ((two, 2), left (A 1 ∷ B 1 ∷ []) (pos 1480) 0 1 [] (C 2 ∷ []) (pos 1480))
    -- of the log, and not by sequence: B1 of group 1 stands before A1 of group 2
    ∷ ((holding (a1_group_2 ∷ b1 ∷ []), 1), left (B 1 ∷ []) (negsuc 19) 0 1 (A 1 ∷ []) [] (pos 1500))
    -- "greatest purged group", though the last one's is lower
    ∷ ((grouped, 2), left (A 1 ∷ B 1 ∷ []) (pos 5) 0 2 [] [] (pos 5))
    -- "greatest purged effective block"
    ∷ ((blocked, 1), left (A 1 ∷ []) (pos 1500) 0 1 (B 1 ∷ C 1 ∷ C 2 ∷ []) [] (pos 5))
    ∷ ((blocked, 2), left (A 1 ∷ B 1 ∷ []) (pos 1480) 1 1 (C 1 ∷ C 2 ∷ []) [] (pos 5))
    ∷ ((blocked, 4), left (A 1 ∷ B 1 ∷ C 2 ∷ []) (pos 5) 5 1 [] [] (pos 5))
    -- a second purge: none changes nothing; its line's floor is raised, the others stay; run from the base values; block and group stay the greatest
    ∷ ((again, 0), left (A 1 ∷ C 2 ∷ []) (pos 100) 3 4 (A 2 ∷ B 1 ∷ []) [] (negsuc 12))
    ∷ ((again, 1), left (A 2 ∷ C 2 ∷ []) (pos 7) 3 4 (B 1 ∷ []) [] (negsuc 12))
    ∷ ((again, 2), left (A 2 ∷ B 1 ∷ C 2 ∷ []) (negsuc 12) 3 4 [] [] (negsuc 12))
    ∷ []

purges_hold : map (λ e. left_of (purge_first e.0.1 e.0.0)) purges ≡ map (λ e. e.1) purges
unfolding purges purge_first origin_past log_of held_of executables_of needs setpoints_of start_values run_delta run_command apply change_of operate raise stop
purges_hold = refl

-- ---- which K are refused: whether 15 and 16 hold, and whether the plain station accepts; how many deltas and floors it has then
abbrev floored : ℕ → State
floored n = after (origin (sequences_of (lines 1 n)) 0 1) (a1 ∷ b1 ∷ [])

refusals : List ((State × ℕ) × ((Bool × Bool × Bool) × (ℕ × ℕ)))
refusals =
    -- "K exceeds L": held ones do not count
    ((two, 2), ((false, false, true), (1, 2)))
    ∷ ((two, 3), ((true, false, false), (3, 0)))
    ∷ ((holding [], 0), ((false, false, true), (0, 0)))
    ∷ ((holding [], 1), ((true, false, false), (0, 0)))
    -- "over 32 floors would result": of 31 and a line more there are 32, of two lines more 33
    ∷ ((floored 31, 1), ((false, false, true), (1, 32)))
    ∷ ((floored 31, 2), ((false, true, false), (2, 31)))
    ∷ ((floored 31, 3), ((true, true, false), (2, 31)))
    -- with 32 a line that has one may still be purged, and nothing at all
    ∷ ((after (origin (sequences_of (lines 1 32)) 0 1) (lines 2 1), 1), ((false, false, true), (0, 32)))
    ∷ ((floored 32, 0), ((false, false, true), (2, 32)))
    ∷ ((floored 32, 1), ((false, true, false), (2, 32)))
    ∷ []

abbrev outcome : State → ℕ → (Bool × Bool × Bool) × (ℕ × ℕ)
outcome S K =
    let next = receive_purge S K in
    ((exceeds_log S K, many_floors S K, accepts_purge S K), (length next.deltas, length next.origin.floors))

refusals_hold : map (λ e. outcome e.0.0 e.0.1) refusals ≡ map (λ e. e.1) refusals
unfolding refusals receive_purge accepts_purge purge_first origin_past log_of needs start_values run_delta run_command apply change_of operate raise stop
refusals_hold = refl

-- ---- the bytes used of the image after a purge of A1: header, tag 3 of the setpoints and of the base values, floors, messages
sections : List (List ℕ × List ℕ)
sections =
    let b = used_of (purge_first 1 two) in
    -- L 1, H 1, setpoints at 32, messages at 556, used 652; F 1, floors at 544, base values at 288, block 0, group 1, zeros
    (
      take 32 b,
      0 ∷ 1 ∷ 0 ∷ 1 ∷ 0 ∷ 32 ∷ 0x02 ∷ 0x2C ∷ 0x02 ∷ 0x8C ∷ 0 ∷ 1 ∷ 0x02 ∷ 0x20 ∷ 0x01 ∷ 0x20
          ∷ 0 ∷ 0 ∷ 0 ∷ 0 ∷ 0 ∷ 0 ∷ 0 ∷ 1 ∷ 0 ∷ 0 ∷ 0 ∷ 0 ∷ 0 ∷ 0 ∷ 0 ∷ 0 ∷ [],
    )
    ∷ (take 4 (drop 44 b), 0 ∷ 0 ∷ 0x05 ∷ 0xC8 ∷ [])
    ∷ (take 4 (drop 300 b), 0 ∷ 0 ∷ 0x05 ∷ 0xDC ∷ [])
    ∷ (take 12 (drop 544 b), 0 ∷ 0 ∷ 0 ∷ 0 ∷ 0 ∷ 0x0A ∷ 0 ∷ 0 ∷ 0 ∷ 1 ∷ 0 ∷ 1 ∷ [])
    ∷ (drop 556 b, b1 ++ c2)
    -- "a refusal writes nothing"
    ∷ ((purge_answer 15 two (1 ∷ 2 ∷ []) 3).image, 1 ∷ 2 ∷ [])
    ∷ ((purge_answer 15 two (1 ∷ 2 ∷ []) 3).code ∷ (purge_answer 0 two [] 1).code ∷ [], 15 ∷ 0 ∷ [])
    ∷ []

sections_hold : map (λ e. e.0) sections ≡ map (λ e. e.1) sections
unfolding sections purge_first origin_past used_of sections_of header_of values_of base_of floors_of messages_of messages_start setpoints_of start_values run_delta run_command apply change_of operate raise stop log_of held_of executables_of needs
sections_hold = refl
