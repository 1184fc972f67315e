-- The station image: the header, the values and the messages of a state, and the messages read back from the bytes used.
use mathlib.Core.Path.{◌≡◌, refl}
use mathlib.Core.List.{List, [], ◌∷◌, ◌++◌, map}
use Prim.Native.Nat.{ℕ}
use lib.ListN.{length, take, drop, replicate}
use Rattle.model.specs.Message.{Message}
use Rattle.model.specs.Order.{needs, executables_of, log_of, held_of}
use Rattle.model.specs.Setpoints.{start_values, stop, raise, operate, change_of, apply, run_command, run_delta, setpoints_of}
use Rattle.model.specs.Image.{messages_start, messages_of, values_of, base_of, floors_of, header_of, sections_of, used_of, messages_start_in, log_in, messages_in, held_in}
use Rattle.model.proofs.ExampleMessages.{a1, a2, b1, c2, b1_5, c1_7, a1_naming_b1, b1_naming_a1, holding}

-- ---- "log count L, held count H, offset of setpoints, offset of messages, bytes used", and of 32 bytes those from 10 on: "number of floors F,
-- offset of floors, offset of base values, greatest purged effective block, greatest purged group, zero"
abbrev never_purged : List ℕ
never_purged = 0 ∷ 0 ∷ 0x02 ∷ 0x20 ∷ 0x01 ∷ 0x20 ∷ replicate 16 0

headers : List (List Message × List ℕ)
headers =
    -- No deltas: L 0, H 0, used 544.
    ([], 0 ∷ 0 ∷ 0 ∷ 0 ∷ 0 ∷ 32 ∷ 0x02 ∷ 0x20 ∷ 0x02 ∷ 0x20 ∷ never_purged)
    -- A1: L 1, used 592.
    ∷ (a1 ∷ [], 0 ∷ 1 ∷ 0 ∷ 0 ∷ 0 ∷ 32 ∷ 0x02 ∷ 0x20 ∷ 0x02 ∷ 0x50 ∷ never_purged)
    -- A1 and B1 each naming the other: L 0, H 2, used 664.
    ∷ (b1_naming_a1 ∷ a1_naming_b1 ∷ [], 0 ∷ 0 ∷ 0 ∷ 2 ∷ 0 ∷ 32 ∷ 0x02 ∷ 0x20 ∷ 0x02 ∷ 0x98 ∷ never_purged)
    -- A1, B1 and C2: L 2, H 1, used 688.
    ∷ (a1 ∷ b1 ∷ c2 ∷ [], 0 ∷ 2 ∷ 0 ∷ 1 ∷ 0 ∷ 32 ∷ 0x02 ∷ 0x20 ∷ 0x02 ∷ 0xB0 ∷ never_purged)
    ∷ []

headers_hold : map (λ e. take 32 (used_of (holding e.0))) headers ≡ map (λ e. e.1) headers
unfolding headers used_of sections_of header_of values_of base_of floors_of messages_of messages_start log_of held_of executables_of needs
headers_hold = refl

-- ---- how many bytes are used: 544, and the messages'
sizes : List (List Message × ℕ)
sizes = ([], 544) ∷ (a1 ∷ [], 592) ∷ (a2 ∷ [], 592) ∷ (b1_naming_a1 ∷ a1_naming_b1 ∷ [], 664) ∷ (a1 ∷ b1 ∷ c2 ∷ [], 688) ∷ []

sizes_hold : map (λ e. length (used_of (holding e.0))) sizes ≡ map (λ e. e.1) sizes
unfolding sizes used_of sections_of header_of values_of base_of floors_of messages_of messages_start setpoints_of start_values run_delta run_command apply change_of operate raise stop log_of held_of executables_of needs
sizes_hold = refl

-- ---- "Then 64 values of four bytes, as the log leaves them": tags 2 to 4
values : List (List Message × List ℕ)
values =
    ([], 0 ∷ 0 ∷ 0 ∷ 0 ∷ 0 ∷ 0 ∷ 0 ∷ 0 ∷ 0 ∷ 0 ∷ 0 ∷ 0 ∷ [])
    -- 1500
    ∷ (a1 ∷ [], 0 ∷ 0 ∷ 0 ∷ 0 ∷ 0x00 ∷ 0x00 ∷ 0x05 ∷ 0xDC ∷ 0 ∷ 0 ∷ 0 ∷ 0 ∷ [])
    -- -20
    ∷ (b1 ∷ [], 0 ∷ 0 ∷ 0 ∷ 0 ∷ 0xFF ∷ 0xFF ∷ 0xFF ∷ 0xEC ∷ 0 ∷ 0 ∷ 0 ∷ 0 ∷ [])
    -- 1480, and 20 at tag 4
    ∷ (a1 ∷ b1 ∷ c1_7 ∷ [], 0 ∷ 0 ∷ 0 ∷ 0 ∷ 0x00 ∷ 0x00 ∷ 0x05 ∷ 0xC8 ∷ 0x00 ∷ 0x00 ∷ 0x00 ∷ 0x14 ∷ [])
    ∷ []

values_hold : map (λ e. take 12 (drop 40 (used_of (holding e.0)))) values ≡ map (λ e. e.1) values
unfolding values used_of sections_of header_of values_of base_of floors_of messages_of messages_start setpoints_of start_values run_delta run_command apply change_of operate raise stop log_of held_of executables_of needs
values_hold = refl

-- ---- "Then the log's messages in order, the held ones by ascending sequence"
messages : List (List Message × List ℕ)
messages =
    ([], [])
    ∷ (b1_5 ∷ c1_7 ∷ a1 ∷ [], a1 ++ c1_7 ++ b1_5)
    -- A2 is held, and stands behind the log
    ∷ (a2 ∷ b1 ∷ [], b1 ++ a2)
    ∷ (c2 ∷ a2 ∷ b1 ∷ [], b1 ++ a2 ++ c2)
    ∷ (b1_naming_a1 ∷ a1_naming_b1 ∷ [], a1_naming_b1 ++ b1_naming_a1)
    ∷ []

messages_hold : map (λ e. drop 544 (used_of (holding e.0))) messages ≡ map (λ e. e.1) messages
unfolding messages used_of sections_of header_of values_of base_of floors_of messages_of messages_start setpoints_of start_values run_delta run_command apply change_of operate raise stop log_of held_of executables_of needs
messages_hold = refl

-- ---- read back from the bytes used: the log, the held ones, and all messages
read_back : List (List Message × (List Message × List Message × List Message))
read_back =
    ([], ([], [], []))
    ∷ (b1 ∷ a1 ∷ [], (a1 ∷ b1 ∷ [], [], a1 ∷ b1 ∷ []))
    ∷ (a2 ∷ b1 ∷ [], (b1 ∷ [], a2 ∷ [], b1 ∷ a2 ∷ []))
    ∷ (b1_naming_a1 ∷ a1_naming_b1 ∷ [], ([], a1_naming_b1 ∷ b1_naming_a1 ∷ [], a1_naming_b1 ∷ b1_naming_a1 ∷ []))
    ∷ []

abbrev read_from : List ℕ → List Message × List Message × List Message
read_from b = (log_in b, held_in b, messages_in b)

read_back_holds : map (λ e. read_from (used_of (holding e.0))) read_back ≡ map (λ e. e.1) read_back
unfolding read_back messages_start_in used_of sections_of header_of values_of base_of floors_of messages_of messages_start setpoints_of start_values run_delta run_command apply change_of operate raise stop log_of held_of executables_of needs
read_back_holds = refl
