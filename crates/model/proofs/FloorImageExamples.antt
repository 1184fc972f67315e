-- What a log may start from, and its image: floors, base values, purged block and group in the sections of an image, and read back
-- (document 02, Paper 4).
use mathlib.Core.Path.{◌≡◌, refl}
use mathlib.Core.Bool.{Bool, true, false}
use mathlib.Core.List.{List, [], ◌∷◌, ◌++◌, map}
use Prim.Native.Nat.{ℕ, ◌+◌, ◌^◌}
use lib.ListN.{take, drop, set, replicate}
use lib.IntN.{ℤ, pos, negsuc}
use Rattle.model.specs.Layout.{field_limit}
use Rattle.model.specs.Message.{Message, layout_right, numbers_right, dependencies_right, content_right, command_right, passes}
use Rattle.model.specs.Tops.{tops_right}
use Rattle.model.specs.Order.{Origin, first_origin, origin_right, State, sequences_of, needs, executables_of, log_of, held_of}
use Rattle.model.specs.Setpoints.{start_values, stop, raise, operate, change_of, apply, run_command, run_delta, setpoints_of}
use Rattle.model.specs.Image.{messages_start, messages_of, values_of, base_of, floors_of, header_of, sections_of, used_of, image_of, messages_start_in, floors_in, base_in, origin_in, log_in, held_in, is_image}
use Rattle.model.specs.Calls.{start}
use Rattle.model.proofs.ExampleMessages.{A, B, a1, a2, c2, lines, origin, after}

-- ---- an origin, and whether an image may have it
abbrev based : List ℕ → List ℤ → Origin
based floors base = record { floors = floors; base = base; block = 0; group = 0 }

abbrev zeros : List ℤ
zeros = replicate 64 (pos 0)

origins : List (Origin × Bool)
origins =
    (first_origin, true)
    -- "A floor is a line and its highest purged number, ascending": not so, two of one line, and "numbers of at least 1"
    ∷ (origin (A 1 ∷ B 2 ∷ []) 3 4, true)
    ∷ (origin (A 2 ∷ B 1 ∷ []) 0 0, true)
    ∷ (origin (B 2 ∷ A 1 ∷ []) 3 4, false)
    ∷ (origin (A 1 ∷ A 2 ∷ []) 3 4, false)
    ∷ (origin (A 0 ∷ B 2 ∷ []) 3 4, false)
    ∷ (origin (A 1 ∷ B 0 ∷ []) 3 4, false)
    -- of 13 bytes, which no image has
    ∷ (origin ((A 1 + 256 ^ 12) ∷ []) 3 4, false)
    -- "at most 32"
    ∷ (origin (sequences_of (lines 1 32)) 3 4, true)
    ∷ (origin (sequences_of (lines 1 33)) 3 4, false)
    -- 64 "base values .. in range"
    ∷ (based (A 1 ∷ []) (set zeros 63 (pos 1000000)), true)
    ∷ (based (A 1 ∷ []) (set zeros 63 (pos 1000001)), false)
    ∷ (based (A 1 ∷ []) (set zeros 0 (negsuc 999999)), true)
    ∷ (based (A 1 ∷ []) (set zeros 0 (negsuc 1000000)), false)
    ∷ (based (A 1 ∷ []) (replicate 63 (pos 0)), false)
    ∷ (based (A 1 ∷ []) (replicate 65 (pos 0)), false)
    -- "purged block and group in range"
    ∷ (origin (A 1 ∷ []) field_limit field_limit, true)
    ∷ (origin (A 1 ∷ []) (field_limit + 1) 4, false)
    ∷ (origin (A 1 ∷ []) 3 (field_limit + 1), false)
    -- "with no floor, base values, block and group are zero"
    ∷ (based [] (set zeros 63 (pos 1)), false)
    ∷ (based [] (set zeros 63 (negsuc 0)), false)
    ∷ (origin [] 1 0, false)
    ∷ (origin [] 0 1, false)
    ∷ []

origins_hold : map (λ e. origin_right e.0) origins ≡ map (λ e. e.1) origins
unfolding origins origin_right tops_right
origins_hold = refl

-- ---- a station with two floors, base value 100 of tag 3, purged block 3 and group 4: A2, which sets tag 3 to 7, in the log, and C2 held
abbrev purged : Origin
purged = record { floors = A 1 ∷ B 2 ∷ []; base = set zeros 3 (pos 100); block = 3; group = 4 }

abbrev station : State
station = after purged (a2 ∷ c2 ∷ [])

-- the header; tag 3 of the setpoints and of the base values; the floors; the messages
sections : List (List ℕ × List ℕ)
sections =
    -- L 1, H 1, setpoints at 32, messages at 568, used 664; F 2, floors at 544, base values at 288, block 3, group 4, zeros
    (
      take 32 (used_of station),
      0 ∷ 1 ∷ 0 ∷ 1 ∷ 0 ∷ 32 ∷ 0x02 ∷ 0x38 ∷ 0x02 ∷ 0x98 ∷ 0 ∷ 2 ∷ 0x02 ∷ 0x20 ∷ 0x01 ∷ 0x20
          ∷ 0 ∷ 0 ∷ 0 ∷ 3 ∷ 0 ∷ 0 ∷ 0 ∷ 4 ∷ 0 ∷ 0 ∷ 0 ∷ 0 ∷ 0 ∷ 0 ∷ 0 ∷ 0 ∷ [],
    )
    ∷ (take 4 (drop 44 (used_of station)), 0 ∷ 0 ∷ 0 ∷ 7 ∷ [])
    ∷ (take 4 (drop 300 (used_of station)), 0 ∷ 0 ∷ 0 ∷ 100 ∷ [])
    ∷ (
      take 24 (drop 544 (used_of station)),
      0 ∷ 0 ∷ 0 ∷ 0 ∷ 0 ∷ 0x0A ∷ 0 ∷ 0 ∷ 0 ∷ 1 ∷ 0 ∷ 1 ∷ 0 ∷ 0 ∷ 0 ∷ 0 ∷ 0 ∷ 0x0B ∷ 0 ∷ 0 ∷ 0 ∷ 1 ∷ 0 ∷ 2 ∷ [],
    )
    ∷ (drop 568 (used_of station), a2 ++ c2)
    ∷ []

sections_hold : map (λ e. e.0) sections ≡ map (λ e. e.1) sections
unfolding sections used_of sections_of header_of values_of base_of floors_of messages_of messages_start setpoints_of start_values run_delta run_command apply change_of operate raise stop log_of held_of executables_of needs
sections_hold = refl

-- read back from the bytes used: what the log starts from, the log and the held ones
abbrev read_from : List ℕ → Origin × List Message × List Message
read_from b = (origin_in b, log_in b, held_in b)

read_back : read_from (used_of station) ≡ (purged, a2 ∷ [], c2 ∷ [])
unfolding origin_in floors_in base_in messages_start_in used_of sections_of header_of values_of base_of floors_of messages_of messages_start setpoints_of start_values run_delta run_command apply change_of operate raise stop log_of held_of executables_of needs
read_back = refl

-- ---- whole images: whether it is one, and where a reader starts
buffers : List (List ℕ × (Bool × ℕ))
buffers =
    (image_of station, (true, 568))
    -- "no message at or below a floor": A1 is at one
    ∷ (image_of (after purged (a1 ∷ [])), (false, 568))
    -- no floor, but a purged group
    ∷ (image_of (after (origin [] 0 1) []), (false, 544))
    ∷ []

buffers_hold : map (λ e. (is_image e.0, (start e.0).offset)) buffers ≡ map (λ e. e.1) buffers
unfolding buffers start is_image image_of messages_start_in floors_in base_in origin_in origin_right tops_right used_of sections_of header_of values_of base_of floors_of messages_of messages_start setpoints_of start_values run_delta run_command apply change_of operate raise stop log_of held_of executables_of needs passes layout_right numbers_right dependencies_right content_right command_right
buffers_hold = refl
