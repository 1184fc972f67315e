-- Where the messages lie: the offset of each place, and past the last one the bytes used, as a walk carries them.
use mathlib.Core.Path.{◌≡◌, refl}
use mathlib.Core.List.{List, [], ◌∷◌, map}
use Prim.Native.Nat.{ℕ}
use lib.ListN.{length}
use Rattle.model.specs.Message.{Message}
use Rattle.model.specs.Order.{needs, executables_of, log_of, held_of}
use Rattle.model.specs.Setpoints.{start_values, stop, raise, operate, change_of, apply, run_command, run_delta, setpoints_of}
use Rattle.model.specs.Image.{messages_start, messages_of, values_of, base_of, floors_of, header_of, sections_of, used_of, messages_start_in, messages_in, offset_of, walk, message_offset, used_count}
use Rattle.model.proofs.ExampleMessages.{a1, a2, b1, c2, c1_7, a1_naming_b1, b1_naming_a1, holding}

offsets : List (List Message × List ℕ)
offsets =
    -- no deltas: the first would be at 544
    ([], 544 ∷ [])
    ∷ (a1 ∷ [], 544 ∷ 592 ∷ [])
    -- two of the log, and C2, which is held
    ∷ (a1 ∷ b1 ∷ c2 ∷ [], 544 ∷ 592 ∷ 640 ∷ 688 ∷ [])
    -- 60 bytes each
    ∷ (b1_naming_a1 ∷ a1_naming_b1 ∷ [], 544 ∷ 604 ∷ 664 ∷ [])
    -- of 48 bytes, 48 and 60
    ∷ (b1_naming_a1 ∷ c1_7 ∷ a2 ∷ [], 544 ∷ 592 ∷ 640 ∷ 700 ∷ [])
    ∷ []

-- as a walk carries them
walks_hold : map (λ e. let b = used_of (holding e.0) in walk (messages_start_in b) (messages_in b)) offsets ≡ map (λ e. e.1) offsets
unfolding offsets messages_start_in used_of sections_of header_of values_of base_of floors_of messages_of messages_start setpoints_of start_values run_delta run_command apply change_of operate raise stop log_of held_of executables_of needs
walks_hold = refl

-- by their places: the first, the second, and past the last one the bytes used
places : List (List Message × List ℕ)
places =
    ([], 544 ∷ 544 ∷ 544 ∷ 544 ∷ [])
    ∷ (a1 ∷ [], 544 ∷ 592 ∷ 592 ∷ 592 ∷ [])
    ∷ (a1 ∷ b1 ∷ c2 ∷ [], 544 ∷ 592 ∷ 688 ∷ 688 ∷ [])
    ∷ (b1_naming_a1 ∷ a1_naming_b1 ∷ [], 544 ∷ 604 ∷ 664 ∷ 664 ∷ [])
    ∷ (b1_naming_a1 ∷ c1_7 ∷ a2 ∷ [], 544 ∷ 592 ∷ 700 ∷ 700 ∷ [])
    ∷ []

abbrev places_of : List ℕ → List ℕ
places_of b = message_offset b 0 ∷ message_offset b 1 ∷ message_offset b (length (messages_in b)) ∷ used_count b ∷ []

places_hold : map (λ e. places_of (used_of (holding e.0))) places ≡ map (λ e. e.1) places
unfolding places offset_of messages_start_in used_of sections_of header_of values_of base_of floors_of messages_of messages_start setpoints_of start_values run_delta run_command apply change_of operate raise stop log_of held_of executables_of needs
places_hold = refl
