-- The messages that a run accepted, and which runs accepted the same set.
use mathlib.Core.Path.{◌≡◌, refl, ap}
use mathlib.Core.Logic.{◌↔◌}
use mathlib.Core.List.Memᴰ
use mathlib.Core.List.{List, [], ◌∷◌}
use native.Mathlib.Omega.{arith}
use lib.IntN.{pos}
use Rattle.model.specs.Lists.{◌∈◌}
use Rattle.model.specs.Message.{Message, sequence_of, layout_right, numbers_right, dependencies_right, content_right, command_right, passes}
use Rattle.model.specs.Order.{take_in}
use Rattle.model.specs.Steps.{execute, record_bytes}
use Rattle.model.specs.PlainStation.{accepts, receive}
use Rattle.model_runs.specs.Run.{Event, accepted_in, SameAccepted, SameStation}
use Rattle.model.proofs.ExampleMessages.{B, a1, b1, c1, c2}
use Rattle.model.proofs.RecordExamples.{setting}
use Rattle.model_runs.proofs.ExampleEvents.{given, image, event, first_a1}
use Rattle.model_runs.proofs.RunExamples.{a1_again, wrong_c1, two, whole}

-- ---- the messages that were answered with 0: none that was refused, and A1 twice
accepted : accepted_in whole ≡ c1 ∷ c2 ∷ a1 ∷ a1 ∷ b1 ∷ []
accepted = refl

-- ---- "equal accepted sets": a station that heard A1 first, and one that never heard B1
abbrev a1_first : List Event
a1_first = event b1 0 0 1 (setting (execute (B 1)) (pos 1480) ∷ []) (image (a1 ∷ b1 ∷ [])) ∷ first_a1 ∷ []

-- two messages, one of them twice, and the other way round
once : (a b m : Message) → m ∈ a ∷ a ∷ b ∷ [] → m ∈ b ∷ a ∷ []
once a b m (Memᴰ.head e) = Memᴰ.tail (Memᴰ.head e)
once a b m (Memᴰ.tail (Memᴰ.head e)) = Memᴰ.tail (Memᴰ.head e)
once a b m (Memᴰ.tail (Memᴰ.tail (Memᴰ.head e))) = Memᴰ.head e
once a b m (Memᴰ.tail (Memᴰ.tail (Memᴰ.tail n))) = elim n [ ]

twice : (a b m : Message) → m ∈ b ∷ a ∷ [] → m ∈ a ∷ a ∷ b ∷ []
twice a b m (Memᴰ.head e) = Memᴰ.tail (Memᴰ.tail (Memᴰ.head e))
twice a b m (Memᴰ.tail (Memᴰ.head e)) = Memᴰ.head e
twice a b m (Memᴰ.tail (Memᴰ.tail n)) = elim n [ ]

-- the same set, though neither the same list nor as many calls
pub in_either : (m : Message) → m ∈ a1 ∷ a1 ∷ b1 ∷ [] ↔ m ∈ b1 ∷ a1 ∷ []
in_either m = (once a1 b1 m, twice a1 b1 m)

same_set : SameAccepted (wrong_c1 ∷ a1_again ∷ two) a1_first
same_set = record { accepted = in_either }

-- nothing was purged: so they are promised equal images
pub same_station : SameStation given (wrong_c1 ∷ a1_again ∷ two) given a1_first
unfolding accepts receive take_in passes layout_right numbers_right dependencies_right content_right command_right record_bytes
same_station = record { floors = refl; base = refl; block = refl; group = refl; remaining = in_either }

not_a1 : b1 ∈ a1 ∷ [] → ⊥
not_a1 (Memᴰ.tail n) = elim n [ ]
not_a1 (Memᴰ.head e) = let sequences : sequence_of b1 ≡ sequence_of a1 = ap sequence_of e in omega arith

other_set : SameStation given a1_first given (first_a1 ∷ []) → ⊥
unfolding accepts receive take_in passes layout_right numbers_right dependencies_right content_right command_right record_bytes
other_set same = not_a1 ((same.remaining b1).0 (Memᴰ.head refl))
