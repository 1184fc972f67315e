-- Late arrivals (document 02, Paper 5): a set, the delta that comes then, and the log before and after. What was logged has the same key
-- afterwards, and the log before is the one after, with the others left out.
use mathlib.Core.Path.{◌≡◌, refl}
use mathlib.Core.List.{List, [], ◌∷◌, map}
use Prim.Native.Nat.{ℕ}
use Rattle.model.specs.Lists.{has, keep}
use Rattle.model.specs.Message.{Message}
use Rattle.model.specs.Order.{State, take_in, sequences_of, needs, key_of, log_of}
use Rattle.model.proofs.ExampleMessages.{A, B, C, urgent, right_commands, a1, a2, b1, c1, c2, b1_5, c1_7, holding}

-- the deltas received, the arrival, the old log, the new one
pub record Arrival : Type 0 where
  pub received : List Message
  pub message : Message
  pub old : List ℕ
  pub new : List ℕ

abbrev arrival : List Message → Message → List ℕ → List ℕ → Arrival
arrival received message old new = record { received = received; message = message; old = old; new = new }

arrivals : List Arrival
arrivals =
    -- before all, between two, behind all
    arrival (b1 ∷ c1 ∷ []) a1 (B 1 ∷ C 1 ∷ []) (A 1 ∷ B 1 ∷ C 1 ∷ [])
    ∷ arrival (a1 ∷ c1 ∷ []) b1 (A 1 ∷ C 1 ∷ []) (A 1 ∷ B 1 ∷ C 1 ∷ [])
    ∷ arrival (a1 ∷ b1 ∷ []) c1 (A 1 ∷ B 1 ∷ []) (A 1 ∷ B 1 ∷ C 1 ∷ [])
    -- C1 of priority 7 comes before B1 of 5, and frees C2
    ∷ arrival (a1 ∷ b1_5 ∷ c2 ∷ []) c1_7 (A 1 ∷ B 1 ∷ []) (A 1 ∷ C 1 ∷ B 1 ∷ C 2 ∷ [])
    -- B2 of block 1 and priority 5 needs B1, which has neither: B1 stays where it was
    ∷ arrival (a1 ∷ b1 ∷ []) (urgent (B 2) 1 5 right_commands) (A 1 ∷ B 1 ∷ []) (A 1 ∷ B 1 ∷ B 2 ∷ [])
    -- one that is held, and one that is there
    ∷ arrival (b1 ∷ []) a2 (B 1 ∷ []) (B 1 ∷ [])
    ∷ arrival (a1 ∷ b1 ∷ []) a1 (A 1 ∷ B 1 ∷ []) (A 1 ∷ B 1 ∷ [])
    ∷ []

abbrev before : Arrival → State
before x = holding x.received

abbrev after : Arrival → State
after x = take_in x.message (before x)

old_holds : map (λ x. sequences_of (log_of (before x))) arrivals ≡ map (λ x. x.old) arrivals
unfolding arrivals log_of needs
old_holds = refl

new_holds : map (λ x. sequences_of (log_of (after x))) arrivals ≡ map (λ x. x.new) arrivals
unfolding arrivals take_in log_of needs
new_holds = refl

keys_stay : map (λ x. map (key_of (after x)) (log_of (before x))) arrivals ≡ map (λ x. map (key_of (before x)) (log_of (before x))) arrivals
unfolding arrivals take_in log_of needs
keys_stay = refl

left_out_lem : map (λ x. keep (λ s. has s x.old) x.new) arrivals ≡ map (λ x. x.old) arrivals
unfolding arrivals
left_out_lem = refl
