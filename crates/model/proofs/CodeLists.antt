-- Each call's list has the numbers that documents 01 and 02 give it, in ascending order, so that the first that holds is the lowest.
use mathlib.Core.Path.{◌≡◌, refl}
use mathlib.Core.List.{List, [], ◌∷◌, map}
use Prim.Native.Nat.{ℕ}
use Rattle.model.specs.Message.{Message}
use Rattle.model.specs.Codes.{Conditions, empty_conditions, deliver_conditions, compose_conditions, log_message_conditions, setpoint_conditions, purge_conditions, read_sequences_conditions, write_sequences_conditions}

numbers_of : Conditions → List ℕ
numbers_of l = map (λ c. c.0) l

-- "Deliver meets 1 to 8, compose 1, 2, 3, 6, 9, 10, 11, empty 1, log message and setpoint 1, 2, 12."
deliver_meets : (b : List ℕ) (m : Message) (room : ℕ) → numbers_of (deliver_conditions b m room) ≡ 1 ∷ 2 ∷ 3 ∷ 4 ∷ 5 ∷ 6 ∷ 7 ∷ 8 ∷ []
unfolding numbers_of
deliver_meets b m room = refl

compose_meets : (b line commands : List ℕ) (flag priority room : ℕ)
    → numbers_of (compose_conditions b line commands flag priority room) ≡ 1 ∷ 2 ∷ 3 ∷ 6 ∷ 9 ∷ 10 ∷ 11 ∷ []
unfolding numbers_of
compose_meets b line commands flag priority room = refl

empty_meets : (b : List ℕ) → numbers_of (empty_conditions b) ≡ 1 ∷ []
unfolding numbers_of
empty_meets b = refl

log_message_meets : (b : List ℕ) (place : ℕ) → numbers_of (log_message_conditions b place) ≡ 1 ∷ 2 ∷ 12 ∷ []
unfolding numbers_of
log_message_meets b place = refl

setpoint_meets : (b : List ℕ) (tag : ℕ) → numbers_of (setpoint_conditions b tag) ≡ 1 ∷ 2 ∷ 12 ∷ []
unfolding numbers_of
setpoint_meets b tag = refl

-- Paper 4: 15, then 16, "both after 2"
purge_meets : (b : List ℕ) (K : ℕ) → numbers_of (purge_conditions b K) ≡ 1 ∷ 2 ∷ 15 ∷ 16 ∷ []
unfolding numbers_of
purge_meets b K = refl

-- Paper 2: 1, then 13, then 14
read_sequences_meets : (t : List ℕ) (room : ℕ) → numbers_of (read_sequences_conditions t room) ≡ 1 ∷ 13 ∷ 14 ∷ []
unfolding numbers_of
read_sequences_meets t room = refl

write_sequences_meets : (b : List ℕ) (room : ℕ) → numbers_of (write_sequences_conditions b room) ≡ 1 ∷ 13 ∷ 14 ∷ []
unfolding numbers_of
write_sequences_meets b room = refl
