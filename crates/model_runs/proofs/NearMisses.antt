-- "Programs that come close", each by a run that it could have, the latest call first: this one is answered wrongly. `Agreement` refuses
-- every station that has such a run, whatever else the station does.
use mathlib.Core.Path.{◌≡◌, refl, ap}
use mathlib.Core.Option.{none}
use mathlib.Core.List.{List, [], ◌∷◌}
use Prim.Native.Nat.{ℕ, ◌≤◌}
use native.Mathlib.Omega.{arith}
use lib.ListN.{length, get_or}
use lib.IntN.{pos}
use Rattle.model.specs.Bytes.{word}
use Rattle.model.specs.Message.{Message, layout_right, numbers_right, dependencies_right, content_right, command_right, passes}
use Rattle.model.specs.Order.{take_in, needs, log_of}
use Rattle.model.specs.Setpoints.{start_values, stop, raise, operate, change_of, apply, run_command, run_delta, changes_of}
use Rattle.model.specs.Image.{log_count, image_of, used_of, sections_of, header_of}
use Rattle.model.specs.Steps.{undo, execute, execution_of, undo_of, records_of, record_bytes, read_record, Plays}
use Rattle.model.specs.Calls.{Delivered}
use Rattle.model.specs.PlainStation.{accepts, receive}
use Rattle.model_runs.specs.Run.{Given, Call, Event, Run, Played, Agreement}
use Rattle.model.proofs.ExampleMessages.{A, B, command, plain, a1, a2, b1, a1_naming_b1}
use Rattle.model.proofs.RecordExamples.{setting}
use Rattle.model_runs.proofs.ExampleEvents.{given, image, event, start, first_a1, first_b1, first_value}

module _ (begins : Given → List ℕ → Type 0) (answers : List ℕ → Call → Delivered → Type 0) (agreement : Agreement begins answers) (begun : begins given start) where
  -- ---- "One that plays honest undos and executions but counts them freely": an execution more
  abbrev counting : Event
  counting = event a1 0 0 2 (setting (execute (A 1)) (pos 1500) ∷ []) (image (a1 ∷ []))

  counts_freely : Run answers start (counting ∷ []) → ⊥
  unfolding accepts receive take_in passes layout_right numbers_right dependencies_right content_right command_right log_of needs
  counts_freely run = let one : counting.answer.executions ≡ 1 = (agreement.call given start begun counting [] run).executions in omega arith

  -- ---- "One that undoes everything each time": A1, though B1 follows it. A rival executes B1 alone.
  abbrev undoing : Event
  undoing =
      event b1 0 1 2 (setting (undo (A 1)) (pos 0) ∷ setting (execute (A 1)) (pos 1500) ∷ setting (execute (B 1)) (pos 1480) ∷ []) (image (a1 ∷ b1 ∷ []))

  rival : Plays (A 1 ∷ []) (execute (B 1) ∷ []) (A 1 ∷ B 1 ∷ [])
  rival = refl

  undoes_everything : Run answers start (undoing ∷ first_a1 ∷ []) → ⊥
  unfolding accepts receive take_in passes layout_right numbers_right dependencies_right content_right command_right log_of needs
  undoes_everything run =
      let three-at-most-one : 3 ≤ 1 = (agreement.call given start begun undoing (first_a1 ∷ []) run).fewest (execute (B 1) ∷ []) rival in
      omega arith

  -- ---- "One that rebuilds on the first delivery and only echoes later": B1 after A1 is answered with 0, and nothing is done
  abbrev echoing : Event
  echoing = event b1 0 0 0 [] (image (a1 ∷ []))

  echoes : Run answers start (echoing ∷ first_a1 ∷ []) → ⊥
  unfolding accepts receive take_in passes layout_right numbers_right dependencies_right content_right command_right log_of needs image_of used_of sections_of header_of
  echoes run =
      let log : 1 ≡ log_count (image (a1 ∷ b1 ∷ [])) = ap log_count (agreement.list given start begun (echoing ∷ first_a1 ∷ []) run).image in
      omega arith

  -- ---- "One that holds every delta, or leaves the image as it was"
  abbrev keeping : Event
  keeping = event a1 0 0 0 [] (image (a1 ∷ []))

  holds_all : Run answers start (keeping ∷ []) → ⊥
  unfolding accepts receive take_in passes layout_right numbers_right dependencies_right content_right command_right log_of needs
  holds_all run = let none : keeping.answer.executions ≡ 1 = (agreement.call given start begun keeping [] run).executions in omega arith

  abbrev leaving : Event
  leaving = event a1 0 0 1 (setting (execute (A 1)) (pos 1500) ∷ []) start

  leaves_the_image : Run answers start (leaving ∷ []) → ⊥
  unfolding accepts receive take_in passes layout_right numbers_right dependencies_right content_right command_right log_of needs image_of used_of sections_of header_of
  leaves_the_image run = let log : 0 ≡ length (A 1 ∷ []) = ap length (agreement.list given start begun (leaving ∷ []) run).image_log in omega arith

  -- ---- "or refuses all": with 8, on an empty station
  abbrev refusing : Event
  refusing = event a1 8 0 0 [] start

  refuses_all : Run answers start (refusing ∷ []) → ⊥
  unfolding accepts receive take_in passes layout_right numbers_right dependencies_right content_right command_right
  refuses_all run = let accepted : refusing.answer.code ≡ 0 = (agreement.call given start begun refusing [] run).accepted.1 tt in omega arith

  -- ---- "One with the same log always": B1, whatever follows
  abbrev staying : Event
  staying = event a1 0 0 0 [] (image (a1 ∷ b1 ∷ []))

  b1_stays : Played (staying ∷ first_b1 ∷ []) (B 1 ∷ [])
  unfolding read_record record_bytes
  b1_stays = (B 1 ∷ [], [], [], ([], [], B 1 ∷ [], refl, record { read = refl; undos = refl; executions = refl }, refl), record { read = refl; undos = refl; executions = refl }, refl)

  same_log_always : Run answers start (staying ∷ first_b1 ∷ []) → ⊥
  unfolding accepts receive take_in passes layout_right numbers_right dependencies_right content_right command_right log_of needs
  same_log_always run =
      let log : B 1 ∷ [] ≡ A 1 ∷ B 1 ∷ [] = ((agreement.list given start begun (staying ∷ first_b1 ∷ []) run).played (B 1 ∷ [])).0 b1_stays in
      let lengths : 1 ≡ length (A 1 ∷ B 1 ∷ []) = ap length log in
      omega arith

  -- ---- "Sorting by key alone, so that a need follows its user": A1, which names B1, is executed before it
  abbrev holding_a1 : Event
  holding_a1 = event a1_naming_b1 0 0 0 [] (image (a1_naming_b1 ∷ []))

  abbrev sorting : Event
  sorting = event b1 0 0 2 (setting (execute (A 1)) (pos 1500) ∷ setting (execute (B 1)) (pos 1480) ∷ []) (image (a1_naming_b1 ∷ b1 ∷ []))

  user_first : Played (sorting ∷ holding_a1 ∷ []) (A 1 ∷ B 1 ∷ [])
  unfolding read_record record_bytes
  user_first = ([], [], A 1 ∷ B 1 ∷ [], ([], [], [], refl, record { read = refl; undos = refl; executions = refl }, refl), record { read = refl; undos = refl; executions = refl }, refl)

  sorts_by_key_alone : Run answers start (sorting ∷ holding_a1 ∷ []) → ⊥
  unfolding accepts receive take_in passes layout_right numbers_right dependencies_right content_right command_right log_of needs
  sorts_by_key_alone run =
      let log : A 1 ∷ B 1 ∷ [] ≡ B 1 ∷ A 1 ∷ [] = ((agreement.list given start begun (sorting ∷ holding_a1 ∷ []) run).played (A 1 ∷ B 1 ∷ [])).0 user_first in
      let first : A 1 ≡ B 1 = ap (λ (l : List ℕ). get_or l 0 0) log in
      omega arith

  -- ---- "Letting unrelated deltas wait behind a held one": B1 behind A2
  abbrev first_a2 : Event
  first_a2 = event a2 0 0 0 [] (image (a2 ∷ []))

  abbrev waiting : Event
  waiting = event b1 0 0 0 [] (image (a2 ∷ b1 ∷ []))

  waits : Run answers start (waiting ∷ first_a2 ∷ []) → ⊥
  unfolding accepts receive take_in passes layout_right numbers_right dependencies_right content_right command_right log_of needs
  waits run = let none : waiting.answer.executions ≡ 1 = (agreement.call given start begun waiting (first_a2 ∷ []) run).executions in omega arith

  -- ---- "Undoing an addition by subtracting, wrong once the sum was stopped": A1 sets 999990, B1 adds 20, which gives 1000000; A2 comes between
  -- them. The undo of B1 restores 999990, and not 1000000 - 20.
  abbrev high_a1 : Message
  high_a1 = plain (A 1) [] (command 1 3 (pos 999990))

  abbrev stopped_b1 : Message
  stopped_b1 = plain (B 1) [] (command 2 3 (pos 20))

  abbrev before : List Event
  before =
      event stopped_b1 0 0 1 (setting (execute (B 1)) (pos 1000000) ∷ []) (image (high_a1 ∷ stopped_b1 ∷ []))
      ∷ event high_a1 0 0 1 (setting (execute (A 1)) (pos 999990) ∷ []) (image (high_a1 ∷ [])) ∷ []

  abbrev subtracting : Event
  subtracting =
      event a2 0 1 2 (setting (undo (B 1)) (pos 999980) ∷ setting (execute (A 2)) (pos 7) ∷ setting (execute (B 1)) (pos 27) ∷ [])
      (image (high_a1 ∷ a2 ∷ stopped_b1 ∷ []))

  subtracts : Run answers start (subtracting ∷ before) → ⊥
  unfolding accepts receive take_in passes layout_right numbers_right dependencies_right content_right command_right log_of needs read_record record_bytes records_of execution_of undo_of changes_of start_values run_delta run_command apply change_of operate raise stop
  subtracts run = let restored : 999980 ≡ word (pos 999990) = ap first_value (agreement.call given start begun subtracting before run).records in omega arith
