-- Purges that come close, each by a run that it could have, the latest call first: this one is answered wrongly. `Agreement` refuses every
-- station that has such a run.
use mathlib.Core.Path.{◌≡◌, refl, ap}
use mathlib.Core.List.Memᴰ
use mathlib.Core.List.{List, [], ◌∷◌}
use Prim.Native.Nat.{ℕ}
use native.Mathlib.Omega.{arith}
use lib.ListN.{length}
use Rattle.model.specs.Message.{layout_right, numbers_right, dependencies_right, content_right, command_right, passes}
use Rattle.model.specs.Order.{state_of, take_in, needs, log_of}
use Rattle.model.specs.Setpoints.{start_values, stop, raise, operate, change_of, apply, run_command, run_delta}
use Rattle.model.specs.Purge.{origin_past, purge_first}
use Rattle.model.specs.Image.{image_of, used_of, sections_of, header_of}
use Rattle.model.specs.Steps.{record_bytes, read_record}
use Rattle.model.specs.Calls.{Delivered}
use Rattle.model.specs.PlainStation.{accepts, receive, accepts_purge, receive_purge}
use Rattle.model_runs.specs.Run.{Given, Call, Event, Run, History, Agreement}
use Rattle.model.proofs.ExampleMessages.{A, a1}
use Rattle.model_runs.proofs.ExampleEvents.{given, image, start, first_a1}
use Rattle.model_runs.proofs.PurgeRunExamples.{purging_by}

module _ (begins : Given → List ℕ → Type 0) (answers : List ℕ → Call → Delivered → Type 0) (agreement : Agreement begins answers) (begun : begins given start) where
  -- ---- one that refuses all, by 15: A1 stays where it was
  abbrev refusing : Event
  refusing = purging_by 1 15 (image (a1 ∷ []))

  refuses_all : Run answers start (refusing ∷ first_a1 ∷ []) → ⊥
  unfolding accepts receive accepts_purge receive_purge purge_first origin_past take_in passes layout_right numbers_right dependencies_right content_right command_right log_of needs start_values run_delta run_command apply change_of operate raise stop
  refuses_all run = let accepted : refusing.answer.code ≡ 0 = (agreement.call given start begun refusing (first_a1 ∷ []) run).accepted.1 tt in omega arith

  -- its answer has the plain station's floor cover A1, which was never purged
  never_purged : Run answers start (refusing ∷ first_a1 ∷ []) → ⊥
  unfolding accepts receive accepts_purge receive_purge purge_first origin_past take_in passes layout_right numbers_right dependencies_right content_right command_right log_of needs start_values run_delta run_command apply change_of operate raise stop
  never_purged run = Memᴰ.not-nil (((agreement.list given start begun (refusing ∷ first_a1 ∷ []) run).purged (A 1)).1 tt)

  -- and leaves A1 neither purged nor in the log, though it was executed and never undone
  executed : History (refusing ∷ first_a1 ∷ []) (A 1 ∷ [])
  unfolding read_record record_bytes
  executed = (A 1 ∷ [], [], [], ([], [], A 1 ∷ [], refl, record { read = refl; undos = refl; executions = refl }, refl), record { read = refl; undos = refl; executions = refl }, refl)

  lost : Run answers start (refusing ∷ first_a1 ∷ []) → ⊥
  unfolding accepts receive accepts_purge receive_purge purge_first origin_past take_in passes layout_right numbers_right dependencies_right content_right command_right log_of needs start_values run_delta run_command apply change_of operate raise stop
  lost run =
      let none : 1 ≡ length {A = ℕ} [] = ap length (((agreement.list given start begun (refusing ∷ first_a1 ∷ []) run).history (A 1 ∷ [])).0 executed) in
      omega arith

  -- ---- one that answers 0 and leaves the image as it was
  abbrev leaving : Event
  leaving = purging_by 1 0 (image (a1 ∷ []))

  leaves_the_image : Run answers start (leaving ∷ first_a1 ∷ []) → ⊥
  unfolding accepts receive accepts_purge receive_purge purge_first origin_past take_in passes layout_right numbers_right dependencies_right content_right command_right log_of needs start_values run_delta run_command apply change_of operate raise stop image_of used_of sections_of header_of
  leaves_the_image run = let log : 1 ≡ length {A = ℕ} [] = ap length (agreement.list given start begun (leaving ∷ first_a1 ∷ []) run).image_log in omega arith

  -- ---- one that accepts whatever K: two of a log of one
  abbrev accepting : Event
  accepting = purging_by 2 0 (image_of (purge_first 1 (state_of (a1 ∷ []))))

  accepts_all : Run answers start (accepting ∷ first_a1 ∷ []) → ⊥
  unfolding accepts receive accepts_purge receive_purge purge_first origin_past take_in passes layout_right numbers_right dependencies_right content_right command_right log_of needs start_values run_delta run_command apply change_of operate raise stop
  accepts_all run = (agreement.call given start begun accepting (first_a1 ∷ []) run).accepted.0 refl
