-- Further runs that no station in agreement has, for what `NearMisses` does not ask of `Agreement`: code, undos, setpoints, records that they do not show, the order
-- of what was logged before, and equal images.
use mathlib.Core.Path.{◌≡◌, refl, ap}
use mathlib.Core.Logic.{inl, inr}
use mathlib.Core.Bool.{false}
use mathlib.Core.List.Memᴰ
use mathlib.Core.List.{List, [], ◌∷◌, ◌++◌}
use Prim.Native.Nat.{ℕ}
use native.Mathlib.Omega.{arith}
use lib.ListN.{get_or}
use lib.IntN.{ℤ, pos, negsuc}
use Rattle.model.specs.Bytes.{word}
use Rattle.model.specs.Message.{Message, layout_right, numbers_right, dependencies_right, content_right, command_right, passes}
use Rattle.model.specs.Order.{take_in, needs, executables_of, log_of, held_of}
use Rattle.model.specs.Setpoints.{start_values, stop, raise, operate, change_of, apply, run_command, run_delta, changes_of, setpoints_of}
use Rattle.model.specs.Image.{messages_start_in, messages_of, values_of, base_of, floors_of, header_of, sections_of, used_of, image_of, log_count, values_in}
use Rattle.model.specs.Steps.{undo, execute, pair_of, execution_of, records_of, record_bytes, read_record}
use Rattle.model.specs.Compose.{message_of}
use Rattle.model.specs.Calls.{Delivered, deliver_code}
use Rattle.model.specs.PlainStation.{accepts, receive}
use Rattle.model_runs.specs.SameOrder.{Before}
use Rattle.model_runs.specs.Run.{Given, Call, delivery, Event, Run, StepsTaken, PairsPlayed, Agreement}
use Rattle.model.proofs.ExampleMessages.{A, B, C, command, plain, a1, b1, c1}
use Rattle.model.proofs.RecordExamples.{carrying, setting}
use Rattle.model_runs.proofs.ExampleEvents.{given, image, event, start, first_a1, first_b1, first_value}
use Rattle.model_runs.proofs.RunExamples.{a1_again, two}
use Rattle.model_runs.proofs.AcceptedExamples.{in_either}
use Rattle.model.proofs.PairExamples.{tag3, standing}

module _ (begins : Given → List ℕ → Type 0) (answers : List ℕ → Call → Delivered → Type 0) (agreement : Agreement begins answers) (begun : begins given start) where
  -- ---- a message that must be refused is answered with 0: tag 64
  abbrev accepting : Event
  accepting = event (plain (C 1) [] (command 1 64 (pos 5))) 0 0 0 [] start

  accepts_wrong : Run answers start (accepting ∷ []) → ⊥
  unfolding accepts passes layout_right numbers_right dependencies_right content_right command_right
  accepts_wrong run = (agreement.call given start begun accepting [] run).accepted.0 refl

  -- ---- two numbers apply, and the higher one is answered: tag 64, and no step buffer
  abbrev higher : Event
  higher = record {
    call = delivery (plain (C 1) [] (command 1 64 (pos 5))) [];
    answer = record { code = 6; undos = 0; executions = 0; image = start; steps = [] };
  }

  answers_higher : Run answers start (higher ∷ []) → ⊥
  unfolding deliver_code image_of used_of sections_of header_of values_of base_of floors_of setpoints_of start_values messages_of log_of held_of
  answers_higher run = let lowest : higher.answer.code ≡ 1 = (agreement.call given start begun higher [] run).code in omega arith

  -- ---- an execution is counted as an undo
  abbrev counting : Event
  counting =
      event a1 0 2 1 (setting (undo (B 1)) (pos 0) ∷ setting (execute (A 1)) (pos 1500) ∷ setting (execute (B 1)) (pos 1480) ∷ []) (image (a1 ∷ b1 ∷ []))

  counts_undos : Run answers start (counting ∷ first_b1 ∷ []) → ⊥
  unfolding accepts receive take_in passes layout_right numbers_right dependencies_right content_right command_right log_of needs
  counts_undos run = let one : counting.answer.undos ≡ 1 = (agreement.call given start begun counting (first_b1 ∷ []) run).undos in omega arith

  -- ---- "Played on the setpoints, the pairs must lead to the image's values": A1 sets tag 3 to 1500, and its pair says 1501
  abbrev straying : Event
  straying = event a1 0 0 1 (setting (execute (A 1)) (pos 1501) ∷ []) (image (a1 ∷ []))

  strayed : PairsPlayed start (straying ∷ []) (standing (A 1) (pos 0) ∷ []) (tag3 (pos 1501))
  unfolding values_in image_of used_of sections_of header_of values_of setpoints_of start_values log_of read_record record_bytes
  strayed = ([], tag3 (pos 0), setting (execute (A 1)) (pos 1501) ∷ [], (refl, refl), refl, (standing (A 1) (pos 0) ∷ [], refl, (refl, refl)))

  pairs_lead_elsewhere : Run answers start (straying ∷ []) → ⊥
  unfolding values_in image_of used_of sections_of header_of values_of setpoints_of start_values run_delta run_command apply change_of operate log_of needs
  pairs_lead_elsewhere run =
      let values = ((agreement.list given start begun (straying ∷ []) run).setpoints (tag3 (pos 1501))).0 (standing (A 1) (pos 0) ∷ [], strayed) in
      let tag-3 : 1501 ≡ word (pos 1500) = ap (λ (v : List ℤ). word (get_or v 3 (pos 0))) values in
      omega arith

  -- ---- a pair that the one behind it hides: A1 sets tag 3 to 5, then to 7, and its first pair says 0. Played, the pairs lead to the image's values.
  abbrev twice_a1 : Message
  twice_a1 = plain (A 1) [] (command 1 3 (pos 5) ++ command 1 3 (pos 7))

  abbrev hiding : Event
  hiding = event twice_a1 0 0 1 (carrying (execute (A 1)) (pair_of 3 (pos 0) ∷ pair_of 3 (pos 7) ∷ []) ∷ []) (image (twice_a1 ∷ []))

  hides_a_pair : Run answers start (hiding ∷ []) → ⊥
  unfolding accepts receive take_in passes layout_right numbers_right dependencies_right content_right command_right log_of needs read_record record_bytes records_of execution_of changes_of start_values run_delta run_command apply change_of operate
  hides_a_pair run = let first : 0 ≡ word (pos 5) = ap first_value (agreement.call given start begun hiding [] run).records in omega arith

  -- ---- "A late arrival only squeezes in": A1 comes, and B1 and C1 are turned round. In the image that is left B1 has another group, 2.
  abbrev later_b1 : Message
  later_b1 = message_of false (B 1) 2 0 0 [] (command 2 3 (negsuc 19))

  abbrev b1_c1 : List Event
  b1_c1 = event c1 0 0 1 (carrying (execute (C 1)) (pair_of 4 (pos 20) ∷ []) ∷ []) (image (b1 ∷ c1 ∷ [])) ∷ first_b1 ∷ []

  abbrev turning : Event
  turning =
      event a1 0 2 3
      (carrying (undo (C 1)) (pair_of 4 (pos 0) ∷ []) ∷ setting (undo (B 1)) (pos 0) ∷ setting (execute (A 1)) (pos 1500)
      ∷ carrying (execute (C 1)) (pair_of 4 (pos 20) ∷ []) ∷ setting (execute (B 1)) (pos 1480) ∷ [])
      (image (a1 ∷ later_b1 ∷ c1 ∷ []))

  no_longer : Before (B 1) (C 1) (A 1 ∷ C 1 ∷ B 1 ∷ []) → ⊥
  no_longer (inl p) = let first : B 1 ≡ A 1 = p.0 in omega arith
  no_longer (inr (inl p)) = let second : B 1 ≡ C 1 = p.0 in omega arith
  no_longer (inr (inr (inl p))) = Memᴰ.not-nil p.1
  no_longer (inr (inr (inr z))) = z

  turns_round : Run answers start (turning ∷ b1_c1) → ⊥
  unfolding messages_start_in image_of used_of sections_of header_of values_of base_of floors_of messages_of setpoints_of start_values log_of held_of executables_of needs run_delta run_command apply change_of operate raise stop
  turns_round run =
      no_longer (((agreement.call given start begun turning b1_c1 run).order (B 1) (C 1) (Memᴰ.head refl) (Memᴰ.tail (Memᴰ.head refl))).1 (inl (refl, Memᴰ.head refl)))

  -- its steps turn them round, too
  steps_taken : StepsTaken turning (C 1 ∷ B 1 ∷ []) (A 1 ∷ C 1 ∷ B 1 ∷ [])
  unfolding read_record record_bytes
  steps_taken = record { read = refl; undos = refl; executions = refl }

  executes_in_another_order : Run answers start (turning ∷ b1_c1) → ⊥
  executes_in_another_order run =
      let again : C 1 ∷ B 1 ∷ [] ≡ B 1 ∷ C 1 ∷ [] = (agreement.call given start begun turning b1_c1 run).again (C 1 ∷ B 1 ∷ []) (A 1 ∷ C 1 ∷ B 1 ∷ []) steps_taken in
      let first : C 1 ≡ B 1 = ap (λ (l : List ℕ). get_or l 0 0) again in
      omega arith

  -- ---- "equal accepted sets give byte-equal images": B1 is answered with 0, but is not in the image
  abbrev lagging : Event
  lagging = event b1 0 0 1 (setting (execute (B 1)) (pos 1480) ∷ []) (image (a1 ∷ []))

  images_differ : Run answers start (a1_again ∷ two) → Run answers start (lagging ∷ first_a1 ∷ []) → ⊥
  unfolding accepts receive take_in passes layout_right numbers_right dependencies_right content_right command_right log_of needs image_of used_of sections_of header_of record_bytes
  images_differ run other =
      let logs : 2 ≡ log_count (image (a1 ∷ [])) = ap log_count (agreement.equal given given start start begun begun (a1_again ∷ two) (lagging ∷ first_a1 ∷ []) run other (record { floors = refl; base = refl; block = refl; group = refl; remaining = in_either })) in
      omega arith
