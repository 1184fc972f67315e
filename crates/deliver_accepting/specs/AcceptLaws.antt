-- An order that has grown: the two logs, as places of the table, are those of image and steps, and what these say of an accepted delivery.
use Rattle.std.specs.Prelude.{◌≡◌, List, ◌++◌, ℕ, ◌+◌, ◌-◌, ◌*◌, ◌≤◌, length, drop, ℤ}
use Rattle.std.proofs.Common.{sym, ◌∙◌, ap, ap₂, subst, arith, length-take}
use Rattle.std.proofs.lemmas.List.{length-map}
use Rattle.model.specs.Layout.{step_size, most_steps, capacity}
use Rattle.model.specs.Message.{Message}
use Rattle.model.specs.Order.{State, sequences_of, log_of}
use Rattle.model.specs.Setpoints.{start_values}
use Rattle.model.specs.Image.{used_of}
use Rattle.model.specs.Steps.{undos_of, executions_of, records_of, records_bytes}
use Rattle.model.specs.Calls.{written}
use Rattle.laws_origin.specs.OriginLaws.{start_same}
use Rattle.laws_state.specs.UsedLaws.{over_smaller}
use Rattle.set_table.specs.Table.{message_from, deltas_of, deltas_at, set_in}
use Rattle.image_sections.specs.LogPlaces.{ImageInput}
use Rattle.log_order.specs.declared.LogOrder.{LogOrder}
use Rattle.log_order.specs.LogOrder.{old_of, places_of}
use Rattle.log_listing.specs.Ordered.{Ordered}
use Rattle.deliver_steps.specs.Room.{StepsFit}
use Rattle.deliver_steps.specs.PlacedLogs.{IsLogOf, undos_are, executions_are}
use Rattle.deliver_accepting.specs.Accepting.{accepted_by, IsWritten, Updatable, Updates}

module _ (image : List ℕ) (room : ℕ) (pool starts : List ℕ) (begun : LogOrder) (h : Updatable image room pool starts begun) (o : LogOrder) (grown : Ordered (set_in pool starts) begun o) where
  abbrev R : State
  R = set_in pool starts

  old_log : (S : State) → IsLogOf pool starts (old_of begun) S → IsLogOf pool starts (old_of o) S
  old_log S = subst (λ (l : List ℕ). IsLogOf pool starts l S) (sym grown.olds)

  new_log : IsLogOf pool starts (places_of o) R
  new_log = record { log = grown.log; within = λ i k. omega (arith, grown.within i k, length-map starts (message_from pool)) }

  -- the steps from a log that lacks a delta fit a step buffer
  steps_room : step_size * (length (old_of o) - o.kept + (length (places_of o) - o.kept)) ≤ room
  steps_room =
      let undone : length (old_of o) ≤ capacity - 1 = omega (arith, length-take o.old_count o.old, grown.size, h.few) in
      let executed : length (places_of o) ≤ capacity = omega (arith, length-take o.count o.places, grown.right.news) in
      let most : length (old_of o) - o.kept + (length (places_of o) - o.kept) ≤ most_steps = omega arith in
      let enough : step_size * most_steps ≤ room = h.steps_room in
      omega arith

  pub writable : ImageInput image pool starts (places_of o) × StepsFit pool starts (old_of o) (places_of o) o.kept room
  writable = (
    record { room = omega (arith, h.size); logged = record { holds = h.holds; log = grown.log } },
    record {
      old_inside = record { holds = h.holds; inside = (old_log h.old_state h.before).within };
      new_inside = record { holds = h.holds; inside = new_log.within };
      start = grown.right.kept;
      room = steps_room;
    },
  )

  -- the answer of an accepted delivery
  pub updates : (undos executions : ℕ) (steps next-image next-steps : List ℕ) → undos ≡ undos_of (old_of o) (places_of o) → executions ≡ executions_of (old_of o) (places_of o)
      → IsWritten pool starts (old_of o) (places_of o) image steps next-image next-steps → Updates steps pool starts begun (accepted_by (record { undos = undos; executions = executions }) next-image next-steps)
  updates undos executions steps next-image next-steps u x w = record {
    answer = λ S origin b.
        let before : IsLogOf pool starts (old_of o) S = old_log S b in
        ap₂ (λ (m n : ℕ). record { code = 0; undos = m; executions = n; image = next-image; steps = next-steps })
        (u ∙ sym (undos_are pool starts (old_of o) (places_of o) S R h.holds before new_log)) (x ∙ sym (executions_are pool starts (old_of o) (places_of o) S R h.holds before new_log))
        ∙ ap₂ (λ (i s : List ℕ). record { code = 0; undos = undos_of (sequences_of (log_of S)) (sequences_of (log_of R)); executions = executions_of (sequences_of (log_of S)) (sequences_of (log_of R)); image = i; steps = s })
        (w.image_is ∙ ap (λ (i : List ℕ). used_of R ++ drop (length (used_of R)) i) h.image_is ∙ over_smaller h.smaller R h.grows)
        (w.steps_are
        ∙ ap (λ (v : List ℤ). written (records_bytes (records_of v (deltas_at (deltas_of pool starts) (old_of o)) (deltas_at (deltas_of pool starts) (places_of o)))) steps) (start_same R S (sym origin))
        ∙ ap₂ (λ (l k : List Message). written (records_bytes (records_of (start_values S) l k)) steps) before.log grown.log);
  }
