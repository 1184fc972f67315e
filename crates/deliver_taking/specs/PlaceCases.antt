-- The cases of deliver at a judged station, for a message that passes 3 to 6: by what the checks of 7 and 8 tell, and where its sequence was looked for.
use Rattle.std.specs.Prelude.{◌≡◌, Bool, true, false, not, ◌&&◌, List, ℕ, ◌≤◌, ◌<◌, length, T, ltb, leb, Ok, Err}
use Rattle.std.proofs.Common.{sym, ◌∙◌, ap, ap₂, arith, length-take-le, ltb-false, le-leb}
use Rattle.std.proofs.Math.Bool.{and-false}
use Rattle.std.proofs.lemmas.List.{length-map}
use Rattle.std.proofs.lemmas.Bool.{lt-leb, not-true, not-false}
use Rattle.model.specs.Lists.{same}
use Rattle.model.specs.Layout.{capacity}
use Rattle.model.specs.Message.{Message, sequence_of}
use Rattle.model.specs.Order.{State, purged, find, add}
use Rattle.model.specs.Image.{state_in}
use Rattle.model.specs.Codes.{present, conflicts, full}
use Rattle.model.specs.Calls.{accepted_answer, deliver}
use Rattle.laws_order.specs.TestLaws.{is_true, is_false}
use Rattle.laws_state.specs.DeliverLaws.{take_in_above}
use Rattle.set_table.specs.Table.{starts_of, message_from, set_in}
use Rattle.set_table.specs.Places.{IsPresent, IsAbsent}
use Rattle.set_table.specs.FindLaws.{present_has, absent_has}
use Rattle.deliver_checks.specs.RepeatLaws.{absent_conflicts}
use Rattle.image_listed.specs.declared.Station.{Station}
use Rattle.laws_codes.specs.Ladder.{none, free, met}
use Rattle.refusals.specs.declared.Refusal.TheVariants.{Conflict, Full}
use Rattle.deliver_taking.specs.Answer.{delivered_by}
use Rattle.deliver_taking.specs.Taking.{Takeable}
use Rattle.deliver_taking.specs.DeliverCases.{answered, repeat_case, purged_case}

module _ (b : List ℕ) (m : Message) (steps pool : List ℕ) (station : Station) (t : Takeable b m (length steps) pool station) where
  abbrev starts : List ℕ
  starts = starts_of station.table

  set_is : set_in b starts ≡ state_in b
  set_is = t.judged.table.set

  conflicts_is : {c : Bool} → conflicts (set_in b starts) m ≡ c → conflicts (state_in b) m ≡ c
  conflicts_is e = ap (λ (R : State). conflicts R m) (sym set_is) ∙ e

  -- ---- at or below a floor "7 and 8 are not looked for"
  pub below : T (purged (state_in b) (sequence_of m)) → delivered_by (Ok (record { undos = 0; executions = 0 })) b steps ≡ deliver b m steps
  below low =
      let unasked : not (purged (state_in b) (sequence_of m)) ≡ false = ap not (is_true (purged (state_in b) (sequence_of m)) low) in
      purged_case b m steps t.judged.image low
      ∙ answered b m steps (t.passed 0 (free
      (ap (λ (c : Bool). c && present (state_in b) (sequence_of m) && not (same (find (state_in b).deltas (sequence_of m)) m)) unasked)
      (free (ap (λ (c : Bool). c && leb capacity (length (state_in b).deltas) && not (present (state_in b) (sequence_of m))) unasked) none)))

  -- ---- 7
  pub conflict : false ≡ not (conflicts (set_in b starts) m) → delivered_by (Err Conflict) b steps ≡ deliver b m steps
  conflict e = answered b m steps (t.passed 7 (met (conflicts_is (not-false _ (sym e)))))

  module _ (high : T (not (purged (state_in b) (sequence_of m)))) where
    -- its sequence is there
    pub repeated : {i : ℕ} → IsPresent b starts (sequence_of m) i → true ≡ not (conflicts (set_in b starts) m)
        → delivered_by (Ok (record { undos = 0; executions = 0 })) b steps ≡ deliver b m steps
    repeated {i} here e = repeat_case b m steps t.judged.image there high ∙ answered b m steps (t.passed 0 (free (conflicts_is (not-true _ (sym e))) (free not_full none)))
      where
        there : present (state_in b) (sequence_of m) ≡ true
        there = ap (λ (R : State). present R (sequence_of m)) (sym set_is) ∙ present_has b starts (sequence_of m) i here

        not_full : full (state_in b) m ≡ false
        not_full =
            ap (λ (p : Bool). not (purged (state_in b) (sequence_of m)) && leb capacity (length (state_in b).deltas) && not p) there
            ∙ and-false (not (purged (state_in b) (sequence_of m)) && leb capacity (length (state_in b).deltas))

    -- its sequence is new
    module _ {p : ℕ} (absent : IsAbsent b starts (sequence_of m) p) (array : length station.table.starts ≡ capacity) where
      new : present (state_in b) (sequence_of m) ≡ false
      new = ap (λ (R : State). present R (sequence_of m)) (sym set_is) ∙ absent_has b starts (sequence_of m) p absent

      no_conflict : conflicts (state_in b) m ≡ false
      no_conflict = conflicts_is (absent_conflicts b starts m p absent)

      count_is : length (state_in b).deltas ≡ station.table.count
      count_is =
          let fits : station.table.count ≤ capacity = t.judged.table.fits in
          ap (λ (R : State). length R.deltas) (sym set_is) ∙ length-map starts (message_from b)
          ∙ length-take-le station.table.count station.table.starts (omega arith)

      full_is : {f : Bool} → leb capacity (length (state_in b).deltas) ≡ f → full (state_in b) m ≡ f && true
      full_is {f} e =
          ap (λ (x : Bool). not x && leb capacity (length (state_in b).deltas) && not (present (state_in b) (sequence_of m))) (is_false (purged (state_in b) (sequence_of m)) high)
          ∙ ap₂ (λ (x y : Bool). x && not y) e new

      -- ---- 8
      pub filled : false ≡ ltb station.table.count capacity → delivered_by (Err Full) b steps ≡ deliver b m steps
      filled e =
          let many : capacity ≤ length (state_in b).deltas = omega (arith, count_is, ltb-false station.table.count capacity (sym e)) in
          answered b m steps (t.passed 8 (free no_conflict (met (full_is (le-leb capacity _ many)))))

      pub joins : station.table.count < capacity → accepted_answer (state_in b) (add m (state_in b)) steps ≡ deliver b m steps
      joins h =
          let few : length (state_in b).deltas < capacity = omega (arith, count_is) in
          ap (λ (R : State). accepted_answer (state_in b) R steps) (sym (take_in_above m (state_in b) high))
          ∙ answered b m steps (t.passed 0 (free no_conflict (free (full_is (lt-leb capacity _ few)) none)))
