-- One message of the image's log after the other is found in the table.
use Rattle.std.specs.Prelude.{◌≡◌, refl, List, [], ◌∷◌, ◌++◌, ℕ, ◌+◌, ◌≤◌, ◌<◌, length, get_or, take, set, replicate, T}
use Rattle.std.proofs.Common.{sym, ◌∙◌, ap, ap₂, subst, ⊎_elim, arith, add-one, length-set, take_all, take-suc-set}
use mathlib.Core.List.Memᴰ
use Rattle.std.proofs.lemmas.List.{map-append, length-replicate}
use Rattle.model.specs.Lists.{◌∈◌}
use Rattle.model.specs.Layout.{capacity}
use Rattle.model.specs.Message.{Message, sequence_of, passes}
use Rattle.model.specs.Image.{log_count, log_in, messages_in}
use Rattle.laws_order.specs.ListLaws.{get_d_∈, take_next}
use Rattle.laws_state.specs.SetLaws.{ascending_names}
use Rattle.laws_state.specs.OffsetLaws.{count_messages, log_count_lem, log_message_lem}
use Rattle.set_table.specs.Table.{message_from, deltas_of, deltas_at}
use Rattle.set_table.specs.TableLaws.{deltas_length}
use Rattle.set_table.specs.Places.{IsPresent, IsAbsent}
use Rattle.set_table.specs.FindLaws.{absent_member}
use Rattle.image_walk.proofs.WalkLaws.{walked_message}
use Rattle.image_log.specs.LogRead.{Readable, ReadsLog, LogReading}

module _ (b starts offsets : List ℕ) (r : Readable b starts offsets) where
  pub reading_none : LogReading b starts offsets (replicate capacity 0) 0
  reading_none = record {
    upto = omega arith;
    size = length-replicate {A = ℕ} capacity 0;
    so_far = refl;
    inside = λ i k. absurd (Memᴰ.not-nil k);
  }

  module _ (places : List ℕ) (k : ℕ) (g : LogReading b starts offsets places k) where
    -- all are read
    pub reading_end : length offsets ≤ k → ReadsLog b starts (length offsets) places
    reading_end h =
        let e : k ≡ length offsets = omega (arith, g.upto) in
        record {
          log = subst (λ (n : ℕ). deltas_at (deltas_of b starts) (take n places) ≡ take n (log_in b)) e g.so_far
              ∙ take_all (length offsets) (log_in b) (omega (arith, r.log.count, log_count_lem b));
          inside = subst (λ (n : ℕ). (i : ℕ) → i ∈ take n places → i < length starts) e g.inside;
        }

    module _ (more : k < length offsets) where
      abbrev at : ℕ
      at = get_or offsets k 0

      logged : k < log_count b
      logged = omega (arith, r.log.count)

      -- the next message starts at the offset
      message_is : message_from b at ≡ get_or (messages_in b) k []
      message_is = walked_message b (log_count b) offsets (λ m j. r.holds.pass m ((r.messages m).0 j)) r.log k logged (omega arith)

      -- it is of the table
      next_in : message_from b at ∈ deltas_of b starts
      next_in = (r.messages (message_from b at)).0 (subst (λ (m : Message). m ∈ messages_in b) (sym message_is) (get_d_∈ (messages_in b) k [] (omega (arith, logged, count_messages b))))

      pub next_passes : T (passes (message_from b (get_or offsets k 0)))
      next_passes = r.holds.pass (message_from b at) next_in

      pub not_absent : (p : ℕ) → IsAbsent b starts (sequence_of (message_from b (get_or offsets k 0))) p → ⊥
      not_absent p absent = absent_member b starts (sequence_of (message_from b at)) p absent (message_from b at) next_in refl

      module _ (i : ℕ) (p : IsPresent b starts (sequence_of (message_from b (get_or offsets k 0))) i) where
        in_table : i < length (deltas_of b starts)
        in_table = omega (arith, p.inside, deltas_length b starts)

        pub place_small : i < capacity
        place_small = omega (arith, in_table, r.holds.fits)

        -- the message that was found is this one: it has its sequence
        found : get_or (deltas_of b starts) i [] ≡ get_or (log_in b) k []
        found =
            ascending_names (deltas_of b starts) r.holds.ascends (get_or (deltas_of b starts) i []) (message_from b at) (get_d_∈ (deltas_of b starts) i [] in_table) next_in p.here
            ∙ message_is ∙ sym (log_message_lem b k logged)

        pub reading_more : LogReading b starts offsets (set places k i) (k + 1)
        reading_more = record {
          upto = omega arith;
          size = length-set places k i ∙ g.size;
          so_far = ap (deltas_at (deltas_of b starts)) taken ∙ map-append (λ j. get_or (deltas_of b starts) j []) (take k places) (i ∷ [])
              ∙ ap₂ (λ (l : List Message) (m : Message). l ++ m ∷ []) g.so_far found
              ∙ sym (take_next (log_in b) k [] (omega (arith, logged, log_count_lem b)));
          inside = λ j m. ⊎_elim (λ q. g.inside j q) (λ q. omega (arith, p.inside, Memᴰ.eq_of_singleton q)) (Memᴰ.append_cases (take k places) (subst (λ (l : List ℕ). j ∈ l) taken m));
        }
          where
            room : k < length places
            room = omega (arith, g.size, r.few, logged)

            taken : take (k + 1) (set places k i) ≡ take k places ++ i ∷ []
            taken = ap (λ (n : ℕ). take n (set places k i)) (add-one k) ∙ take-suc-set places k i room
