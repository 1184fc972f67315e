-- A new message in the table: its set is the old one with the message, and the old log stands at the shifted places.
use Rattle.std.specs.Prelude.{◌≡◌, List, [], ◌++◌, map, ℕ, ◌+◌, ◌≤◌, ◌<◌, length, take, get_or}
use Rattle.std.proofs.Common.{sym, ◌∙◌, ap, ap₂, subst, arith, length-take-le}
use Rattle.std.proofs.lemmas.List.{length-map}
use Rattle.std.proofs.Math.Seq.{paste, take-length}
use Rattle.std.proofs.lemmas.List.Edits.{take-paste}
use Rattle.model.specs.Layout.{image_size, capacity}
use Rattle.model.specs.Lists.{◌∈◌}
use Rattle.model.specs.Message.{Message, sequence_of}
use Rattle.model.specs.Order.{State, add}
use Rattle.model.specs.Image.{used_of, origin_in, state_in}
use Rattle.model.specs.Calls.{Delivered, accepted_answer}
use Rattle.laws_origin.specs.OriginLaws.{origin_front}
use Rattle.laws_state.specs.LogLaws.{log_length}
use Rattle.laws_state.specs.ImageLaws.{image_own, own_valid}
use Rattle.laws_state.specs.UsedLaws.{used_grows}
use Rattle.laws_wire.specs.MessageLaws.{passes_sized, sized_range}
use Rattle.set_table.specs.Table.{starts_of, message_from, deltas_of, set_in, Holds, insert_at}
use Rattle.set_table.specs.Places.{AllBelow}
use Rattle.set_table.specs.FindLaws.{absent_member}
use Rattle.set_table.specs.Shifting.{shifted}
use Rattle.deliver_steps.specs.PlacedLogs.{IsLogOf, log_shifted}
use Rattle.log_order.specs.declared.LogOrder.{LogOrder}
use Rattle.log_order.specs.LogOrder.{old_of, Begun}
use Rattle.image_listed.specs.declared.Station.{Station}
use Rattle.image_listed.specs.Listed.{places_in}
use Rattle.deliver_accepting.specs.DeliveryPool.{pool_front, old_deltas, new_holds, new_set}
use Rattle.deliver_accepting.specs.Accepting.{Updatable, Updates, Acceptable}

module _ (b : List ℕ) (m : Message) (room : ℕ) (before : List ℕ) (station : Station) (p : ℕ) (h : Acceptable b m room before station p)
    (starts-size : length station.table.starts ≡ capacity) (places-size : length station.places ≡ capacity) where
  abbrev starts : List ℕ
  starts = starts_of station.table

  used : length starts ≡ station.table.count
  used = let few : station.table.count < capacity = h.few in length-take-le station.table.count station.table.starts (omega arith)

  pub place_fits : p ≤ station.table.count
  place_fits = omega (arith, h.absent.inside, used)

  pub message_fits : image_size + length m ≤ length before
  message_fits = omega (arith, h.pool_size, (sized_range m (passes_sized m h.right)).1)

  -- the log has at most as many deltas as the table
  pub log_few : station.logged < capacity
  log_few =
      let few : station.table.count < capacity = h.few in
      let most : station.logged ≤ capacity = h.judged.fits in
      omega (
        arith,
        length-take-le station.logged station.places (omega arith),
        length-map (places_in station) (λ i. get_or (deltas_of b starts) i []),
        ap length h.judged.log,
        log_length (set_in b starts) h.judged.table.holds.ascends,
        length-map starts (message_from b),
        used,
      )

  pub places_within : AllBelow capacity (places_in station)
  places_within i k = omega (arith, h.judged.inside i k, used, h.few)

  module _ (pool : List ℕ) (filled : pool ≡ paste before image_size m (length m))
      (next : List ℕ) (inserted : next ≡ insert_at p image_size starts)
      (old : List ℕ) (moved : take station.logged old ≡ map (shifted p) (places_in station)) (begun : LogOrder) (first : Begun old station.logged begun) where
    both : take (length b + length m) pool ≡ b ++ m
    both =
        ap₂ (λ (n : ℕ) (l : List ℕ). take (n + length m) l) h.size filled ∙ take-paste before image_size m (length m) (omega (arith, message_fits)) (omega arith)
        ∙ ap₂ ◌++◌ h.pooled (take-length m)

    origins : origin_in pool ≡ origin_in b
    origins = origin_front b pool h.judged.table.holds.right (pool_front pool b m both)

    starts_few : length starts < capacity
    starts_few = omega (arith, h.few, used)

    next_starts : next ≡ insert_at p (length b) starts
    next_starts = inserted ∙ ap (λ (n : ℕ). insert_at p n starts) (sym h.size)

    holds_next : Holds pool next
    holds_next = subst (λ (s : List ℕ). Holds pool s) (sym next_starts) (new_holds pool b m both starts h.judged.table.holds h.right p h.absent starts_few origins h.above)

    set_next : set_in pool next ≡ add m (set_in b starts)
    set_next = ap (set_in pool) next_starts ∙ new_set pool b m both starts h.judged.table.holds h.right p h.absent starts_few origins

    deltas_same : deltas_of pool starts ≡ deltas_of b starts
    deltas_same = old_deltas pool b m both starts h.judged.table.holds h.right p h.absent starts_few

    log_moved : IsLogOf pool next (old_of begun) (set_in b starts)
    log_moved = subst (λ (s : List ℕ). IsLogOf pool s (old_of begun) (set_in b starts)) (sym inserted)
        (subst (λ (l : List ℕ). IsLogOf pool (insert_at p image_size starts) l (set_in b starts)) (sym (first.olds ∙ moved))
        (log_shifted b pool starts p image_size (places_in station) (set_in b starts) deltas_same h.absent.inside (record { log = h.judged.log; within = h.judged.inside })))

    set_is : set_in b starts ≡ state_in b
    set_is = h.judged.table.set

    pub updatable : Updatable b room pool next begun
    updatable = record {
      size = h.size;
      steps_room = h.steps_room;
      holds = holds_next;
      right = first.right;
      none = first.none;
      few = omega (arith, first.size, log_few);
      old_state = set_in b starts;
      before = log_moved;
      smaller = state_in b;
      image_is = image_own b h.judged.image;
      grows = subst (λ (R : State). length (used_of (state_in b)) ≤ length (used_of R)) (sym (set_next ∙ ap (add m) set_is))
          (used_grows (state_in b) (own_valid b h.judged.image).ascends m (λ x k e. absent_member b starts (sequence_of m) p h.absent x (subst (λ (R : State). x ∈ R.deltas) (sym set_is) k) (sym e)));
    }

    pub accepted_answer_lem : (steps : List ℕ) (d : Delivered) → Updates steps pool next begun d → d ≡ accepted_answer (state_in b) (add m (state_in b)) steps
    accepted_answer_lem steps d u =
        u.answer (set_in b starts) (sym origins) log_moved
        ∙ ap₂ (λ (S R : State). accepted_answer S R steps) h.judged.table.set (set_next ∙ ap (add m) h.judged.table.set)
