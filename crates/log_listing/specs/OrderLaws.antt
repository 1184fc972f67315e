-- The log grows by the delta that comes next, and is whole when none comes or all are placed.
use Rattle.std.specs.Prelude.{Option as Found, Some, None, ◌≡◌, refl, ℕ, ◌+◌, ◌-◌, ◌≤◌, ◌<◌, set, replicate}
use Rattle.std.proofs.Math.Path.{sym, ap}
use Rattle.std.proofs.Common.{◌∙◌, subst, ⊎_elim, arith, length-append, length-take-le}
use mathlib.Core.List.Memᴰ
use mathlib.Core.List.{List, [], ◌∷◌, ◌++◌, map-append, append-nil}
use Rattle.std.proofs.Math.ListN.{length, get_or, length-map}
use Rattle.model.specs.Layout.{capacity}
use Rattle.model.specs.Message.{Message, sequence_of}
use Rattle.model.specs.Order.{State, RightSet, needs, placed_by, key_of, less, log_from, log_of}
use Rattle.laws_order.specs.KeyOrder.{less_total}
use Rattle.laws_order.specs.ListingLaws.{Next?, next_is}
use Rattle.laws_order.specs.Greedy.{Greedy, greedy_snoc, greedy_begins, greedy_first}
use Rattle.laws_state.specs.LogLaws.{keys_differ}
use Rattle.set_table.specs.Table.{deltas_at}
use Rattle.set_readiness.specs.Ready.{marks_size, Placing}
use Rattle.set_closure.specs.ClosingLaws.{placing_none, placing_more}
use Rattle.log_order.specs.declared.LogOrder.{LogOrder}
use Rattle.log_order.specs.LogOrder.{places_of, OrderRight, Placed}
use Rattle.log_listing.specs.Next.{delta_of, Picks, NextRight}
use Rattle.log_listing.specs.Ordered.{Ordered, Grows, Growing}

module _ (S : State) (right : RightSet S) where
  -- nothing is placed
  grows_none : (places : List ℕ) → places ≡ [] → Grows S (replicate marks_size 0) 0 places
  grows_none places e =
      subst (Grows S (replicate marks_size 0) 0) (sym e) (record { count = refl; within = λ i k. absurd (Memᴰ.not-nil k); placing = placing_none S right; greedy = tt })

  module _ (placed : List ℕ) (k : ℕ) (places : List ℕ) (g : Grows S placed k places) where
    abbrev before : List Message
    before = deltas_at S.deltas places

    -- what the pick says of the delta that comes next, or that none does
    picked : (r : Found ℕ) → Picks S (placed_by before) r → Next? sequence_of (needs S) (key_of S) less less_total S.deltas (placed_by before) (delta_of S.deltas r)
    picked r x = subst (Next? sequence_of (needs S) (key_of S) less less_total S.deltas (placed_by before)) (sym x.lowest) (next_is sequence_of (needs S) (key_of S) less less_total S.deltas (placed_by before))

    -- the next one is placed
    grows_more : (i : ℕ) → Picks S (placed_by before) (Some i) → Grows S (set placed i 1) (k + 1) (places ++ i ∷ [])
    grows_more i x = record {
      count = length-append places (i ∷ []) ∙ ap (λ (n : ℕ). n + 1) g.count;
      within = λ j m. ⊎_elim (λ q. g.within j q) (λ q. subst (λ (n : ℕ). n < length S.deltas) (sym (Memᴰ.eq_of_singleton q)) x.within) (Memᴰ.append_cases places m);
      placing = subst (Placing S (set placed i 1)) (sym more) (placing_more S right i x.within placed 1 (λ e. let z : ⊥ = omega arith in z) before (picked (Some i) x).is_ready g.placing);
      greedy = subst (Greedy sequence_of (needs S) (key_of S) less less_total S.deltas []) (sym more)
          (greedy_snoc sequence_of (needs S) (key_of S) less less_total S.deltas before [] (get_or S.deltas i []) g.greedy (picked (Some i) x));
    }
      where
        more : deltas_at S.deltas (places ++ i ∷ []) ≡ deltas_at S.deltas places ++ get_or S.deltas i [] ∷ []
        more = map-append (λ j. get_or S.deltas j []) places (i ∷ [])

    -- none comes next
    grows_stuck : Picks S (placed_by before) None → before ≡ log_of S
    unfolding log_of
    grows_stuck x = sym (greedy_first sequence_of (needs S) (key_of S) less less_total S.deltas (keys_differ S right.ascends) before g.greedy (picked None x))

    -- all are placed
    grows_full : length S.deltas ≤ k → before ≡ log_of S
    unfolding log_of
    grows_full h =
        let none : length S.deltas - length before ≡ 0 = omega (arith, g.count, length-map places (λ (i : ℕ). get_or S.deltas i [])) in
        sym (greedy_begins sequence_of (needs S) (key_of S) less less_total S.deltas (keys_differ S right.ascends) before g.greedy
        ∙ ap (λ (n : ℕ). before ++ log_from S n (placed_by before)) none ∙ append-nil before)

  -- ---- what holds where the loop of `order` tests: at first, after a turn, and what follows from it at the end
  module _ (begun : LogOrder) where
    pub growing_none : length begun.places ≡ capacity → OrderRight begun → places_of begun ≡ [] → Growing S begun (replicate marks_size 0) begun 0
    growing_none size right' none = record {
      inside = omega arith;
      count = omega (arith, ap length none, length-take-le begun.count begun.places (omega (arith, right'.news)));
      right = right';
      olds = refl;
      size = refl;
      grows = grows_none (places_of begun) none;
    }

    module _ (placed : List ℕ) (log : LogOrder) (k : ℕ) (g : Growing S begun placed log k) where
      -- a delta is placed
      pub growing_more : k < length S.deltas → (i : ℕ) → NextRight S placed (Some i) → (longer : LogOrder) → Placed log i longer
          → Growing S begun (set placed i 1) longer (k + 1)
      growing_more room i x longer p = record {
        inside = omega arith;
        count = omega (arith, p.count, g.count);
        right = p.right;
        olds = p.olds ∙ g.olds;
        size = p.size ∙ g.size;
        grows = subst (Grows S (set placed i 1) (k + 1)) (sym p.places)
            (grows_more placed k (places_of log) g.grows i (x (deltas_at S.deltas (places_of log)) g.grows.placing));
      }

      -- a delta that comes next is of the table
      pub next_inside : (i : ℕ) → NextRight S placed (Some i) → i < length S.deltas
      next_inside i x = (x (deltas_at S.deltas (places_of log)) g.grows.placing).within

      -- none comes next, or all are placed
      whole : deltas_at S.deltas (places_of log) ≡ log_of S → Ordered S begun log
      whole e = record { log = e; within = g.grows.within; right = g.right; olds = g.olds; size = g.size }

      pub growing_stuck : NextRight S placed None → Ordered S begun log
      growing_stuck x = whole (grows_stuck placed k (places_of log) g.grows (x (deltas_at S.deltas (places_of log)) g.grows.placing))

      pub growing_full : length S.deltas ≤ k → Ordered S begun log
      growing_full h = whole (grows_full placed k (places_of log) g.grows h)
