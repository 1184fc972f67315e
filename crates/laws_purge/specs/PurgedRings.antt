-- A purge leaves rings: what meets one is held, with all on the way to it, and needs of it what it needed before.
use Rattle.std.specs.Prelude.{◌≡◌, refl, List, ℕ}
use Rattle.std.proofs.Common.{sym, subst, inl, inr, ⊎_elim}
use mathlib.Core.List.Memᴰ
use Rattle.model.specs.Lists.{◌∈◌}
use Rattle.model.specs.Message.{Message, sequence_of}
use Rattle.model.specs.Listing as L
use Rattle.model.specs.Order.{State, RightSet, needs, Reaches, MeetsRing}
use Rattle.model.specs.Purge.{purge_first}
use Rattle.laws_state.specs.LogLaws.{held_is, ring_held}
use Rattle.laws_purge.specs.PurgedFloors.{left_is, left_ascends, needs_others}
use Rattle.laws_purge.specs.PurgedState.{purge_held}

module _ (S : State) (right : RightSet S) (K : ℕ) where
  -- what meets a ring is left
  ring_left : (m : Message) → m ∈ S.deltas → MeetsRing S m → m ∈ (purge_first K S).deltas
  ring_left m k ring =
      ((held_is (purge_first K S) (left_ascends S right K) m).0
      (subst (λ (l : List Message). m ∈ l) (sym (purge_held S right K)) (ring_held S right.ascends m k ring))).0

  -- and what needs it does so still
  ring_needed : (a b : Message) → a ∈ S.deltas → MeetsRing S a → b ∈ S.deltas → MeetsRing S b
      → sequence_of b ∈ needs S a → sequence_of b ∈ needs (purge_first K S) a
  ring_needed a b j p k q n =
      ⊎_elim (λ g. absurd (((left_is S right K b).0 (ring_left b k q)).1 g)) (λ i. i) (needs_others S right K a (ring_left a j p) (sequence_of b) n)

  -- the way to a delta that reaches itself
  module _ (r : Message) (k : r ∈ S.deltas) (ring : Reaches S r (sequence_of r)) where
    way : {a : Message} {s : ℕ} → a ∈ S.deltas → s ≡ sequence_of r → Reaches S a s → Reaches (purge_first K S) a s
    way {a} {s} j e (L.needed n) =
        let n' : sequence_of r ∈ needs S a = Memᴰ.cast (sym e) n in
        L.needed (Memᴰ.cast e (ring_needed a r j (inr (r, k, L.needed n', ring)) k (inl ring) n'))
    way {a} {s} j e (L.through {b = b} i n q) =
        let q' : Reaches S b (sequence_of r) = subst (Reaches S b) e q in
        let meets : MeetsRing S b = inr (r, k, q', ring) in
        L.through (ring_left b i meets) (ring_needed a b j (inr (r, k, L.through i n q', ring)) i meets n) (way i e q)

  pub purge_ring : (m : Message) → m ∈ S.deltas → MeetsRing S m → MeetsRing (purge_first K S) m
  purge_ring m k (inl ring) = inl (way m k ring k refl ring)
  purge_ring m k (inr (r, j, p, ring)) = inr (r, ring_left r j (inl ring), way r j ring k refl p, way r j ring j refl ring)
