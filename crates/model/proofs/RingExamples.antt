-- Examples of rings: one of two deltas that name each other meets a ring; one that needs a delta which needs nothing meets none.
use mathlib.Core.Path.{◌≡◌, refl, sym, ◌∙◌, ap, subst}
use mathlib.Core.Logic.{inl, ⊎_elim}
use mathlib.Core.List.Memᴰ
use mathlib.Core.List.{[], ◌∷◌}
use Prim.Native.Nat.{ℕ}
use lib.Dec.{T, eqb, eqb_refl}
use Rattle.model.specs.Lists.{◌∈◌}
use Rattle.model.specs.Message.{Message, sequence_of}
use Rattle.model.specs.Listing.{needed, through}
use Rattle.model.specs.Order.{State, needs, Reaches, MeetsRing}
use Rattle.model.proofs.ExampleMessages.{a1, a1_naming_b1, b1_naming_a1, holding}

-- A1 and B1 each naming the other
ring : State
ring = holding (a1_naming_b1 ∷ b1_naming_a1 ∷ [])

in-a-ring : MeetsRing ring a1_naming_b1
unfolding ring needs
in-a-ring = inl (through {b = b1_naming_a1} (Memᴰ.tail (Memᴰ.head refl)) (Memᴰ.head refl) (needed (Memᴰ.head refl)))

-- B1 naming A1, which needs nothing
abbrev chain : State
chain = holding (a1 ∷ b1_naming_a1 ∷ [])

different : sequence_of b1_naming_a1 ≡ sequence_of a1 → ⊥
different e = subst (λ (s : ℕ). T (eqb (sequence_of b1_naming_a1) s)) e (eqb_refl (sequence_of b1_naming_a1))

received : (m : Message) → m ∈ chain.deltas → sequence_of m ≡ sequence_of a1 → m ≡ a1
received m k e = ⊎_elim (λ q. q) (λ j. absurd (different (ap sequence_of (sym (Memᴰ.eq_of_singleton j)) ∙ e))) (Memᴰ.cases_cons k)

nothing : (s : ℕ) → Reaches chain a1 s → ⊥
unfolding needs
nothing s (needed k) = Memᴰ.not-nil k
nothing s (through m k r) = Memᴰ.not-nil k

only : (s : ℕ) → Reaches chain b1_naming_a1 s → s ≡ sequence_of a1
unfolding needs
only s (needed k) = Memᴰ.eq_of_singleton k
only s (through {b = b} m k r) = absurd (nothing s (subst (λ (x : Message). Reaches chain x s) (received b m (Memᴰ.eq_of_singleton k)) r))

in-no-ring : MeetsRing chain b1_naming_a1 → ⊥
in-no-ring = ⊎_elim (λ r. different (only (sequence_of b1_naming_a1) r))
    (λ r. let is : r.0 ≡ a1 = received r.0 r.1 (only (sequence_of r.0) r.2) in nothing (sequence_of r.0) (subst (λ (x : Message). Reaches chain x (sequence_of r.0)) is r.3))
