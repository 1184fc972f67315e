-- Which of two deltas stands before the other; logs that keep the order of an older one, and logs that do not; calls that keep to it.
use mathlib.Core.Path.{◌≡◌, refl, sym}
use mathlib.Core.Logic.{inl, inr, ⊎_elim}
use mathlib.Core.List.Memᴰ
use mathlib.Core.List.{List, [], ◌∷◌}
use Prim.Native.Nat.{ℕ}
use native.Mathlib.Omega.{arith}
use Rattle.model.specs.Lists.{◌∈◌}
use Rattle.model.specs.Order.{needs, log_of, held_of, executables_of}
use Rattle.model.specs.Setpoints.{start_values, stop, raise, operate, change_of, apply, run_command, run_delta, setpoints_of}
use Rattle.model.specs.Purge.{origin_past, purge_first}
use Rattle.model.specs.Image.{messages_start_in, messages_of, values_of, base_of, floors_of, header_of, sections_of, used_of, image_of}
use Rattle.model_runs.specs.SameOrder.{Before, SameOrder}
use Rattle.model_runs.specs.Run.{KeepsOrder}
use Rattle.model.proofs.ExampleMessages.{A, B, C, a1, b1}
use Rattle.model_runs.proofs.ExampleEvents.{image}
use Rattle.model_runs.proofs.RunExamples.{then_a1, wrong_c1}
use Rattle.model_runs.proofs.PurgeRunExamples.{one_gone}

-- ---- `Before`: C1 between them does not matter
before_b1 : Before (A 1) (B 1) (A 1 ∷ C 1 ∷ B 1 ∷ [])
before_b1 = inl (refl, Memᴰ.tail (Memᴰ.head refl))

only_b1 : A 1 ∈ B 1 ∷ [] → ⊥
only_b1 k = ⊎_elim (λ e. let z : ⊥ = omega arith in z) Memᴰ.not-nil (Memᴰ.cases_cons k)

-- none stands before itself
not_itself : Before (A 1) (A 1) (A 1 ∷ B 1 ∷ []) → ⊥
not_itself (inl p) = only_b1 p.1
not_itself (inr (inl p)) = Memᴰ.not-nil p.1
not_itself (inr (inr z)) = z

-- nor before one that is in front of it
not_before : Before (B 1) (A 1) (A 1 ∷ B 1 ∷ []) → ⊥
not_before (inl p) = only_b1 (Memᴰ.head (sym p.0))
not_before (inr (inl p)) = Memᴰ.not-nil p.1
not_before (inr (inr z)) = z

-- ---- `SameOrder`: one that comes before all
in-front : (x : ℕ) (l : List ℕ) → ¬ (x ∈ l) → SameOrder l (x ∷ l)
in-front x l n s t i j = (⊎_elim (λ p. absurd (n (Memᴰ.cast (sym p.0) i))) (λ b. b), inr)

-- one that comes between two
between : SameOrder (A 1 ∷ B 1 ∷ []) (A 1 ∷ C 1 ∷ B 1 ∷ [])
between s t i j = (forth, back)
  where
    not_c1 : (x : ℕ) → x ∈ A 1 ∷ B 1 ∷ [] → x ≡ C 1 → ⊥
    not_c1 x k e = ⊎_elim (λ u. let z : ⊥ = omega arith in z)
        (λ m. ⊎_elim (λ u. let z : ⊥ = omega arith in z) Memᴰ.not-nil (Memᴰ.cases_cons m)) (Memᴰ.cases_cons k)

    forth : Before s t (A 1 ∷ C 1 ∷ B 1 ∷ []) → Before s t (A 1 ∷ B 1 ∷ [])
    forth (inl p) = inl (p.0, ⊎_elim (λ e. absurd (not_c1 t j e)) (λ m. m) (Memᴰ.cases_cons p.1))
    forth (inr (inl p)) = absurd (not_c1 s i p.0)
    forth (inr (inr b)) = inr b

    back : Before s t (A 1 ∷ B 1 ∷ []) → Before s t (A 1 ∷ C 1 ∷ B 1 ∷ [])
    back (inl p) = inl (p.0, Memᴰ.tail p.1)
    back (inr b) = inr (inr b)

-- A1 and B1 turned round; A1 lost; A1 twice
turned : SameOrder (A 1 ∷ B 1 ∷ []) (B 1 ∷ A 1 ∷ []) → ⊥
turned h = go ((h (A 1) (B 1) (Memᴰ.head refl) (Memᴰ.tail (Memᴰ.head refl))).1 (inl (refl, Memᴰ.head refl)))
  where
    go : Before (A 1) (B 1) (B 1 ∷ A 1 ∷ []) → ⊥
    go (inl p) = only_b1 (Memᴰ.head p.0)
    go (inr (inl p)) = Memᴰ.not-nil p.1
    go (inr (inr z)) = z

lost : SameOrder (A 1 ∷ B 1 ∷ []) (B 1 ∷ []) → ⊥
lost h = go ((h (A 1) (B 1) (Memᴰ.head refl) (Memᴰ.tail (Memᴰ.head refl))).1 (inl (refl, Memᴰ.head refl)))
  where
    go : Before (A 1) (B 1) (B 1 ∷ []) → ⊥
    go (inl p) = Memᴰ.not-nil p.1
    go (inr z) = z

doubled : SameOrder (A 1 ∷ B 1 ∷ []) (A 1 ∷ B 1 ∷ A 1 ∷ []) → ⊥
doubled h = not_before ((h (B 1) (A 1) (Memᴰ.tail (Memᴰ.head refl)) (Memᴰ.head refl)).0 (inr (inl (refl, Memᴰ.head refl))))

-- ---- `KeepsOrder`, of calls of the worked runs: A1 comes before B1; C1 is refused; a purge drops A1, and B1 is left
comes_before : KeepsOrder (image (b1 ∷ [])) then_a1.call then_a1.answer
unfolding messages_start_in image_of used_of sections_of header_of values_of base_of floors_of messages_of setpoints_of start_values log_of held_of executables_of needs run_delta run_command apply change_of operate raise stop
comes_before = in-front (A 1) (B 1 ∷ []) only_b1

stays : KeepsOrder (image (a1 ∷ b1 ∷ [])) wrong_c1.call wrong_c1.answer
stays s t i j = (λ b. b, λ b. b)

drops : KeepsOrder (image (a1 ∷ b1 ∷ [])) one_gone.call one_gone.answer
unfolding messages_start_in image_of used_of sections_of header_of values_of base_of floors_of messages_of setpoints_of start_values log_of held_of executables_of needs purge_first origin_past run_delta run_command apply change_of operate raise stop
drops s t i j = (λ b. b, λ b. b)
