-- The parts of a composed message: its sequence is new, above its line's floor, and follows the line's last one, and its dependencies are
-- logged, in order, and neither its own sequence nor its predecessor.
use Rattle.std.specs.Prelude.{◌≡◌, refl, ◌⊎◌, Bool, true, false, cond, not, ◌&&◌, List, [], ◌∷◌, ℕ, suc, ◌-◌, ◌/◌, ◌%◌, ◌≤◌, ◌<◌, max, eqb, ltb}
use Rattle.std.proofs.Common.{sym, ◌∙◌, ap, arith, not-suc-le-zero, eqb→eq, ltb→lt, lt→ltb, nltb→le, T_not, eq-eqb}
use Rattle.std.proofs.Math.Path.{subst}
use Rattle.std.proofs.Math.Logic.{inl, inr, ⊎_elim}
use mathlib.Core.List.Memᴰ
use Rattle.std.proofs.Math.Dec.{T, eqb_refl, not_T}
use Rattle.model.specs.Lists.{◌∈◌, has, every, some?, keep, greatest, ascending}
use Rattle.model.specs.Layout.{numbers_of_line}
use Rattle.model.specs.Message.{Message, sequence_of, line_of, number_of, predecessor_of, numbered, numbers_right, dependencies_of}
use Rattle.model.specs.Tops.{at_or_below}
use Rattle.model.specs.Order.{State, purged, Ascending, sequences_of, needs, log_of, held_of}
use Rattle.model.specs.Image.{Valid}
use Rattle.model.specs.Compose.{number_on, highest_number, floor_number, new_number, new_sequence, unneeded, new_dependencies}
use Rattle.model.specs.Codes.{held_on}
use Rattle.laws_order.specs.TestLaws.{and_l, and_r, and_i, decide, has→∈, ∈→has, keep_∈, ∈_keep, ∈_every, some_∈, ∈_some, greatest_≥}
use Rattle.laws_origin.specs.TopLaws.{below_out, below_in}
use Rattle.laws_state.specs.LogLaws.{Logged, log_received, log_held}
use Rattle.laws_state.specs.ImageLaws.{log_passes}
use Rattle.laws_wire.specs.MessageLaws.{passes_numbers}

-- ---- lists
ascending_cons : (a : ℕ) (l : List ℕ) → ((x : ℕ) → x ∈ l → a < x) → T (ascending l) → T (ascending (a ∷ l))
ascending_cons a [] f t = tt
ascending_cons a (b ∷ l) f t = and_i (ltb a b) (ascending (b ∷ l)) (lt→ltb a b (f b (Memᴰ.head refl))) t

keep_ascending : (p : ℕ → Bool) (l : List Message) → Ascending l → T (ascending (keep p (sequences_of l)))
keep_ascending p [] h = tt
keep_ascending p (m ∷ l) h = go (p (sequence_of m)) (keep_ascending p l h.1)
  where
    above : (x : ℕ) → x ∈ keep p (sequences_of l) → sequence_of m < x
    above x k =
        let r = Memᴰ.of_map sequence_of l (keep_∈ p (sequences_of l) k).0 in
        subst (λ (y : ℕ). sequence_of m < y) r.2 (h.0 r.0 r.1)

    go : (b : Bool) → T (ascending (keep p (sequences_of l))) → T (ascending (cond b (sequence_of m ∷ keep p (sequences_of l)) (keep p (sequences_of l))))
    go true t = ascending_cons (sequence_of m) (keep p (sequences_of l)) above t
    go false t = t

-- a greatest number above zero is reached
greatest_reached : {A : Type 0} (f : A → ℕ) (l : List A) → 1 ≤ greatest f l → (a : A) × (a ∈ l) × (f a ≡ greatest f l)
greatest_reached f [] h = absurd (not-suc-le-zero h)
greatest_reached {A} f (x ∷ l) h = go (decide (ltb (f x) (greatest f l))) (greatest_reached f l)
  where
    go : T (ltb (f x) (greatest f l)) ⊎ T (not (ltb (f x) (greatest f l))) → (1 ≤ greatest f l → (a : A) × (a ∈ l) × (f a ≡ greatest f l))
        → (a : A) × (a ∈ x ∷ l) × (f a ≡ max (f x) (greatest f l))
    go (inl t) ih =
        let c : f x < greatest f l = ltb→lt (f x) (greatest f l) t in
        let r = ih (omega arith) in
        let e : f r.0 ≡ greatest f l = r.2 in
        (r.0, Memᴰ.tail r.1, omega arith)
    go (inr t) ih = let c : greatest f l ≤ f x = nltb→le (f x) (greatest f l) t in (x, Memᴰ.head refl, omega arith)

-- the predecessor is one less
predecessor_∈ : (s p : ℕ) → p ∈ predecessor_of s → (1 < number_of s) × (p ≡ s - 1)
predecessor_∈ s p k = go (ltb 1 (number_of s)) (ltb→lt 1 (number_of s)) k
  where
    go : (b : Bool) → (T b → 1 < number_of s) → p ∈ cond b ((s - 1) ∷ []) [] → (1 < number_of s) × (p ≡ s - 1)
    go true f j = (f tt, Memᴰ.eq_of_singleton j)
    go false f j = absurd (Memᴰ.not-nil j)

-- the number of a sequence on its own line; and a number above zero is that of a sequence on the line
counted : (line s : ℕ) → line_of s ≡ line → number_on line s ≡ number_of s
counted line s e = ap (λ (b : Bool). cond b (number_of s) 0) (eq-eqb (line_of s) line e)

numbered_on : (line s : ℕ) → 1 ≤ number_on line s → (line_of s ≡ line) × (number_of s ≡ number_on line s)
numbered_on line s h = go (eqb (line_of s) line) (eqb→eq (line_of s) line) h
  where
    go : (b : Bool) → (T b → line_of s ≡ line) → 1 ≤ cond b (number_of s) 0 → (line_of s ≡ line) × (number_of s ≡ cond b (number_of s) 0)
    go true f h = (f tt, refl)
    go false f h = absurd (not-suc-le-zero h)

module _ (S : State) (valid : Valid S) (line : ℕ) (free : T (not (held_on S line))) (small : new_number S line < numbers_of_line) where
  abbrev own : ℕ
  own = new_sequence S line

  pub own_line : line_of own ≡ line
  own_line = let h : new_number S line < 65536 = small in omega arith

  pub own_number : number_of own ≡ new_number S line
  own_number = let h : new_number S line < 65536 = small in omega arith

  pub own_numbered : T (numbered own)
  own_numbered = not_T (eqb (number_of own) 0) (λ t. let e : number_of own ≡ 0 = eqb→eq (number_of own) 0 t in
      let z : ⊥ = omega (arith, own_number) in absurd z)

  -- no received delta has its sequence
  pub own_new : (a : Message) → a ∈ S.deltas → own ≡ sequence_of a → ⊥
  own_new a k e = ⊎_elim logged held (Memᴰ.append_cases (log_of S) ((log_held S valid.ascends a).1 k))
    where
      on_line : T (eqb (line_of (sequence_of a)) line)
      on_line = subst (λ (s : ℕ). T (eqb (line_of s) line)) e (subst (λ (n : ℕ). T (eqb n line)) (sym own_line) (eqb_refl line))

      logged : a ∈ log_of S → ⊥
      logged j =
          let f : Message → ℕ = λ m. number_on line (sequence_of m) in
          let h : f a ≤ greatest f (log_of S) = greatest_≥ f (log_of S) a j in
          let c : f a ≡ number_of (sequence_of a) = counted line (sequence_of a) (eqb→eq (line_of (sequence_of a)) line on_line) in
          let d : number_of own ≡ number_of (sequence_of a) = ap number_of e in
          let z : suc (max (floor_number S line) (greatest f (log_of S))) ≡ number_of own = sym own_number in
          omega arith

      held : a ∈ held_of S → ⊥
      held j = T_not (held_on S line) free (∈_some (λ m. eqb (line_of (sequence_of m)) line) (held_of S) a j on_line)

  -- it is above its line's floor
  pub own_above : T (not (purged S own))
  own_above = not_T (purged S own) (λ t.
      let r = some_∈ (λ top. at_or_below top own) S.origin.floors t in
      let o = below_out r.0 own r.2 in
      let h : number_on line r.0 ≤ floor_number S line = greatest_≥ (number_on line) S.origin.floors r.0 r.1 in
      let c : number_on line r.0 ≡ number_of r.0 = counted line r.0 (sym o.0 ∙ own_line) in
      let z : ⊥ = omega (arith, own_number, o.1) in z)

  -- its predecessor is logged, or at or below its line's floor
  pub predecessor_logged : (p : ℕ) → p ∈ predecessor_of own → T (not (purged S p)) → Logged S p
  predecessor_logged p k high = ⊎_elim by_floor by_log (decide (ltb (highest_number line (log_of S)) (floor_number S line)))
    where
      h : (1 < number_of own) × (p ≡ own - 1)
      h = predecessor_∈ own p k

      by_floor : T (ltb (highest_number line (log_of S)) (floor_number S line)) → Logged S p
      by_floor t =
          let c : highest_number line (log_of S) < floor_number S line = ltb→lt (highest_number line (log_of S)) (floor_number S line) t in
          let r = greatest_reached (number_on line) S.origin.floors (omega arith) in
          let n = numbered_on line r.0 (omega (arith, r.2)) in
          let e : p / 65536 ≡ line = omega (arith, h.0, h.1, own_number, small) in
          let u : p % 65536 ≤ number_of r.0 = omega (arith, h.0, h.1, own_number, small, r.2, n.1) in
          absurd (T_not (purged S p) high (∈_some (λ top. at_or_below top p) S.origin.floors r.0 r.1 (below_in r.0 p (e ∙ sym n.0) u)))

      by_log : T (not (ltb (highest_number line (log_of S)) (floor_number S line))) → Logged S p
      by_log t =
          let f : Message → ℕ = λ m. number_on line (sequence_of m) in
          let c : floor_number S line ≤ greatest f (log_of S) = nltb→le (greatest f (log_of S)) (floor_number S line) t in
          let r = greatest_reached f (log_of S) (omega (arith, h.0, own_number)) in
          let n = numbered_on line (sequence_of r.0) (omega (arith, r.2, h.0, own_number)) in
          let l : sequence_of r.0 / 65536 ≡ line = n.0 in
          (r.0, r.1, omega (arith, h.0, h.1, own_number, small, r.2, n.1))

  -- ---- its dependencies
  abbrev dependencies : List ℕ
  dependencies = new_dependencies S own

  abbrev chosen : ℕ → Bool
  chosen d = unneeded S d && not (has d (predecessor_of own))

  pub dependency_is : (d : ℕ) → d ∈ dependencies → (d ∈ sequences_of S.deltas) × T (chosen d)
  unfolding new_dependencies
  dependency_is d k = keep_∈ chosen (sequences_of S.deltas) k

  pub dependency_logged : (d : ℕ) → d ∈ dependencies → Logged S d
  dependency_logged d k =
      let t : T (unneeded S d) = and_l (unneeded S d) (not (has d (predecessor_of own))) (dependency_is d k).1 in
      let h : T (has d (sequences_of (log_of S))) = and_l (has d (sequences_of (log_of S))) (not (some? (λ m. has d (needs S m)) (log_of S))) t in
      let r = Memᴰ.of_map sequence_of (log_of S) (has→∈ d (sequences_of (log_of S)) h) in
      (r.0, r.1, r.2)

  pub dependencies_ascend : T (ascending dependencies)
  unfolding new_dependencies
  dependencies_ascend = keep_ascending chosen S.deltas valid.ascends

  pub dependencies_numbered : T (every numbered dependencies)
  unfolding numbers_right
  dependencies_numbered = ∈_every numbered dependencies (λ d k. let r = dependency_logged d k in
      subst (λ (s : ℕ). T (numbered s)) r.2
      (and_l (numbered (sequence_of r.0)) (every numbered (dependencies_of r.0)) (passes_numbers r.0 (log_passes S valid r.0 r.1))))

  pub dependencies_other : T (not (has own dependencies))
  dependencies_other = not_T (has own dependencies) (λ t. let r = dependency_logged own (has→∈ own dependencies t) in
      own_new r.0 (log_received S valid.ascends r.0 r.1) (sym r.2))

  pub dependencies_not_predecessor : T (every (λ p. not (has p dependencies)) (predecessor_of own))
  dependencies_not_predecessor = ∈_every (λ p. not (has p dependencies)) (predecessor_of own) (λ p k. not_T (has p dependencies)
      (λ t. T_not (has p (predecessor_of own)) (and_r (unneeded S p) (not (has p (predecessor_of own))) (dependency_is p (has→∈ p dependencies t)).1) (∈→has k)))

  -- with the predecessor they are all that no logged delta needs
  pub unneeded_named : (d : ℕ) → T (unneeded S d) → (d ∈ predecessor_of own) ⊎ (d ∈ dependencies)
  unfolding new_dependencies
  unneeded_named d t = ⊎_elim (λ h. inl (has→∈ d (predecessor_of own) h)) (λ h. inr (∈_keep chosen received (and_i (unneeded S d) (not (has d (predecessor_of own))) t h))) (decide (has d (predecessor_of own)))
    where
      received : d ∈ sequences_of S.deltas
      received =
          let h : T (has d (sequences_of (log_of S))) = and_l (has d (sequences_of (log_of S))) (not (some? (λ m. has d (needs S m)) (log_of S))) t in
          let r = Memᴰ.of_map sequence_of (log_of S) (has→∈ d (sequences_of (log_of S)) h) in
          Memᴰ.cast (sym r.2) (Memᴰ.map sequence_of (log_received S valid.ascends r.0 r.1))
