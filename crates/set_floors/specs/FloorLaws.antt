-- A search among floors that ascend by line: its turns, and what the floor that it ends with says of a sequence and of a line.
use Rattle.std.specs.Prelude.{◌≡◌, ◌⊎◌, Bool, true, false, cond, not, ◌&&◌, List, map, ℕ, ◌+◌, ◌-◌, ◌/◌, ◌≤◌, ◌<◌, length, get_or, T, eqb, ltb}
use Rattle.std.proofs.Common.{sym, ◌∙◌, ap, subst, inl, inr, ⊎_elim, arith, eqb→eq, ltb→lt, nltb→le, eq-eqb, lt-ltb, le-ltb, ltb-true, ltb-false}
use Rattle.model.specs.Lists.{◌∈◌, ascending, greatest}
use Rattle.model.specs.Layout.{floor_count_at}
use Rattle.model.specs.Message.{line_of, number_of}
use Rattle.model.specs.Tops.{covered}
use Rattle.model.specs.Order.{origin_right}
use Rattle.model.specs.Image.{floors_in, origin_in}
use Rattle.model.specs.Compose.{number_on}
use Rattle.laws_order.specs.TestLaws.{decide, is_true, is_false, not_eqb, greatest_≥}
use Rattle.laws_order.specs.ListLaws.{get_d_∈, ∈_get_d, greatest_≤}
use Rattle.laws_order.specs.ScanLaws.{lower_before}
use Rattle.laws_origin.specs.TopLaws.{lines_ascend, tops_ascend, covered_top, covered_found}
use Rattle.laws_origin.specs.OriginLaws.{floors_ascend, room_of, start_least}
use Rattle.set_floors.specs.Floors.{Halves, IsFirst}

-- ---- of a buffer whose origin is right
module _ (b : List ℕ) (right : T (origin_right (origin_in b))) where
  pub floors_sorted : T (ascending (map line_of (floors_in b)))
  unfolding origin_in
  floors_sorted = floors_ascend (origin_in b) right

  -- it has the two bytes of the floors' count
  pub count_room : floor_count_at + 2 ≤ length b
  count_room = omega (arith, start_least b, room_of b right)

-- ---- the turns of the search
abbrev pub middle : ℕ → ℕ → ℕ
middle low high = low + (high - low) / 2

pub halves_first : (floors : List ℕ) (s : ℕ) → Halves floors s 0 (length floors)
halves_first floors s = record {
  ordered = omega arith;
  inside = omega arith;
  before = λ k h. let z : ⊥ = omega arith in absurd z;
  after = λ k p q. let z : ⊥ = omega arith in absurd z;
}

module _ (floors : List ℕ) (ascends : T (ascending (map line_of floors))) (s : ℕ) where
  at_least : (p : ℕ) → s ≤ get_or floors p 0 → (k : ℕ) → p ≤ k → k < length floors → s ≤ get_or floors k 0
  at_least p h k q r = ⊎_elim
      (λ t. omega (arith, tops_ascend floors ascends p k (ltb→lt p k t) r))
      (λ t. let e : k ≡ p = omega (arith, nltb→le p k t) in omega (arith, ap (λ (i : ℕ). get_or floors i 0) e))
      (decide (ltb p k))

  -- by whether the floor in the middle is below the sequence
  module _ {low high x : ℕ} (g : Halves floors s low high) (left : low < high) (read : x ≡ get_or floors (middle low high) 0)
      {lower : Bool} (e : lower ≡ ltb x s) where
    pub halves_up : lower ≡ true → Halves floors s (middle low high + 1) high
    halves_up t =
        let below : x < s = ltb-true x s (sym e ∙ t) in
        record {
          ordered = omega arith;
          inside = g.inside;
          before = lower_before (λ k. get_or floors k 0) (length floors) (tops_ascend floors ascends) s (middle low high) (omega (arith, g.inside)) (omega arith);
          after = g.after;
        }

    pub halves_down : lower ≡ false → Halves floors s low (middle low high)
    halves_down t =
        let least : s ≤ x = ltb-false x s (sym e ∙ t) in
        record {
          ordered = omega arith;
          inside = omega (arith, g.inside);
          before = g.before;
          after = at_least (middle low high) (omega arith);
        }

  -- ---- what the first floor that is not below a sequence says of it
  module _ (p : ℕ) (first : IsFirst floors s p) where
    -- where it is another sequence, it is above, and all behind it are
    above : (get_or floors p 0 ≡ s → ⊥) → (k : ℕ) → p ≤ k → k < length floors → s < get_or floors k 0
    above other k q r = ⊎_elim
        (λ t. let behind : p < k = ltb→lt p k t in omega (arith, tops_ascend floors ascends p k behind r, first.after p (omega arith) (omega arith)))
        (λ t. let e : k ≡ p = omega (arith, nltb→le p k t) in
        let differs : get_or floors k 0 ≡ s → ⊥ = λ d. other (ap (λ (i : ℕ). get_or floors i 0) (sym e) ∙ d) in omega (arith, first.after k q r))
        (decide (ltb p k))

    -- the sequence is at or below a floor exactly if this one is on its line
    pub covered_by : p < length floors → covered floors s ≡ eqb (line_of (get_or floors p 0)) (line_of s)
    covered_by h = ⊎_elim here there (decide (eqb (get_or floors p 0) s))
      where
        here : T (eqb (get_or floors p 0) s) → covered floors s ≡ eqb (line_of (get_or floors p 0)) (line_of s)
        here t =
            let e : get_or floors p 0 ≡ s = eqb→eq (get_or floors p 0) s t in
            is_true (covered floors s) (subst (λ (x : ℕ). T (covered floors x)) e (covered_top floors p h))
            ∙ sym (eq-eqb (line_of (get_or floors p 0)) (line_of s) (ap line_of e))

        there : T (not (eqb (get_or floors p 0) s)) → covered floors s ≡ eqb (line_of (get_or floors p 0)) (line_of s)
        there t =
            covered_found floors ascends s p first.before (above (not_eqb (get_or floors p 0) s t))
            ∙ ap (λ (c : Bool). c && eqb (line_of (get_or floors p 0)) (line_of s)) (lt-ltb p (length floors) h)

    pub covered_by_none : p ≡ length floors → covered floors s ≡ false
    covered_by_none e =
        covered_found floors ascends s p first.before (λ k q r. let z : ⊥ = omega arith in absurd z)
        ∙ ap (λ (c : Bool). c && eqb (line_of (get_or floors p 0)) (line_of s)) (le-ltb p (length floors) (omega arith))

    -- ---- and of a line, where the sequence is that of its number 0000
    module _ (zeroth : number_of s ≡ 0) where
      -- no other floor is on the line
      place_of : (k : ℕ) → k < length floors → line_of (get_or floors k 0) ≡ line_of s → k ≡ p
      place_of k h e = ⊎_elim
          (λ t. let z : ⊥ = omega (arith, first.before k (ltb→lt k p t)) in absurd z)
          (λ t. ⊎_elim
          (λ u. let behind : p < k = ltb→lt p k u in
          let z : ⊥ = omega (arith, lines_ascend floors ascends p k behind h, first.after p (omega arith) (omega arith)) in absurd z)
          (λ u. omega (arith, nltb→le k p t, nltb→le p k u))
          (decide (ltb p k)))
          (decide (ltb k p))

      at_most : (n : ℕ) → (p < length floors → line_of (get_or floors p 0) ≡ line_of s → number_of (get_or floors p 0) ≤ n) → greatest (number_on (line_of s)) floors ≤ n
      at_most n f = greatest_≤ (number_on (line_of s)) floors n (λ a m. each a m (decide (eqb (line_of a) (line_of s))))
        where
          each : (a : ℕ) → a ∈ floors → T (eqb (line_of a) (line_of s)) ⊎ T (not (eqb (line_of a) (line_of s))) → number_on (line_of s) a ≤ n
          each a m (inl t) =
              let g = ∈_get_d 0 m in
              let line : line_of (get_or floors g.0 0) ≡ line_of s = ap line_of g.2 ∙ eqb→eq (line_of a) (line_of s) t in
              let same : get_or floors p 0 ≡ a = ap (λ (k : ℕ). get_or floors k 0) (sym (place_of g.0 g.1 line)) ∙ g.2 in
              omega (
                arith,
                ap (λ (c : Bool). cond c (number_of a) 0) (is_true (eqb (line_of a) (line_of s)) t),
                f (omega (arith, g.1, place_of g.0 g.1 line)) (ap line_of same ∙ eqb→eq (line_of a) (line_of s) t),
              )
          each a m (inr t) = omega (arith, ap (λ (c : Bool). cond c (number_of a) 0) (is_false (eqb (line_of a) (line_of s)) t))

      pub number_on_lem : p < length floors → line_of (get_or floors p 0) ≡ line_of s → greatest (number_on (line_of s)) floors ≡ number_of (get_or floors p 0)
      number_on_lem h e =
          let own = ap (λ (c : Bool). cond c (number_of (get_or floors p 0)) 0) (eq-eqb (line_of (get_or floors p 0)) (line_of s) e) in
          omega (arith, own, at_most (number_of (get_or floors p 0)) (λ q d. omega arith), greatest_≥ (number_on (line_of s)) floors (get_or floors p 0) (get_d_∈ floors p 0 h))

      pub number_off : (p < length floors → line_of (get_or floors p 0) ≡ line_of s → ⊥) → greatest (number_on (line_of s)) floors ≡ 0
      number_off f = omega (arith, at_most 0 (λ q d. absurd (f q d)))
