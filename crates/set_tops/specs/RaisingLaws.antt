-- A sequence passes the tops on lower lines; at its place it is put in, or the top of its line is raised.
use Rattle.std.specs.Prelude.{◌≡◌, refl, Bool, true, false, cond, List, [], ◌∷◌, ◌++◌, ℕ, suc, ◌+◌, ◌≤◌, ◌<◌, max, length, take, drop, get_or, T, eqb, ltb}
use Rattle.std.proofs.Common.{sym, ◌∙◌, ap, ap₂, subst, ⊎_elim, arith, add-one, drop_of_length-le, take-suc, drop-cons, eqb→eq, ltb→lt, nltb→le, eq-eqb, ne_eqb, lt-ltb, le-ltb}
use Rattle.std.proofs.Math.Seq.{append_snoc}
use Rattle.model.specs.Message.{line_of}
use Rattle.model.specs.Tops.{raise_top}
use Rattle.laws_order.specs.TestLaws.{and_l, and_r, and_i, true_T, eq→eqb, decide}
use Rattle.set_table.specs.Table.{insert_at}
use Rattle.set_tops.specs.Raising.{Passes, PlaceOf, on_line}

pub passes_none : (s : ℕ) (tops : List ℕ) → Passes s tops 0
passes_none s tops = record { inside = omega arith; rest = refl }

-- ---- at the first top
abbrev choice : Bool → Bool → ℕ → ℕ → List ℕ → List ℕ
choice b c s top l = cond b (s ∷ top ∷ l) (cond c (max s top ∷ l) (top ∷ raise_top s l))

raise_behind : (s top : ℕ) (l : List ℕ) → line_of top < line_of s → raise_top s (top ∷ l) ≡ top ∷ raise_top s l
raise_behind s top l h =
    ap₂ (λ (b c : Bool). choice b c s top l) (le-ltb (line_of s) (line_of top) (omega arith)) (ne_eqb (line_of s) (line_of top) (λ e. let z : ⊥ = omega arith in z))

raise_before : (s top : ℕ) (l : List ℕ) → line_of s < line_of top → raise_top s (top ∷ l) ≡ s ∷ top ∷ l
raise_before s top l h = ap (λ (b : Bool). choice b (eqb (line_of s) (line_of top)) s top l) (lt-ltb (line_of s) (line_of top) h)

raise_on : (s top : ℕ) (l : List ℕ) → line_of s ≡ line_of top → raise_top s (top ∷ l) ≡ max s top ∷ l
raise_on s top l e = ap₂ (λ (b c : Bool). choice b c s top l) (le-ltb (line_of s) (line_of top) (omega arith)) (eq-eqb (line_of s) (line_of top) e)

module _ (s : ℕ) (tops : List ℕ) (p : ℕ) where
  at_top : Passes s tops p → p < length tops → raise_top s tops ≡ take p tops ++ raise_top s (get_or tops p 0 ∷ drop (suc p) tops)
  at_top passes left = passes.rest ∙ ap (λ (l : List ℕ). take p tops ++ raise_top s l) (drop-cons tops p 0 left)

  -- one top more is passed
  pub passes_more : Passes s tops p → p < length tops → line_of (get_or tops p 0) < line_of s → Passes s tops (p + 1)
  passes_more passes left h = record {
    inside = omega arith;
    rest = at_top passes left ∙ ap (λ (l : List ℕ). take p tops ++ l) (raise_behind s (get_or tops p 0) (drop (suc p) tops) h)
        ∙ sym (append_snoc (take p tops) (get_or tops p 0) (raise_top s (drop (suc p) tops)))
        ∙ ap (λ (l : List ℕ). l ++ raise_top s (drop (suc p) tops)) (sym (take-suc tops p 0 left))
        ∙ ap (λ (n : ℕ). take n tops ++ raise_top s (drop n tops)) (sym (add-one p));
  }

  -- ---- the top of its line is raised
  pub on_line_left : on_line s tops p ≡ true → p < length tops
  on_line_left e = ltb→lt p (length tops) (and_l (ltb p (length tops)) (eqb (line_of (get_or tops p 0)) (line_of s)) (true_T (on_line s tops p) e))

  pub raised_on : PlaceOf s tops p → on_line s tops p ≡ true → raise_top s tops ≡ take p tops ++ max s (get_or tops p 0) ∷ drop (suc p) tops
  raised_on place e =
      let same = eqb→eq (line_of (get_or tops p 0)) (line_of s) (and_r (ltb p (length tops)) (eqb (line_of (get_or tops p 0)) (line_of s)) (true_T (on_line s tops p) e)) in
      at_top place.passes (on_line_left e) ∙ ap (λ (l : List ℕ). take p tops ++ l) (raise_on s (get_or tops p 0) (drop (suc p) tops) (sym same))

  -- ---- and where its line has no top, it is put in
  raised_end : Passes s tops p → length tops ≤ p → raise_top s tops ≡ insert_at p s tops
  raised_end passes h =
      let none : drop p tops ≡ [] = drop_of_length-le tops h in
      passes.rest ∙ ap (λ (l : List ℕ). take p tops ++ raise_top s l) none ∙ ap (λ (l : List ℕ). take p tops ++ s ∷ l) (sym none)

  raised_before : PlaceOf s tops p → p < length tops → (line_of (get_or tops p 0) ≡ line_of s → ⊥) → raise_top s tops ≡ insert_at p s tops
  raised_before place left other =
      let above : line_of s < line_of (get_or tops p 0) = let least = place.here left in omega arith in
      at_top place.passes left ∙ ap (λ (l : List ℕ). take p tops ++ l) (raise_before s (get_or tops p 0) (drop (suc p) tops) above)
      ∙ ap (λ (l : List ℕ). take p tops ++ s ∷ l) (sym (drop-cons tops p 0 left))

  pub raised_in : PlaceOf s tops p → on_line s tops p ≡ false → raise_top s tops ≡ insert_at p s tops
  raised_in place e = ⊎_elim
      (λ t. raised_before place (ltb→lt p (length tops) t)
      (λ same. let z : ⊥ = false_not (and_i (ltb p (length tops)) (eqb (line_of (get_or tops p 0)) (line_of s)) t (eq→eqb same)) in z))
      (λ t. raised_end place.passes (nltb→le p (length tops) t))
      (decide (ltb p (length tops)))
    where
      false_not : T (on_line s tops p) → ⊥
      false_not t = subst T e t
