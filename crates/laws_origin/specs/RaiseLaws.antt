-- Raised tops: what they cover.
use Rattle.std.specs.Prelude.{◌≡◌, refl, ◌⊎◌, ◌↔◌, List, [], ◌∷◌, ℕ, ◌≤◌, ◌<◌, max, T, ltb}
use Rattle.std.proofs.Common.{sym, ◌∙◌, subst, inl, inr, ⊎_elim, arith, ltb→lt, nltb→le}
use mathlib.Core.List.Memᴰ
use Rattle.model.specs.Lists.{◌∈◌}
use Rattle.model.specs.Message.{line_of, number_of}
use Rattle.model.specs.Tops.{at_or_below, covered, raise_top, raise_tops}
use Rattle.laws_order.specs.TestLaws.{or_l, or_r, or_e, decide}
use Rattle.laws_origin.specs.TopLaws.{below_out, below_in}
use Rattle.laws_origin.specs.RaiseRight.{raise_cases}

pub below_self : (s : ℕ) → T (at_or_below s s)
below_self s = below_in s s refl (omega arith)

-- what is at or below a top is at or below every higher one of its line
below_up : (a b s : ℕ) → line_of a ≡ line_of b → number_of a ≤ number_of b → T (at_or_below a s) → T (at_or_below b s)
below_up a b s e h t = let o = below_out a s t in below_in b s (o.0 ∙ e) (omega (arith, o.1))

-- of two of one line the greater covers what either does
greater_covers : (a b s : ℕ) → line_of a ≡ line_of b → T (at_or_below (max a b) s) ↔ (T (at_or_below a s) ⊎ T (at_or_below b s))
greater_covers a b s e = ⊎_elim (λ t. second (ltb→lt a b t)) (λ t. first (nltb→le a b t)) (decide (ltb a b))
  where
    Either : ℕ → Type 0
    Either top = T (at_or_below top s) ↔ (T (at_or_below a s) ⊎ T (at_or_below b s))

    second : a < b → Either (max a b)
    second h =
        let m : max a b ≡ b = omega arith in
        let up : number_of a ≤ number_of b = omega (arith, e) in
        subst Either (sym m) (inr, ⊎_elim (below_up a b s e up) (λ u. u))

    first : b ≤ a → Either (max a b)
    first h =
        let m : max a b ≡ a = omega arith in
        let up : number_of b ≤ number_of a = omega (arith, e) in
        subst Either (sym m) (inl, ⊎_elim (λ u. u) (below_up b a s (sym e) up))

-- a top before others
first_covers : (top : ℕ) (l : List ℕ) (s : ℕ) → T (covered (top ∷ l) s) ↔ (T (at_or_below top s) ⊎ T (covered l s))
first_covers top l s = (or_e (at_or_below top s) (covered l s), ⊎_elim (or_l (at_or_below top s) (covered l s)) (or_r (at_or_below top s) (covered l s)))

-- A raised top covers what the tops covered, and what is at or below it.
pub raise_covers : (r : ℕ) (tops : List ℕ) (s : ℕ) → T (covered (raise_top r tops) s) ↔ (T (covered tops s) ⊎ T (at_or_below r s))
raise_covers r [] s = (λ t. ⊎_elim inr inl ((first_covers r [] s).0 t), ⊎_elim (λ z. absurd z) (λ u. (first_covers r [] s).1 (inl u)))
raise_covers r (top ∷ l) s = raise_cases Both r top l (λ h. new) level (λ h. later (raise_covers r l s))
  where
    all : T (covered (top ∷ l) s) ↔ (T (at_or_below top s) ⊎ T (covered l s))
    all = first_covers top l s

    Both : List ℕ → Type 0
    Both raised = T (covered raised s) ↔ (T (covered (top ∷ l) s) ⊎ T (at_or_below r s))

    new : Both (r ∷ top ∷ l)
    new = let f = first_covers r (top ∷ l) s in (λ t. ⊎_elim inr inl (f.0 t), ⊎_elim (λ u. f.1 (inr u)) (λ u. f.1 (inl u)))

    level : line_of r ≡ line_of top → Both (max r top ∷ l)
    level e =
        let g = greater_covers r top s e in
        let f = first_covers (max r top) l s in (
          λ t. ⊎_elim (λ u. ⊎_elim inr (λ v. inl (all.1 (inl v))) (g.0 u)) (λ u. inl (all.1 (inr u))) (f.0 t),
          ⊎_elim (λ t. ⊎_elim (λ v. f.1 (inl (g.1 (inr v)))) (λ v. f.1 (inr v)) (all.0 t)) (λ u. f.1 (inl (g.1 (inl u)))),
        )

    later : T (covered (raise_top r l) s) ↔ (T (covered l s) ⊎ T (at_or_below r s)) → Both (top ∷ raise_top r l)
    later ih =
        let f = first_covers top (raise_top r l) s in (
          λ t. ⊎_elim (λ u. inl (all.1 (inl u))) (λ u. ⊎_elim (λ v. inl (all.1 (inr v))) inr (ih.0 u)) (f.0 t),
          ⊎_elim (λ t. ⊎_elim (λ v. f.1 (inl v)) (λ v. f.1 (inr (ih.1 (inl v)))) (all.0 t)) (λ u. f.1 (inr (ih.1 (inr u)))),
        )

-- Raised by some sequences, tops cover what they covered, and what is at or below one of these.
pub raised_cover : (l tops : List ℕ) (s : ℕ)
    → T (covered (raise_tops l tops) s) ↔ (T (covered tops s) ⊎ ((r : ℕ) × (r ∈ l) × T (at_or_below r s)))
raised_cover [] tops s = (inl, ⊎_elim (λ t. t) (λ r. absurd (Memᴰ.not-nil r.1)))
raised_cover (x ∷ l) tops s =
    let ih = raised_cover l (raise_top x tops) s in
    let one = raise_covers x tops s in
    let first : T (at_or_below x s) → T (covered (raise_tops l (raise_top x tops)) s) = λ t. ih.1 (inl (one.1 (inr t))) in (
      λ t. ⊎_elim (λ u. ⊎_elim inl (λ v. inr (x, Memᴰ.head refl, v)) (one.0 u)) (λ r. inr (r.0, Memᴰ.tail r.1, r.2)) (ih.0 t),
      ⊎_elim (λ t. ih.1 (inl (one.1 (inl t))))
          (λ r. ⊎_elim (λ e. first (subst (λ (y : ℕ). T (at_or_below y s)) e r.2)) (λ k. ih.1 (inr (r.0, k, r.2))) (Memᴰ.cases_cons r.1)),
    )
