-- An old log that is the new one with the others left out: two deltas stand in the same order in both, and what is undone between them is
-- executed again, in the same order.
use Rattle.std.specs.Prelude.{◌≡◌, refl, ◌↔◌, Bool, true, false, cond, not, ℕ, suc, take, drop, T, eqb}
use Rattle.std.proofs.Common.{sym, ◌∙◌, ap, subst, inl, inr, ⊎_elim, take-append-drop, eqb→eq, T_not}
use mathlib.Core.List.Memᴰ
use mathlib.Core.List.{List, [], ◌∷◌, ◌++◌, map, reverse, reverse-reverse, tail-eq_of_cons-eq}
use Rattle.model.specs.Lists.{◌∈◌, has, keep}
use Rattle.model.specs.Steps.{Step, undo, execute, common}
use Rattle.model_runs.specs.SameOrder.{Before, SameOrder}
use Rattle.laws_order.specs.TestLaws.{same_test, has→∈, ∈→has, keep_∈, ∈_keep, keep_cong}
use Rattle.laws_order.specs.ListLaws.{∈_reverse, ∈_drop}
use Rattle.laws_order.specs.CommonLaws.{common_start}

-- two that stay, where others are left out
before_keep : (p : ℕ → Bool) (s t : ℕ) → T (p s) → T (p t) → (l : List ℕ) → Before s t (keep p l) ↔ Before s t l
before_keep p s t h k [] = (λ z. z, λ z. z)
before_keep p s t h k (x ∷ l) = go (p x) (λ n e. T_not (p x) n (subst (λ (y : ℕ). T (p y)) e h)) (before_keep p s t h k l)
  where
    go : (c : Bool) → (T (not c) → ¬ (s ≡ x)) → Before s t (keep p l) ↔ Before s t l → Before s t (cond c (x ∷ keep p l) (keep p l)) ↔ Before s t (x ∷ l)
    go true n ih = (⊎_elim (λ q. inl (q.0, (keep_∈ p l q.1).0)) (λ b. inr (ih.0 b)), ⊎_elim (λ q. inl (q.0, ∈_keep p q.1 k)) (λ b. inr (ih.1 b)))
    go false n ih = (λ b. inr (ih.0 b), ⊎_elim (λ q. absurd (n tt q.0)) ih.1)

-- The old log is the new one with the others left out: so its deltas stand in the same order in both.
pub left_out_order : (old new : List ℕ) → keep (λ s. has s old) new ≡ old → SameOrder old new
left_out_order old new e s t i j =
    let b = before_keep (λ x. has x old) s t (∈→has i) (∈→has j) new in
    (λ q. subst (Before s t) e (b.1 q), λ q. b.0 (subst (Before s t) (sym e) q))

-- ---- steps between them
-- behind the common start, too, the old one is the new one with the others left out
rest_left_out : (p : ℕ → Bool) (old new : List ℕ) → keep p new ≡ old → keep p (drop (common old new) new) ≡ drop (common old new) old
rest_left_out p [] new e = e
rest_left_out p (a ∷ old) [] e = e
rest_left_out p (a ∷ old) (b ∷ new) e = go (eqb a b) (eqb→eq a b) (rest_left_out p old new)
  where
    behind : (c : Bool) → (T (not c) → T (not (p b))) → a ≡ b → cond c (b ∷ keep p new) (keep p new) ≡ a ∷ old → keep p new ≡ old
    behind true f same h = tail-eq_of_cons-eq h
    behind false f same h = absurd (T_not (p b) (f tt)
        (subst (λ (x : ℕ). T (p x)) same (keep_∈ p new (subst (λ (l : List ℕ). a ∈ l) (sym h) (Memᴰ.head refl))).1))

    go : (c : Bool) → (T c → a ≡ b) → (keep p new ≡ old → keep p (drop (common old new) new) ≡ drop (common old new) old)
        → keep p (drop (cond c (suc (common old new)) 0) (b ∷ new)) ≡ drop (cond c (suc (common old new)) 0) (a ∷ old)
    go true f ih = ih (behind (p b) (λ t. t) (f tt) e)
    go false f ih = e

-- What is undone, the old rest from its end, is executed again in the order of the old log; no sequence may stand twice in the new one.
pub rest_executed_again : (old new : List ℕ) → keep (λ s. has s old) new ≡ old
    → ((s : ℕ) → s ∈ take (common old new) new → s ∈ drop (common old new) new → ⊥)
    → keep (λ s. has s (reverse (drop (common old new) old))) (drop (common old new) new) ≡ drop (common old new) old
rest_executed_again old new e apart =
    keep_cong (λ s. has s (reverse rest)) (λ s. has s old) (drop n new) same ∙ rest_left_out (λ s. has s old) old new e
  where
    n : ℕ
    n = common old new

    rest : List ℕ
    rest = drop n old

    -- what is executed and was there stood behind the common start
    behind : (s : ℕ) → s ∈ drop n new → s ∈ old → s ∈ rest
    behind s k j = ⊎_elim (λ i. absurd (apart s (subst (λ (l : List ℕ). s ∈ l) (common_start old new) i) k)) (λ i. i)
        (Memᴰ.append_cases (take n old) (subst (λ (l : List ℕ). s ∈ l) (sym (take-append-drop n old)) j))

    turned : (s : ℕ) → s ∈ rest → s ∈ reverse rest
    turned s k = ∈_reverse (reverse rest) (subst (λ (l : List ℕ). s ∈ l) (sym (reverse-reverse rest)) k)

    same : (s : ℕ) → s ∈ drop n new → has s (reverse rest) ≡ has s old
    same s k = same_test (has s (reverse rest)) (has s old) (λ t. ∈→has (∈_drop n old (∈_reverse rest (has→∈ s (reverse rest) t))))
        (λ t. ∈→has (turned s (behind s k (has→∈ s old t))))

-- ---- a list of undos, then of executions, tells which
abbrev undone_in : List Step → List ℕ
undone_in [] = []
undone_in (undo s ∷ l) = s ∷ undone_in l
undone_in (execute s ∷ l) = undone_in l

abbrev executed_in : List Step → List ℕ
executed_in [] = []
executed_in (undo s ∷ l) = executed_in l
executed_in (execute s ∷ l) = s ∷ executed_in l

none_undone : (executed : List ℕ) → undone_in (map execute executed) ≡ []
none_undone [] = refl
none_undone (s ∷ l) = none_undone l

undone_is : (undone executed : List ℕ) → undone_in (map undo undone ++ map execute executed) ≡ undone
undone_is [] executed = none_undone executed
undone_is (s ∷ l) executed = ap (λ (k : List ℕ). s ∷ k) (undone_is l executed)

all_executed : (executed : List ℕ) → executed_in (map execute executed) ≡ executed
all_executed [] = refl
all_executed (s ∷ l) = ap (λ (k : List ℕ). s ∷ k) (all_executed l)

executed_is : (undone executed : List ℕ) → executed_in (map undo undone ++ map execute executed) ≡ executed
executed_is [] executed = all_executed executed
executed_is (s ∷ l) executed = executed_is l executed

pub steps_tell : (undone executed gone run : List ℕ) → map undo undone ++ map execute executed ≡ map undo gone ++ map execute run → (undone ≡ gone) × (executed ≡ run)
steps_tell undone executed gone run e =
    (sym (undone_is undone executed) ∙ ap undone_in e ∙ undone_is gone run, sym (executed_is undone executed) ∙ ap executed_in e ∙ executed_is gone run)
