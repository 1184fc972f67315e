-- The steps from one log to the next can be played, and no list that can be played is shorter.
use Rattle.std.specs.Prelude.{◌≡◌, refl, Bool, true, false, cond, ℕ, suc, ◌+◌, ◌≤◌, length, take, drop, T, eqb}
use Rattle.std.proofs.Common.{sym, ◌∙◌, ap, ap₂, subst, arith, le_of_eq, length-append, take-append-drop, length-drop}
use mathlib.Core.List.{List, [], ◌∷◌, ◌++◌, map, reverse, reverse_aux, append-nil, append_cancel_right}
use Rattle.std.proofs.lemmas.List.{length-map, length-reverse}
use Rattle.std.proofs.Math.Seq.{append_snoc, drop-length, drop-append_seam}
use Rattle.std.proofs.Math.Dec.{eqb_refl}
use Rattle.laws_order.specs.CommonLaws.{common_start}
use Rattle.model.specs.Steps.{Step, undo, execute, common, steps_of, undos_of, executions_of, Plays}

-- ---- they can be played
play_undos : (q r p : List ℕ) (ss : List Step) (k : List ℕ) → Plays p (map undo r ++ ss) k → Plays (p ++ q) (map undo (reverse_aux q r) ++ ss) k
play_undos [] r p ss k h = rw append-nil h
play_undos (x ∷ q) r p ss k h =
    subst (λ (l : List ℕ). Plays l (map undo (reverse_aux q (x ∷ r)) ++ ss) k) (append_snoc p x q) (play_undos q (x ∷ r) (p ++ x ∷ []) ss k (p, refl, h))

play_executes : (q p : List ℕ) → Plays p (map execute q) (p ++ q)
play_executes [] p = sym (append-nil p)
play_executes (x ∷ q) p = subst (λ (l : List ℕ). Plays (p ++ x ∷ []) (map execute q) l) (append_snoc p x q) (play_executes q (p ++ x ∷ []))

pub steps_play : (l k : List ℕ) → Plays l (steps_of l k) k
steps_play l k =
    subst (λ (x : List ℕ). Plays x (steps_of l k) k) (take-append-drop (common l k) l)
    (play_undos (drop (common l k) l) [] (take (common l k) l) (map execute (drop (common l k) k)) k
    (subst (λ (x : List ℕ). Plays x (map execute (drop (common l k) k)) k) (sym (common_start l k))
    (subst (λ (x : List ℕ). Plays (take (common l k) k) (map execute (drop (common l k) k)) x) (take-append-drop (common l k) k)
    (play_executes (drop (common l k) k) (take (common l k) k)))))

-- ---- and no list that can be played is shorter
-- how far two logs are apart
abbrev gap : List ℕ → List ℕ → ℕ
gap [] k = length k
gap (a ∷ l) [] = suc (length l)
gap (a ∷ l) (b ∷ k) = cond (eqb a b) (gap l k) (length l + length k + 2)

gap_self : (l : List ℕ) → gap l l ≡ 0
gap_self [] = refl
gap_self (a ∷ l) = go (eqb a a) (eqb_refl a) (gap_self l)
  where
    go : (c : Bool) → T c → gap l l ≡ 0 → cond c (gap l l) (length l + length l + 2) ≡ 0
    go true t h = h
    go false t h = absurd t

-- one step brings two logs nearer by one at the most
gap_snoc : (l : List ℕ) (s : ℕ) (k : List ℕ) → (gap (l ++ s ∷ []) k ≤ suc (gap l k)) × (gap l k ≤ suc (gap (l ++ s ∷ []) k))
gap_snoc [] s [] = omega arith
gap_snoc [] s (b ∷ k) = go (eqb s b)
  where
    go : (c : Bool) → (cond c (length k) (0 + length k + 2) ≤ suc (suc (length k))) × (suc (length k) ≤ suc (cond c (length k) (0 + length k + 2)))
    go true = omega arith
    go false = omega arith
gap_snoc (a ∷ l) s [] = omega (arith, length-append l (s ∷ []))
gap_snoc (a ∷ l) s (b ∷ k) = go (eqb a b) (gap_snoc l s k)
  where
    go : (c : Bool) → (gap (l ++ s ∷ []) k ≤ suc (gap l k)) × (gap l k ≤ suc (gap (l ++ s ∷ []) k))
        → (cond c (gap (l ++ s ∷ []) k) (length (l ++ s ∷ []) + length k + 2) ≤ suc (cond c (gap l k) (length l + length k + 2)))
        × (cond c (gap l k) (length l + length k + 2) ≤ suc (cond c (gap (l ++ s ∷ []) k) (length (l ++ s ∷ []) + length k + 2)))
    go true h = h
    go false h = omega (arith, length-append l (s ∷ []))

gap_least : (ss : List Step) (l k : List ℕ) → Plays l ss k → gap l k ≤ length ss
gap_least [] l k h = le_of_eq (subst (λ (x : List ℕ). gap l x ≡ 0) h (gap_self l))
gap_least (undo s ∷ ss) l k h =
    let ih : gap h.0 k ≤ length ss = gap_least ss h.0 k h.2 in
    subst (λ (x : List ℕ). gap x k ≤ suc (length ss)) (sym h.1) (omega (arith, (gap_snoc h.0 s k).0))
gap_least (execute s ∷ ss) l k h = omega (arith, gap_least ss (l ++ s ∷ []) k h, (gap_snoc l s k).1)

steps_gap : (l k : List ℕ) → length (drop (common l k) l) + length (drop (common l k) k) ≡ gap l k
steps_gap [] k = omega arith
steps_gap (a ∷ l) [] = omega arith
steps_gap (a ∷ l) (b ∷ k) = go (eqb a b) (steps_gap l k)
  where
    go : (c : Bool) → length (drop (common l k) l) + length (drop (common l k) k) ≡ gap l k
        → length (drop (cond c (suc (common l k)) 0) (a ∷ l)) + length (drop (cond c (suc (common l k)) 0) (b ∷ k)) ≡ cond c (gap l k) (length l + length k + 2)
    go true h = h
    go false h = omega arith

pub steps_count : (l k : List ℕ) → length (steps_of l k) ≡ gap l k
steps_count l k = simp (length-append, length-map, length-reverse) (steps_gap l k)

pub steps_fewest : (l k : List ℕ) (ss : List Step) → Plays l ss k → length (steps_of l k) ≤ length ss
steps_fewest l k ss h = omega (arith, steps_count l k, gap_least ss l k h)

-- ---- from a log to itself there is no step
pub common_self : (l : List ℕ) → common l l ≡ length l
common_self [] = refl
common_self (a ∷ l) = go (eqb a a) (eqb_refl a) (common_self l)
  where
    go : (c : Bool) → T c → common l l ≡ length l → cond c (suc (common l l)) 0 ≡ suc (length l)
    go true t h = ap suc h
    go false t h = absurd t

pub undos_self : (l : List ℕ) → undos_of l l ≡ 0
undos_self l = omega (arith, common_self l)

-- from a log to a longer one that starts with it nothing is undone
pub common_longer : (l r : List ℕ) → common l (l ++ r) ≡ length l
common_longer [] r = refl
common_longer (a ∷ l) r = go (eqb a a) (eqb_refl a) (common_longer l r)
  where
    go : (c : Bool) → T c → common l (l ++ r) ≡ length l → cond c (suc (common l (l ++ r))) 0 ≡ suc (length l)
    go true t h = ap suc h
    go false t h = absurd t

pub steps_longer : (l r : List ℕ) → steps_of l (l ++ r) ≡ map execute r
steps_longer l r =
    ap (λ (n : ℕ). map undo (reverse (drop n l)) ++ map execute (drop n (l ++ r))) (common_longer l r)
    ∙ ap₂ (λ (x y : List ℕ). map undo (reverse x) ++ map execute y) (drop-length l) (drop-append_seam l r)

-- ---- steps lead to one log at the most
pub plays_unique : (ss : List Step) (l k j : List ℕ) → Plays l ss k → Plays l ss j → k ≡ j
plays_unique [] l k j p q = sym p ∙ q
plays_unique (undo s ∷ ss) l k j p q =
    plays_unique ss p.0 k j p.2 (subst (λ (x : List ℕ). Plays x ss j) (sym (append_cancel_right p.0 q.0 (s ∷ []) (sym p.1 ∙ q.1))) q.2)
plays_unique (execute s ∷ ss) l k j p q = plays_unique ss (l ++ s ∷ []) k j p q

-- ---- the counts of the steps
pub common_le : (l k : List ℕ) → (common l k ≤ length l) × (common l k ≤ length k)
common_le [] k = (omega arith, omega arith)
common_le (a ∷ l) [] = (omega arith, omega arith)
common_le (a ∷ l) (b ∷ k) = go (eqb a b) (common_le l k)
  where
    go : (c : Bool) → (common l k ≤ length l) × (common l k ≤ length k)
        → (cond c (suc (common l k)) 0 ≤ suc (length l)) × (cond c (suc (common l k)) 0 ≤ suc (length k))
    go true h = (omega arith, omega arith)
    go false h = (omega arith, omega arith)

pub steps_counted : (l k : List ℕ) → length (steps_of l k) ≡ undos_of l k + executions_of l k
steps_counted l k = simp (length-append, length-map, length-reverse, length-drop)
