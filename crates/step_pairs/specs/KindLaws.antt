-- The pairs of a step, by place: of changes, and of changes as the code holds them.
use Rattle.std.specs.Prelude.{◌≡◌, refl, ℕ, zero, suc, ◌-◌, ◌<◌, ℤ, pos, length, get_or}
use Rattle.std.proofs.Common.{sym, ap, ◌∙◌, arith, not-suc-le-zero}
use mathlib.Core.List.{List, [], ◌∷◌, ◌++◌, map, reverse, reverse-cons}
use Rattle.std.proofs.lemmas.List.{length-map, length-reverse, get_or_at}
use Rattle.std.proofs.Math.ListN.{get_or-append}
use Rattle.model.specs.Setpoints.{Change}
use Rattle.model.specs.Steps.{Pair, pair_of}
use Rattle.laws_order.specs.ListLaws.{get_d_map}
use Rattle.setpoints_changes.specs.declared.Change.{Change as Held}
use Rattle.setpoints_changes.specs.Changes.{change_in}
use Rattle.step_pairs.specs.declared.kinds.Kind.{Kind}
use Rattle.step_pairs.specs.declared.kinds.Kind.TheVariants.{Undo, Execute}
use Rattle.step_pairs.specs.Kinds.{place_by, value_by, pairs_by}

-- there is one pair for each change
pub pairs_count : (kind : Kind) (l : List Change) → length (pairs_by kind l) ≡ length l
pairs_count Undo l = length-reverse (map (λ d. pair_of d.tag d.before) l) ∙ length-map l (λ d. pair_of d.tag d.before)
pairs_count Execute l = length-map l (λ d. pair_of d.tag d.after)

pub place_inside : (kind : Kind) (count k : ℕ) → k < count → place_by kind count k < count
place_inside Undo count k h = omega arith
place_inside Execute count k h = h

-- a list turned round, by place
turned_at : {A : Type 0} (l : List A) (k : ℕ) (d : A) → k < length l → get_or (reverse l) k d ≡ get_or l (length l - 1 - k) d
turned_at [] k d h = absurd (not-suc-le-zero h)
turned_at {A} (a ∷ l) k d h = ap (λ (x : List A). get_or x k d) (reverse-cons a l) ∙ place (length l - k) refl (turned_at l k d)
  where
    place : (n : ℕ) → length l - k ≡ n → (k < length l → get_or (reverse l) k d ≡ get_or l (length l - 1 - k) d) → get_or (reverse l ++ a ∷ []) k d ≡ get_or (a ∷ l) (length (a ∷ l) - 1 - k) d
    place zero e rest =
        get_or_at (reverse l) a [] d k (length-reverse l ∙ omega arith)
        ∙ ap (λ (i : ℕ). get_or (a ∷ l) i d) {x = 0} {y = length (a ∷ l) - 1 - k} (omega arith)
    place (suc n) e rest =
        get_or-append (reverse l) (a ∷ []) d k (omega (arith, length-reverse l)) ∙ rest (omega arith)
        ∙ ap (λ (i : ℕ). get_or (a ∷ l) i d) {x = suc (length l - 1 - k)} {y = length (a ∷ l) - 1 - k} (omega arith)

-- the pair at k is that of the change at its place
pub pair_at : (kind : Kind) (l : List Change) (k : ℕ) (p : Pair) (d : Change) → k < length l
    → let c = get_or l (place_by kind (length l) k) d in get_or (pairs_by kind l) k p ≡ pair_of c.tag (value_by kind c.before c.after)
pair_at Undo l k p d h =
    let pairs : List Pair = map (λ c. pair_of c.tag c.before) l in
    let size = length-map l (λ c. pair_of c.tag c.before) in
    turned_at pairs k p (omega arith) ∙ ap (λ (n : ℕ). get_or pairs (n - 1 - k) p) size
    ∙ get_d_map (λ c. pair_of c.tag c.before) l (length l - 1 - k) d p (omega arith)
pair_at Execute l k p d h = get_d_map (λ c. pair_of c.tag c.after) l k d p h

-- ---- of changes as the code holds them
abbrev pub no_pair : Pair
no_pair = pair_of 0 (pos 0)

pub held_count : (kind : Kind) (l : List Held) → length (pairs_by kind (map change_in l)) ≡ length l
held_count kind l = pairs_count kind (map change_in l) ∙ length-map l change_in

-- the pair at k is that of the change at its place j
pub held_pair : (kind : Kind) (l : List Held) (d : Held) {k j : ℕ} {v : ℤ} → k < length l → j ≡ place_by kind (length l) k
    → v ≡ value_by kind (get_or l j d).before (get_or l j d).after → pair_of (get_or l j d).tag v ≡ get_or (pairs_by kind (map change_in l)) k no_pair
held_pair kind l d {k} {j} h e f =
    ap (pair_of (get_or l j d).tag) f
    ∙ ap (λ (x : Change). pair_of x.tag (value_by kind x.before x.after)) (sym here)
    ∙ sym (pair_at kind (map change_in l) k no_pair (change_in d) (omega (arith, size)))
  where
    size : length (map change_in l) ≡ length l
    size = length-map l change_in

    here : get_or (map change_in l) (place_by kind (length (map change_in l)) k) (change_in d) ≡ change_in (get_or l j d)
    here =
        ap (λ (n : ℕ). get_or (map change_in l) (place_by kind n k) (change_in d)) size ∙ ap (λ (i : ℕ). get_or (map change_in l) i (change_in d)) (sym e)
        ∙ get_d_map change_in l j d (change_in d) (omega (arith, e, place_inside kind (length l) k h))
