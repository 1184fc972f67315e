-- Laws of lists that every crate uses: items by their places, the greatest of a list, and the members of its parts.
use Rattle.std.specs.Prelude.{◌≡◌, refl, ◌⊎◌, Bool, true, false, cond, ℕ, zero, suc, ◌+◌, ◌≤◌, ◌<◌, length, take, drop, get_or}
use Rattle.std.proofs.Common.{sym, ◌∙◌, ap, ap₂, subst, inl, inr, ⊎_elim, zero-le, suc-le-suc, arith, le_of_suc-le-suc, add-one, get_or-take, get_or-drop, take-suc}
use mathlib.Core.List.Memᴰ
use mathlib.Core.List.{List, [], ◌∷◌, ◌++◌, map, reverse, reverse_aux}
use Rattle.model.specs.Lists.{◌∈◌, keep, greatest}

pub get_d_∈ : {A : Type 0} (l : List A) (k : ℕ) (d : A) → k < length l → get_or l k d ∈ l
get_d_∈ [] k d h = let z : ⊥ = omega arith in absurd z
get_d_∈ (x ∷ l) zero d h = Memᴰ.head refl
get_d_∈ (x ∷ l) (suc k) d h = Memᴰ.tail (get_d_∈ l k d (le_of_suc-le-suc h))

pub ∈_get_d : {A : Type 0} {a : A} {l : List A} (d : A) → a ∈ l → (k : ℕ) × (k < length l) × (get_or l k d ≡ a)
∈_get_d d (Memᴰ.head e) = (0, suc-le-suc zero-le, sym e)
∈_get_d d (Memᴰ.tail m) = let r = ∈_get_d d m in (suc r.0, suc-le-suc r.1, r.2)

pub greatest_≤ : {A : Type 0} (f : A → ℕ) (l : List A) (n : ℕ) → ((a : A) → a ∈ l → f a ≤ n) → greatest f l ≤ n
greatest_≤ f [] n h = zero-le
greatest_≤ f (a ∷ l) n h = omega (arith, h a (Memᴰ.head refl), greatest_≤ f l n (λ b k. h b (Memᴰ.tail k)))

pub get_d_map : {A B : Type 0} (f : A → B) (l : List A) (k : ℕ) (d : A) (e : B) → k < length l → get_or (map f l) k e ≡ f (get_or l k d)
get_d_map f [] k d e h = let z : ⊥ = omega arith in absurd z
get_d_map f (x ∷ l) zero d e h = refl
get_d_map f (x ∷ l) (suc k) d e h = get_d_map f l k d e (le_of_suc-le-suc h)

pub map_map : {A B C : Type 0} (g : B → C) (f : A → B) (l : List A) → map g (map f l) ≡ map (λ a. g (f a)) l
map_map g f [] = refl
map_map g f (a ∷ l) = ap (λ (k : List _). g (f a) ∷ k) (map_map g f l)

pub map_same : {A : Type 0} (f : A → A) (l : List A) → ((a : A) → a ∈ l → f a ≡ a) → map f l ≡ l
map_same f [] h = refl
map_same f (a ∷ l) h = ap₂ ◌∷◌ (h a (Memᴰ.head refl)) (map_same f l (λ b k. h b (Memᴰ.tail k)))

-- what holds of each item's image holds of each item of the map
pub map_all : {A B : Type 0} (P : B → Type 0) (f : A → B) (l : List A) → ((a : A) → a ∈ l → P (f a)) → (b : B) → b ∈ map f l → P b
map_all P f l h b k = let m = Memᴰ.of_map f l k in subst P m.2 (h m.0 m.1)

pub take_map : {A B : Type 0} (n : ℕ) (f : A → B) (l : List A) → take n (map f l) ≡ map f (take n l)
take_map zero f l = refl
take_map (suc n) f [] = refl
take_map {A} {B} (suc n) f (a ∷ l) = ap (λ (k : List B). f a ∷ k) (take_map n f l)

pub drop_map : {A B : Type 0} (n : ℕ) (f : A → B) (l : List A) → drop n (map f l) ≡ map f (drop n l)
drop_map zero f l = refl
drop_map (suc n) f [] = refl
drop_map (suc n) f (a ∷ l) = drop_map n f l

map_reversed : {A B : Type 0} (f : A → B) (l r : List A) → map f (reverse_aux l r) ≡ reverse_aux (map f l) (map f r)
map_reversed f [] r = refl
map_reversed f (a ∷ l) r = map_reversed f l (a ∷ r)

pub map_reverse : {A B : Type 0} (f : A → B) (l : List A) → map f (reverse l) ≡ reverse (map f l)
map_reverse f l = map_reversed f l []

-- what is kept of a list with one item more
pub keep_snoc : {A : Type 0} (p : A → Bool) (l : List A) (x : A) → keep p (l ++ (x ∷ [])) ≡ keep p l ++ cond (p x) (x ∷ []) []
keep_snoc p [] x = refl
keep_snoc {A} p (y ∷ l) x = go (p y) (keep_snoc p l x)
  where
    go : (b : Bool) → keep p (l ++ (x ∷ [])) ≡ keep p l ++ cond (p x) (x ∷ []) []
        → cond b (y ∷ keep p (l ++ (x ∷ []))) (keep p (l ++ (x ∷ []))) ≡ cond b (y ∷ keep p l) (keep p l) ++ cond (p x) (x ∷ []) []
    go true e = ap (λ (k : List A). y ∷ k) e
    go false e = e

-- ---- an item of a part
pub get_d_part : {A : Type 0} (l : List A) (from n i : ℕ) (d : A) → i < n → get_or (take n (drop from l)) i d ≡ get_or l (from + i) d
get_d_part l from n i d h = get_or-take n (drop from l) i d h ∙ get_or-drop from l i d

-- ---- members of a part, and of a list turned round
pub ∈_take : {A : Type 0} (n : ℕ) (l : List A) {a : A} → a ∈ take n l → a ∈ l
∈_take zero l k = absurd (Memᴰ.not-nil k)
∈_take (suc n) [] k = k
∈_take (suc n) (x ∷ l) k = ⊎_elim (λ e. Memᴰ.head e) (λ j. Memᴰ.tail (∈_take n l j)) (Memᴰ.cases_cons k)

pub ∈_drop : {A : Type 0} (n : ℕ) (l : List A) {a : A} → a ∈ drop n l → a ∈ l
∈_drop zero l k = k
∈_drop (suc n) [] k = k
∈_drop (suc n) (x ∷ l) k = Memᴰ.tail (∈_drop n l k)

∈_reversed : {A : Type 0} (l r : List A) {a : A} → a ∈ reverse_aux l r → (a ∈ l) ⊎ (a ∈ r)
∈_reversed [] r k = inr k
∈_reversed (x ∷ l) r k =
    ⊎_elim (λ j. inl (Memᴰ.tail j)) (λ j. ⊎_elim (λ e. inl (Memᴰ.head e)) inr (Memᴰ.cases_cons j)) (∈_reversed l (x ∷ r) k)

pub ∈_reverse : {A : Type 0} (l : List A) {a : A} → a ∈ reverse l → a ∈ l
∈_reverse l k = ⊎_elim (λ j. j) (λ j. absurd (Memᴰ.not-nil j)) (∈_reversed l [] k)

-- one item more from the front
pub take_next : {A : Type 0} (l : List A) (k : ℕ) (d : A) → k < length l → take (k + 1) l ≡ take k l ++ get_or l k d ∷ []
take_next l k d h = ap (λ (n : ℕ). take n l) (add-one k) ∙ take-suc l k d h
