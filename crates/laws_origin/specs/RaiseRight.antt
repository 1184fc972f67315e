-- Tops that are raised: they are right again, and each sequence makes at most one more.
use Rattle.std.specs.Prelude.{◌≡◌, refl, Bool, true, false, cond, not, List, [], ◌∷◌, map, ℕ, suc, ◌+◌, ◌^◌, ◌≤◌, ◌<◌, max, length, T, eqb, ltb}
use Rattle.std.proofs.Common.{subst, ⊎_elim, arith, eqb→eq, ltb→lt, lt→ltb, nltb→le}
use mathlib.Core.List.Memᴰ
use Rattle.model.specs.Lists.{◌∈◌, every, ascending}
use Rattle.model.specs.Layout.{sequence_size}
use Rattle.model.specs.Message.{line_of, numbered}
use Rattle.model.specs.Tops.{tops_right, raise_top, raise_tops}
use Rattle.laws_order.specs.TestLaws.{and_l, and_r, and_i, decide, not_eqb}

-- a sequence is raised: it goes before the first top, in its place, or behind it
pub raise_cases : (P : List ℕ → Type 0) (s top : ℕ) (l : List ℕ)
    → (line_of s < line_of top → P (s ∷ top ∷ l)) → (line_of s ≡ line_of top → P (max s top ∷ l)) → (line_of top < line_of s → P (top ∷ raise_top s l))
    → P (raise_top s (top ∷ l))
raise_cases P s top l before here behind =
    go (ltb (line_of s) (line_of top)) (eqb (line_of s) (line_of top)) (λ t. before (ltb→lt (line_of s) (line_of top) t)) (λ t. here (eqb→eq (line_of s) (line_of top) t))
    (λ t u. behind (let least = nltb→le (line_of s) (line_of top) t in let differs = not_eqb (line_of s) (line_of top) u in omega arith))
  where
    go : (b c : Bool) → (T b → P (s ∷ top ∷ l)) → (T c → P (max s top ∷ l)) → (T (not b) → T (not c) → P (top ∷ raise_top s l))
        → P (cond b (s ∷ top ∷ l) (cond c (max s top ∷ l) (top ∷ raise_top s l)))
    go true c f g h = f tt
    go false true f g h = g tt
    go false false f g h = h tt tt

-- ---- they ascend by line
max_line : (s top : ℕ) → line_of s ≡ line_of top → line_of top ≡ line_of (max s top)
max_line s top e = omega arith

-- also behind a line below them all
raise_above : (b s : ℕ) (tops : List ℕ) → b < line_of s → T (ascending (b ∷ map line_of tops)) → T (ascending (b ∷ map line_of (raise_top s tops)))
raise_above b s [] h t = and_i (ltb b (line_of s)) true (lt→ltb b (line_of s) h) tt
raise_above b s (top ∷ l) h t =
    let first = and_l (ltb b (line_of top)) (ascending (line_of top ∷ map line_of l)) t in
    let rest = and_r (ltb b (line_of top)) (ascending (line_of top ∷ map line_of l)) t in
    raise_cases (λ k. T (ascending (b ∷ map line_of k))) s top l
    (λ q. and_i (ltb b (line_of s)) (ascending (line_of s ∷ line_of top ∷ map line_of l)) (lt→ltb b (line_of s) h)
    (and_i (ltb (line_of s) (line_of top)) (ascending (line_of top ∷ map line_of l)) (lt→ltb (line_of s) (line_of top) q) rest))
    (λ e. subst (λ (n : ℕ). T (ascending (b ∷ n ∷ map line_of l))) (max_line s top e) t)
    (λ q. and_i (ltb b (line_of top)) (ascending (line_of top ∷ map line_of (raise_top s l))) first (raise_above (line_of top) s l q rest))

pub raise_ascends : (s : ℕ) (tops : List ℕ) → T (ascending (map line_of tops)) → T (ascending (map line_of (raise_top s tops)))
raise_ascends s [] t = tt
raise_ascends s (top ∷ l) t =
    raise_cases (λ k. T (ascending (map line_of k))) s top l
    (λ q. and_i (ltb (line_of s) (line_of top)) (ascending (line_of top ∷ map line_of l)) (lt→ltb (line_of s) (line_of top) q) t)
    (λ e. subst (λ (n : ℕ). T (ascending (n ∷ map line_of l))) (max_line s top e) t)
    (λ q. raise_above (line_of top) s l q t)

-- ---- what a test says of each
max_either : (p : ℕ → Bool) (a b : ℕ) → T (p a) → T (p b) → T (p (max a b))
max_either p a b t u = ⊎_elim
    (λ q. let less = ltb→lt a b q in let e : b ≡ max a b = omega arith in subst (λ (n : ℕ). T (p n)) e u)
    (λ q. let e : a ≡ max a b = omega (arith, nltb→le a b q) in subst (λ (n : ℕ). T (p n)) e t)
    (decide (ltb a b))

pub raise_every : (p : ℕ → Bool) (s : ℕ) (tops : List ℕ) → T (p s) → T (every p tops) → T (every p (raise_top s tops))
raise_every p s [] own t = and_i (p s) true own tt
raise_every p s (top ∷ l) own t =
    let first = and_l (p top) (every p l) t in
    let rest = and_r (p top) (every p l) t in
    raise_cases (λ k. T (every p k)) s top l
    (λ q. and_i (p s) (every p (top ∷ l)) own t)
    (λ e. and_i (p (max s top)) (every p l) (max_either p s top own first) rest)
    (λ q. and_i (p top) (every p (raise_top s l)) first (raise_every p s l own rest))

-- ---- they are right
pub raise_right : (s : ℕ) (tops : List ℕ) → T (tops_right tops) → T (numbered s) → s < 256 ^ sequence_size → T (tops_right (raise_top s tops))
unfolding tops_right
raise_right s tops t own h =
    let small : ℕ → Bool = λ top. ltb top (256 ^ sequence_size) in
    let ascends : T (ascending (map line_of tops)) = search (and_l, and_r) depth 6 in
    let numbers : T (every numbered tops) = search (and_l, and_r) depth 6 in
    let sizes : T (every small tops) = search (and_l, and_r) depth 6 in
    let a = raise_ascends s tops ascends in
    let b = raise_every numbered s tops own numbers in
    let c = raise_every small s tops (lt→ltb s (256 ^ sequence_size) h) sizes in
    search and_i depth 4

pub raised_right : (l tops : List ℕ) → T (tops_right tops) → ((s : ℕ) → s ∈ l → T (numbered s)) → ((s : ℕ) → s ∈ l → s < 256 ^ sequence_size)
    → T (tops_right (raise_tops l tops))
raised_right [] tops t own h = t
raised_right (s ∷ l) tops t own h =
    raised_right l (raise_top s tops) (raise_right s tops t (own s (Memᴰ.head refl)) (h s (Memᴰ.head refl)))
    (λ x m. own x (Memᴰ.tail m)) (λ x m. h x (Memᴰ.tail m))

-- ---- how many there are
pub raise_length : (s : ℕ) (tops : List ℕ) → (length tops ≤ length (raise_top s tops)) × (length (raise_top s tops) ≤ suc (length tops))
raise_length s [] = (omega arith, omega arith)
raise_length s (top ∷ l) =
    let rest = raise_length s l in
    raise_cases (λ k. (suc (length l) ≤ length k) × (length k ≤ suc (suc (length l)))) s top l
    (λ q. (omega arith, omega arith)) (λ e. (omega arith, omega arith)) (λ q. (omega (arith, rest.0), omega (arith, rest.1)))

pub raised_length : (l tops : List ℕ) → (length tops ≤ length (raise_tops l tops)) × (length (raise_tops l tops) ≤ length tops + length l)
raised_length [] tops = (omega arith, omega arith)
raised_length (s ∷ l) tops =
    let one = raise_length s tops in
    let rest = raised_length l (raise_top s tops) in
    (omega (arith, one.0, rest.0), omega (arith, one.1, rest.1))

-- none are left only of none
raise_one : (s : ℕ) (tops : List ℕ) → 0 < length (raise_top s tops)
raise_one s [] = omega arith
raise_one s (top ∷ l) = raise_cases (λ k. 0 < length k) s top l (λ q. omega arith) (λ e. omega arith) (λ q. omega arith)

pub raise_some : (l tops : List ℕ) → 0 < length l + length tops → 0 < length (raise_tops l tops)
raise_some [] tops h = omega arith
raise_some (s ∷ l) tops h = omega (arith, raise_one s tops, (raised_length l (raise_top s tops)).0)
