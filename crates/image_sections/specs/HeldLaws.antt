-- The places that are not the log's are those of the held messages, by ascending sequence.
use Rattle.std.specs.Prelude.{◌≡◌, refl, Bool, true, false, cond, not, ◌||◌, List, [], ◌∷◌, ◌++◌, map, ℕ, zero, suc, ◌+◌, ◌≤◌, ◌<◌, length, take, get_or}
use Rattle.std.proofs.Common.{sym, ◌∙◌, ap, ap₂, ⊎_elim, append-nil, arith, add-one, length-append, take-suc}
use mathlib.Core.List.Memᴰ
use Rattle.std.proofs.lemmas.List.{map-append, length-map}
use Rattle.std.proofs.Math.Seq.{take-length}
use Rattle.model.specs.Lists.{◌∈◌, has, keep}
use Rattle.model.specs.Message.{Message, sequence_of}
use Rattle.model.specs.Order.{sequences_of, log_of, held_of}
use Rattle.laws_order.specs.ListLaws.{keep_snoc}
use Rattle.laws_order.specs.TestLaws.{keep_∈, keep_length, same_eqb}
use Rattle.laws_state.specs.LogLaws.{held_by_log}
use Rattle.set_table.specs.Table.{message_from, deltas_of, deltas_at, set_in}
use Rattle.set_table.specs.PlaceLaws.{one_place}
use Rattle.image_sections.specs.LogPlaces.{below, others_below, TablePlaces, LogPlaces}
use Rattle.image_sections.specs.LogPlaceLaws.{log_inside}

-- ---- one number more
others_snoc : (count : ℕ) (places : List ℕ) → others_below (count + 1) places ≡ others_below count places ++ cond (not (has count places)) (count ∷ []) []
others_snoc count places = rw (add-one) (keep_snoc (λ i. not (has i places)) (below count) count)

pub others_skip : (count : ℕ) (places : List ℕ) → has count places ≡ true → others_below (count + 1) places ≡ others_below count places
others_skip count places e =
    others_snoc count places ∙ ap (λ (b : Bool). others_below count places ++ cond (not b) (count ∷ []) []) e ∙ append-nil (others_below count places)

pub others_take : (count : ℕ) (places : List ℕ) → has count places ≡ false → others_below (count + 1) places ≡ others_below count places ++ (count ∷ [])
others_take count places e = others_snoc count places ∙ ap (λ (b : Bool). others_below count places ++ cond (not b) (count ∷ []) []) e

length_below : (count : ℕ) → length (below count) ≡ count
length_below zero = refl
length_below (suc n) = length-append (below n) (n ∷ []) ∙ omega (arith, length_below n)

pub others_length : (count : ℕ) (places : List ℕ) → length (others_below count places) ≤ count
others_length count places = omega (arith, keep_length (λ i. not (has i places)) (below count), length_below count)

below_less : (count i : ℕ) → i ∈ below count → i < count
below_less zero i k = absurd (Memᴰ.not-nil k)
below_less (suc n) i k =
    ⊎_elim (λ j. omega (arith, below_less n i j)) (λ j. ⊎_elim (λ e. omega (arith, e)) (λ z. absurd (Memᴰ.not-nil z)) (Memᴰ.cases_cons j))
    (Memᴰ.append_cases (below n) k)

pub others_less : (count : ℕ) (places : List ℕ) (i : ℕ) → i ∈ others_below count places → i < count
others_less count places i k = below_less count i (keep_∈ (λ j. not (has j places)) (below count) k).0

-- ---- a list kept by its places is kept by its elements
map_cond : {A B : Type 0} (f : A → B) (b : Bool) (x : A) → map f (cond b (x ∷ []) []) ≡ cond b (f x ∷ []) []
map_cond f true x = refl
map_cond f false x = refl

keep_places : {A : Type 0} (p : ℕ → Bool) (q : A → Bool) (l : List A) (d : A) → ((i : ℕ) → i < length l → p i ≡ q (get_or l i d))
    → (n : ℕ) → n ≤ length l → map (λ i. get_or l i d) (keep p (below n)) ≡ keep q (take n l)
keep_places p q l d f zero h = refl
keep_places {A} p q l d f (suc n) h =
    let x : A = get_or l n d in
    ap (map (λ i. get_or l i d)) (keep_snoc p (below n) n)
    ∙ map-append (λ i. get_or l i d) (keep p (below n)) (cond (p n) (n ∷ []) [])
    ∙ ap₂ (λ (u v : List A). u ++ v) (keep_places p q l d f n (omega arith))
    (map_cond (λ i. get_or l i d) (p n) n ∙ ap (λ (b : Bool). cond b (x ∷ []) []) (f n h))
    ∙ sym (keep_snoc q (take n l) x) ∙ ap (keep q) (sym (take-suc l n d h))

-- ---- a sequence stands at one place: so a place is among places exactly if its sequence is among theirs
has_places : (at : ℕ → Message) (i : ℕ) (places : List ℕ) → ((j : ℕ) → j ∈ places → sequence_of (at i) ≡ sequence_of (at j) → i ≡ j)
    → has i places ≡ has (sequence_of (at i)) (sequences_of (map at places))
has_places at i [] f = refl
has_places at i (j ∷ places) f =
    ap₂ ◌||◌ (same_eqb i j (sequence_of (at i)) (sequence_of (at j)) (ap (λ (n : ℕ). sequence_of (at n))) (f j (Memᴰ.head refl)))
    (has_places at i places (λ n k. f n (Memᴰ.tail k)))

-- ---- the other places hold the held messages
pub others_held : (pool starts places : List ℕ) → LogPlaces pool starts places
    → deltas_at (deltas_of pool starts) (others_below (length starts) places) ≡ held_of (set_in pool starts)
others_held pool starts places l =
    keep_places (λ i. not (has i places)) unlogged deltas [] tests (length starts) (omega (arith, count))
    ∙ ap (keep unlogged) (ap (λ (n : ℕ). take n deltas) (sym count) ∙ take-length deltas)
    ∙ sym (held_by_log (set_in pool starts) l.holds.ascends)
  where
    deltas : List Message
    deltas = deltas_of pool starts

    unlogged : Message → Bool
    unlogged m = not (has (sequence_of m) (sequences_of (log_of (set_in pool starts))))

    count : length deltas ≡ length starts
    count = length-map starts (message_from pool)

    tests : (i : ℕ) → i < length deltas → not (has i places) ≡ unlogged (get_or deltas i [])
    tests i h = ap not
        (has_places (λ (j : ℕ). get_or deltas j []) i places
        (λ j k. one_place deltas l.holds.ascends i j h (omega (arith, count, (log_inside pool starts places l).inside j k)))
        ∙ ap (λ (x : List Message). has (sequence_of (get_or deltas i [])) (sequences_of x)) l.log)

pub others_inside : (pool starts places : List ℕ) → LogPlaces pool starts places → TablePlaces pool starts (others_below (length starts) places)
others_inside pool starts places l = record { holds = l.holds; inside = others_less (length starts) places }

pub others_count : (pool starts places : List ℕ) → LogPlaces pool starts places → length (others_below (length starts) places) ≡ length (held_of (set_in pool starts))
others_count pool starts places l =
    sym (length-map (others_below (length starts) places) (λ (i : ℕ). get_or (deltas_of pool starts) i [])) ∙ ap length (others_held pool starts places l)
