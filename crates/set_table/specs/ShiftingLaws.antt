-- The message at a place is found at the shifted one, shifted places are places of a table of one more, and a list is mapped one store a turn.
use Rattle.std.specs.Prelude.{◌≡◌, Bool, true, false, cond, not, List, [], ◌∷◌, ◌++◌, map, ℕ, suc, ◌+◌, ◌≤◌, ◌<◌, length, take, get_or, set, T, leb}
use Rattle.std.proofs.Common.{sym, ◌∙◌, ap, ap₂, subst, arith, add-one, take-suc, take-suc-set, leb→le}
use mathlib.Core.List.Memᴰ
use Rattle.std.proofs.lemmas.List.{map-append}
use Rattle.std.proofs.Math.Dec.{nleb→lt}
use Rattle.model.specs.Message.{Message}
use Rattle.set_table.specs.Table.{message_from, deltas_of, insert_at}
use Rattle.set_table.specs.TableLaws.{deltas_length}
use Rattle.set_table.specs.Places.{AllBelow}
use Rattle.set_table.specs.InsertLaws.{insert_lower, insert_higher, insert_map}
use Rattle.set_table.specs.Shifting.{shifted}

-- ---- an item is found at its shifted place
insert_shifted : {A : Type 0} (p : ℕ) (a : A) (l : List A) (i : ℕ) (d : A) → p ≤ length l → get_or (insert_at p a l) (shifted p i) d ≡ get_or l i d
insert_shifted p a l i d h = go (leb p i) (leb→le p i) (nleb→lt p i)
  where
    go : (b : Bool) → (T b → p ≤ i) → (T (not b) → i < p) → get_or (insert_at p a l) (cond b (suc i) i) d ≡ get_or l i d
    go true f g = insert_higher p a l i d h (f tt)
    go false f g = insert_lower p a l i d h (g tt)

pub delta_shifted : (pool starts : List ℕ) (p at i : ℕ) → p ≤ length starts
    → get_or (deltas_of pool (insert_at p at starts)) (shifted p i) [] ≡ get_or (deltas_of pool starts) i []
delta_shifted pool starts p at i h =
    ap (λ (l : List Message). get_or l (shifted p i) []) (insert_map (message_from pool) p at starts)
    ∙ insert_shifted p (message_from pool at) (deltas_of pool starts) i [] (omega (arith, deltas_length pool starts))

-- ---- shifted places are places of a table of one more
shifted_below : (p n i : ℕ) → i < n → shifted p i < suc n
shifted_below p n i h = go (leb p i)
  where
    go : (b : Bool) → cond b (suc i) i < suc n
    go true = omega arith
    go false = omega arith

pub below_shifted : (p n : ℕ) (places : List ℕ) → AllBelow n places → AllBelow (suc n) (map (shifted p) places)
below_shifted p n places h i k =
    let r = Memᴰ.of_map (shifted p) places k in
    subst (λ (j : ℕ). j < suc n) r.2 (shifted_below p n r.0 (h r.0 r.1))

-- ---- one more item of a list that is mapped into another, one store a turn
pub map_next : (f : ℕ → ℕ) (l k : List ℕ) (i v : ℕ) → i < length l → i < length k → take i k ≡ map f (take i l) → v ≡ f (get_or l i 0)
    → take (i + 1) (set k i v) ≡ map f (take (i + 1) l)
map_next f l k i v h j e w =
    ap (λ (n : ℕ). take n (set k i v)) (add-one i) ∙ take-suc-set k i v j ∙ ap₂ (λ (x : List ℕ) (y : ℕ). x ++ (y ∷ [])) e w
    ∙ sym (map-append f (take i l) (get_or l i 0 ∷ []))
    ∙ ap (map f) (sym (take-suc l i 0 h) ∙ ap (λ (n : ℕ). take n l) (sym (add-one i)))
