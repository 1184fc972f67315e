-- Places that are shifted one after the other: the next one is still an old one; shifted, it is one more of those that are.
use Rattle.std.proofs.Common.{◌≡◌, refl, List, ◌++◌, map, ℕ, ◌+◌, ◌-◌, ◌<◌, length, take, drop, get_or, set, ◌∙◌, ap, arith, length-take-le, get_or-drop}
use Rattle.std.proofs.lemmas.List.{length-map, get_or-append_right, get_or_default}
use Rattle.std.proofs.lemmas.List.Edits.{map_over_more}
use Rattle.model.specs.Layout.{capacity}
use Rattle.set_table.specs.Places.{AllBelow}
use Rattle.set_table.specs.PlaceLaws.{below_at}
use Rattle.set_table.specs.Shifting.{shifted}

-- The places before i are shifted, those from it on are as they were.
pub record Shifting (p : ℕ) (old now : List ℕ) (i : ℕ) : Type 0 where
  pub items : now ≡ map (shifted p) (take i old) ++ drop i old
  pub below : AllBelow capacity old

pub shifted_none : (p : ℕ) (old : List ℕ) → AllBelow capacity old → Shifting p old old 0
shifted_none p old h = record { items = refl; below = h }

module _ (p i : ℕ) (old now : List ℕ) (s : Shifting p old now i) (h : i < length old) where
  pub next_below : get_or now i 0 < capacity
  next_below =
      let size : length (map (shifted p) (take i old)) ≡ i = length-map (take i old) (shifted p) ∙ length-take-le i old (omega arith) in
      let same : get_or now i 0 ≡ get_or old (i + (i - i)) 0 =
      ap (λ (k : List ℕ). get_or k i 0) s.items ∙ get_or-append_right (map (shifted p) (take i old)) (drop i old) i i 0 size (omega arith) ∙ get_or-drop i old (i - i) 0 in
      let there : i + (i - i) ≡ i = omega arith in
      omega (arith, same, ap (λ (k : ℕ). get_or old k 0) there, below_at capacity old s.below i h)

  pub next_shifted : (v : ℕ) → i < length now → v ≡ shifted p (get_or now i 0) → Shifting p old (set now i v) (i + 1)
  next_shifted v k e = record {
    items = ap (set now i) e ∙ map_over_more (shifted p) old now i (get_or now i 0) h s.items (get_or_default now i 0 (get_or now i 0) k);
    below = s.below;
  }

pub ruleset shifting = (shifted_none, next_below, next_shifted)
