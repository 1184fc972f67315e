-- Examples of reach: what is in a ring, what needs a ring and what needs something missing is not grounded; what needs nothing is.
use mathlib.Core.Path.{◌≡◌, refl}
use mathlib.Core.List.Memᴰ
use mathlib.Core.List.{List, [], ◌∷◌}
use Prim.Native.Nat.{ℕ}
use native.Mathlib.Omega.{arith}
use Rattle.model.specs.Listing.{Reaches, needed, through, Grounded}

-- five items, each its own name
data Item : Type 0 where
  first second user waiting lone : Item

abbrev name : Item → ℕ
name first = 1
name second = 2
name user = 3
name waiting = 4
name lone = 5

-- the first two name each other, the third names the first of them, the fourth one that is not received, the fifth none
abbrev needs : Item → List ℕ
needs first = 2 ∷ []
needs second = 1 ∷ []
needs user = 1 ∷ []
needs waiting = 6 ∷ []
needs lone = []

abbrev received : List Item
received = first ∷ second ∷ user ∷ waiting ∷ lone ∷ []

around : Reaches name needs received first 1
around = through {b = second} (Memᴰ.tail (Memᴰ.head refl)) (Memᴰ.head refl) (needed (Memᴰ.head refl))

ring : Grounded name needs received first → ⊥
ring g = g.no_ring around

behind_a_ring : Grounded name needs received user → ⊥
behind_a_ring g = g.no_ring_behind first (Memᴰ.head refl) (needed (Memᴰ.head refl)) around

-- no received item has the name 6
none_missing : (b : Item) → name b ≡ 6 → ⊥
none_missing first e = omega arith
none_missing second e = omega arith
none_missing user e = omega arith
none_missing waiting e = omega arith
none_missing lone e = omega arith

missing : Grounded name needs received waiting → ⊥
missing g = let r = g.received 6 (needed (Memᴰ.head refl)) in none_missing r.0 r.2

nothing : (s : ℕ) → Reaches name needs received lone s → ⊥
nothing s (needed k) = Memᴰ.not-nil k
nothing s (through m k r) = Memᴰ.not-nil k

alone : Grounded name needs received lone
alone = record { received = λ s r. absurd (nothing s r); no_ring = λ r. nothing 5 r; no_ring_behind = λ b m r q. nothing (name b) r }
