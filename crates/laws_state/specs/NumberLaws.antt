-- Numbers of one size, written end to end, are read back.
use Rattle.std.specs.Prelude.{◌≡◌, refl, List, [], ◌∷◌, map, ℕ, ◌^◌, ◌<◌, length}
use Rattle.std.proofs.Common.{sym, ◌∙◌, ap, ap₂}
use mathlib.Core.List.Memᴰ
use Rattle.model.specs.Lists.{◌∈◌}
use Rattle.model.specs.Bytes.{number, bytes}
use Rattle.laws_wire.specs.BytesLaws.{length_bytes, number_bytes}

pub all_sized : (size : ℕ) (l : List ℕ) (b : List ℕ) → b ∈ map (bytes size) l → length b ≡ size
all_sized size l b k = let r = Memᴰ.of_map (bytes size) l k in ap length (sym r.2) ∙ length_bytes size r.0

pub numbers_back : (size : ℕ) (l : List ℕ) → ((n : ℕ) → n ∈ l → n < 256 ^ size) → map number (map (bytes size) l) ≡ l
numbers_back size [] h = refl
numbers_back size (n ∷ l) h = ap₂ ◌∷◌ (number_bytes size n (h n (Memᴰ.head refl))) (numbers_back size l (λ k j. h k (Memᴰ.tail j)))
