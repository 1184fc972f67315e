-- The message at a place of the offsets, where it starts at the offset that is looked for.
use Rattle.std.specs.Prelude.{◌≡◌, List, ℕ, ◌+◌, ◌≤◌, ◌<◌, length, take, drop, get_or}
use Rattle.std.proofs.Common.{refl, sym, subst, arith}
use Rattle.model.specs.Bytes.{field}
use Rattle.model.specs.Layout.{length_at, image_size}
use Rattle.read_search.specs.Finding.{Searchable, starting_at, IsMessage, Looking}
use Rattle.read_search.specs.FindingLaws.{looking_here}

module _ (b offsets : List ℕ) (k offset : ℕ) (s : Searchable b offsets) (l : Looking b offset k)
    (h : k < length offsets) (e : get_or offsets k 0 ≡ offset) where
  here : IsMessage b offset (field b (get_or offsets k 0 + length_at) 2)
  here = looking_here b offsets s offset l (omega (arith, s.log.count)) e refl

  pub here_inside : get_or offsets k 0 + field b (get_or offsets k 0 + length_at) 2 ≤ image_size
  here_inside = omega (arith, here.inside)

  pub here_bytes : take (field b (get_or offsets k 0 + length_at) 2) (drop (get_or offsets k 0) b) ≡ starting_at b offset
  here_bytes = subst (λ (x : ℕ). take (field b (get_or offsets k 0 + length_at) 2) (drop x b) ≡ starting_at b offset) (sym e) here.bytes
