-- What a pool has from its base values to its messages are the base values and floors of its origin.
use Rattle.std.specs.Prelude.{◌≡◌, ℕ, ◌+◌, ◌*◌, ◌-◌, ◌≤◌, length, drop, T}
use Rattle.std.proofs.Math.Path.{sym, ap, ap₂}
use Rattle.std.proofs.Common.{◌∙◌, length-drop, drop-drop, length-take-le}
use mathlib.Core.List.{List, ◌++◌}
use native.Mathlib.Omega.{arith}
use Rattle.std.proofs.Math.ListN.{take}
use Rattle.std.proofs.Math.Seq.{paste, take-add}
use Rattle.model.specs.Bytes.{is_bytes}
use Rattle.model.specs.Layout.{sequence_size, values_size, base_start}
use Rattle.model.specs.Image.{floor_count, messages_start_in, origin_in}
use Rattle.laws_origin.specs.SectionLaws.{base_bytes, floors_bytes}
use Rattle.image_header.specs.Pieces.{pasted}
use Rattle.image_sections.specs.Sections.{origin_bytes}

module _ (pool : List ℕ) (are : T (is_bytes pool)) (room : messages_start_in pool ≤ length pool) where
  size_is : messages_start_in pool - base_start ≡ values_size + sequence_size * floor_count pool
  unfolding messages_start_in
  size_is = omega arith

  origin_is : take (messages_start_in pool - base_start) (drop base_start pool) ≡ origin_bytes (origin_in pool)
  unfolding origin_in
  origin_is =
      ap (λ (n : ℕ). take n (drop base_start pool)) size_is ∙ take-add values_size (sequence_size * floor_count pool) (drop base_start pool)
      ∙ ap₂ ◌++◌ (sym (base_bytes pool are room))
      (ap (take (sequence_size * floor_count pool)) (drop-drop values_size base_start pool) ∙ sym (floors_bytes pool are room))

  pub origin_pasted : (d : List ℕ) → paste d base_start (take (messages_start_in pool - base_start) (drop base_start pool)) (messages_start_in pool - base_start) ≡ pasted d base_start (origin_bytes (origin_in pool))
  origin_pasted d =
      ap₂ (λ (b : List ℕ) (n : ℕ). paste d base_start b n) origin_is
      (sym (length-take-le (messages_start_in pool - base_start) (drop base_start pool) (omega (arith, length-drop base_start pool))) ∙ ap length origin_is)
