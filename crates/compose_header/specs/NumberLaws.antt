-- The numbers written one behind the other are pasted as one piece.
use Rattle.std.specs.Prelude.{◌≡◌, List, [], ◌∷◌, ◌++◌, ℕ, ◌+◌, ◌≤◌, ◌<◌, length, set, take, drop}
use Rattle.std.proofs.Common.{sym, ◌∙◌, ap, arith, add-one}
use Rattle.std.proofs.Math.Seq.{paste, append_snoc}
use Rattle.std.proofs.lemmas.List.{set_split}
use Rattle.model.specs.Bytes.{bytes}
use Rattle.model.specs.Layout.{kind_at, priority_flag_at, dependency_count_at, command_count_at, length_at, dependencies_offset_at, commands_offset_at, first_zeros_at, group_at, block_at, priority_at, last_zeros_at, header_size}
use Rattle.model.specs.Message.{commands_start, total_length}
use Rattle.image_header.specs.Pieces.{pasted}
use Rattle.image_header.specs.PieceLaws.{order_pasted}
use Rattle.compose_header.specs.Numbers.{counts_bytes, offsets_bytes, order_bytes}

pub byte_pasted : (d : List ℕ) (at v : ℕ) → at < length d → set d at v ≡ pasted d at (v ∷ [])
byte_pasted d at v h = set_split d at v h ∙ ap (λ (n : ℕ). take at d ++ v ∷ drop n d) (sym (add-one at)) ∙ sym (append_snoc (take at d) v (drop (at + 1) d))

module _ (d : List ℕ) (room : header_size ≤ length d) where
  pub counts_pasted : (flag D C : ℕ)
      → pasted (pasted (pasted (pasted d kind_at (1 ∷ [])) priority_flag_at (flag ∷ [])) dependency_count_at (D ∷ [])) command_count_at (C ∷ []) ≡ pasted d kind_at (counts_bytes flag D C)
  counts_pasted flag D C = order_pasted d kind_at ((1 ∷ []) ∷ (flag ∷ []) ∷ (D ∷ []) ∷ (C ∷ []) ∷ []) (omega arith)

  pub offsets_pasted : (D C : ℕ)
      → paste (paste (paste (paste d length_at (bytes 2 (total_length D C)) 2) dependencies_offset_at (bytes 2 header_size) 2) commands_offset_at (bytes 2 (commands_start D)) 2) first_zeros_at (bytes 2 0) 2
      ≡ pasted d length_at (offsets_bytes D C)
  offsets_pasted D C = order_pasted d length_at (bytes 2 (total_length D C) ∷ bytes 2 header_size ∷ bytes 2 (commands_start D) ∷ bytes 2 0 ∷ []) (omega arith)

  pub fields_pasted : (group block priority : ℕ)
      → paste (paste (paste (paste d group_at (bytes 4 group) 4) block_at (bytes 4 block) 4) priority_at (bytes 4 priority) 4) last_zeros_at (bytes 4 0) 4
      ≡ pasted d group_at (order_bytes group block priority)
  fields_pasted group block priority = order_pasted d group_at (bytes 4 group ∷ bytes 4 block ∷ bytes 4 priority ∷ bytes 4 0 ∷ []) room
