-- The log's message at a place of an image starts at the offset of the place, and is as long as it says.
use Rattle.std.specs.Prelude.{◌≡◌, List, [], ℕ, ◌+◌, ◌<◌, length, take, drop, get_or, T}
use Rattle.std.proofs.Common.{sym, ◌∙◌, ap, subst, arith}
use Rattle.model.specs.Bytes.{field}
use Rattle.model.specs.Layout.{length_at}
use Rattle.model.specs.Message.{Message, passes}
use Rattle.model.specs.Image.{log_count, log_in, messages_in, message_offset, is_image}
use Rattle.laws_state.specs.ImageSetLaws.{image_messages}
use Rattle.laws_state.specs.OffsetLaws.{count_messages, message_of, log_message_lem, message_passes, message_here}
use Rattle.set_table.specs.Table.{message_from}
use Rattle.set_table.specs.TableLaws.{Lies, passes_lies}

module _ (b : List ℕ) (image : T (is_image b)) (place : ℕ) (more : place < log_count b) where
  here : place < length (messages_in b)
  here = omega (arith, more, count_messages b)

  pub part_is : take (length (get_or (log_in b) place [])) (drop (message_offset b place) b) ≡ get_or (log_in b) place []
  part_is = subst (λ (m : Message). take (length m) (drop (message_offset b place) b) ≡ m) (sym (log_message_lem b place more)) (message_here b image place here)

  part_from : message_from b (message_offset b place) ≡ get_or (messages_in b) place []
  part_from = message_of b (image_messages b image).pass place (omega (arith, more))

  pub part_lies : Lies b (message_offset b place)
  part_lies = passes_lies b (message_offset b place) (subst (λ (m : Message). T (passes m)) (sym part_from) (message_passes b image place here))

  pub part_size : length (get_or (log_in b) place []) ≡ field b (message_offset b place + length_at) 2
  part_size = ap length (log_message_lem b place more ∙ sym part_from) ∙ part_lies.size
