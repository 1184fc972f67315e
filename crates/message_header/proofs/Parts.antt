-- Of bytes the two parts are the whole test.
use Rattle.std.specs.Prelude.{◌≡◌, ◌&&◌, ℕ, ◌<◌, slice_index}
use Rattle.buffer_reads.specs.FieldLaws.{all_bytes}
use Rattle.model.specs.Message.{Message, layout_right}
use Rattle.message_header.specs.Check.{counts_right, offsets_right}
use Rattle.message_header.specs.LayoutLaws.{layout_parts}

pub both_parts : (m : Message) → ((i : ℕ) → slice_index m i < 256) → layout_right m ≡ counts_right m && offsets_right m
both_parts m bytes = layout_parts m (all_bytes m bytes)
