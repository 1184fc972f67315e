-- Block and priority: the part of `content_right` that the code takes by itself.
use Rattle.std.specs.Prelude.{Bool, ◌&&◌, leb}
use Rattle.model.specs.Layout.{field_limit}
use Rattle.model.specs.Message.{Message, has_priority, block_of, priority_of, block_right}

unfoldable pub priority_right : Message → Bool
priority_right m =
    leb (block_of m) field_limit && leb (priority_of m) field_limit && block_right (has_priority m) (block_of m) (priority_of m)
