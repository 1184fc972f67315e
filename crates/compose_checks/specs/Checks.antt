-- The definitions' tests of compose's arguments, as the code takes them.
use Rattle.std.specs.Prelude.{Bool, not, ◌&&◌, ◌||◌, ℕ, eqb, ltb, leb}
use Rattle.model.specs.Layout.{image_size, message_room, line_size, field_limit}

-- of code 1: the sizes of the image, of the message buffer and of the line
abbrev pub sizes_right : ℕ → ℕ → ℕ → Bool
sizes_right image room line = eqb image image_size && not (ltb room message_room) && eqb line line_size

-- of `compose_content`: flag and priority
unfoldable pub given_right : ℕ → ℕ → Bool
given_right flag priority = leb flag 1 && leb priority field_limit && (eqb flag 1 || eqb priority 0)
