-- The part of an image that holds the log's message at a place, as offset and size beside the code; both are 0 beside a refusal.
use Rattle.std.specs.Prelude.{List, [], ℕ, zero, suc, length, get_or}
use Rattle.model.specs.Image.{log_in, message_offset}
use Rattle.model.specs.Calls.{log_message_code}

pub record Part : Type 0 where
  pub code : ℕ
  pub offset : ℕ
  pub size : ℕ

abbrev pub part_answer : ℕ → List ℕ → ℕ → Part
part_answer zero b place = record { code = 0; offset = message_offset b place; size = length (get_or (log_in b) place []) }
part_answer (suc n) b place = record { code = suc n; offset = 0; size = 0 }

unfoldable pub log_part : List ℕ → ℕ → Part
log_part b place = part_answer (log_message_code b place) b place
