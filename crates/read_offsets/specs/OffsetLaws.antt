-- A reader starts at the offset of place 0, and moves on from the offset of a place of the log to that of the next one.
use Rattle.std.specs.Prelude.{◌≡◌, List, ℕ, ◌+◌, ◌<◌}
use Rattle.std.proofs.Common.{sym, ◌∙◌, ap, arith, add-one}
use Rattle.model.specs.Image.{log_count, message_offset}
use Rattle.model.specs.Codes.{lowest_code, read_conditions}
use Rattle.model.specs.Calls as model
use Rattle.laws_state.specs.OffsetLaws.{log_offset_lem}
use Rattle.read_log.specs.Reader.{first_offset}
use Rattle.read_log.specs.ReaderLaws.{code_image}
use Rattle.read_log.specs.Readings.{log_offset}
use Rattle.read_log.proofs.Readings.{next_at, start_is}
use Rattle.read_offsets.specs.Offsets.{offset_after}

pub offset_start : (b : List ℕ) → lowest_code (read_conditions b) ≡ 0 → first_offset b ≡ message_offset b 0
offset_start b accepted = ap (λ (r : model.Reader). r.offset) (start_is b (code_image b accepted).0) ∙ log_offset_lem b 0 (omega arith)

pub offset_after_lem : (b : List ℕ) → lowest_code (read_conditions b) ≡ 0 → (k : ℕ) → k < log_count b → offset_after b (message_offset b k) ≡ message_offset b (k + 1)
offset_after_lem b accepted k h =
    ap (offset_after b) (sym (log_offset_lem b k (omega arith))) ∙ ap (λ (x : model.Read). x.reader.offset) (next_at b accepted k)
    ∙ ap (log_offset b) (sym (add-one k)) ∙ log_offset_lem b (k + 1) (omega arith)
