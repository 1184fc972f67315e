-- The reader moves on past the part that it gave, which ends inside 64 bits.
use Rattle.std.specs.Prelude.{◌≡◌, refl, List, ℕ, zero, suc, ◌+◌, ◌^◌, ◌≤◌, ◌<◌, length, T, eqb}
use Rattle.std.proofs.Common.{sym, ap, ⊎_elim, arith, eqb→eq}
use Rattle.model.specs.Layout.{image_size}
use Rattle.model.specs.Message.{Message}
use Rattle.model.specs.Image.{messages_start_in, log_count, log_in, is_image}
use Rattle.model.specs.Codes.{lowest_code, read_conditions}
use Rattle.model.specs.Calls as model
use Rattle.model.specs.Calls.{next_message}
use Rattle.laws_state.specs.OffsetLaws.{Placed, message_placed, log_count_lem, log_offset_lem}
use Rattle.laws_codes.specs.Ladder.{Answers, all_free, not_not}
use Rattle.read_calls.specs.PartLaws.{part_lies, part_size}
use Rattle.read_log.specs.declared.reader.LogReader.{LogReader}
use Rattle.read_log.specs.Reader.{first_offset, Starts, read_of, Reads}

-- what comes next for a reader, by the definition
abbrev pub next_of : List ℕ → ℕ → Message
next_of b offset = next_message (lowest_code (read_conditions b)) b offset

-- 1 or 2, and else what was looked for
pub next_told : (b : List ℕ) (offset : ℕ) {n : ℕ} → Answers (read_conditions b) n → next_message n b offset ≡ next_message (lowest_code (read_conditions b)) b offset
next_told b offset r = ap (λ (n : ℕ). next_message n b offset) (sym r.is)

pub starts_at : (r : LogReader) → r.offset ≡ first_offset r.image.now → Starts r.image.now r
unfolding model.start
starts_at r e = ap (λ (n : ℕ). record { image = r.image.now; offset = n }) e

pub reads_on : (r : LogReader) (part : List ℕ) → part ≡ next_of r.image.now r.offset → Reads r part (record { image = r.image; offset = r.offset + length part })
unfolding model.next
reads_on r part e = ap (λ (m : Message). read_of m (record { image = r.image.now; offset = r.offset + length m })) e

-- 0 is answered for an image only
pub code_image : (b : List ℕ) → lowest_code (read_conditions b) ≡ 0 → (length b ≡ image_size) × T (is_image b)
code_image b e =
    let r = all_free (read_conditions b) (omega arith) e in
    (eqb→eq (length b) image_size (not_not (eqb (length b) image_size) r.0), not_not (is_image b) r.1.0)

pub next_fits : (b : List ℕ) (offset : ℕ) → offset < 2 ^ 64 → offset + length (next_of b offset) < 2 ^ 64
next_fits b offset h = go (lowest_code (read_conditions b)) refl
  where
    -- it ends inside the image
    ends : T (is_image b) → length b ≡ image_size → Placed (messages_start_in b) (log_in b) offset → offset + length (next_message 0 b offset) ≤ image_size
    ends i e p =
        let more : p.place < log_count b = omega (arith, p.inside, log_count_lem b) in
        omega (arith, e, p.here, log_offset_lem b p.place (omega (arith, more)), ap length p.message, part_size b i p.place more, (part_lies b i p.place more).inside)

    go : (n : ℕ) → lowest_code (read_conditions b) ≡ n → offset + length (next_message n b offset) < 2 ^ 64
    go (suc n) e = omega (arith, h)
    go zero e =
        let r = code_image b e in
        ⊎_elim (λ z. omega (arith, h, ap length z)) (λ p. omega (arith, ends r.1 r.0 p)) (message_placed (messages_start_in b) (log_in b) offset)
