-- One sequence more is read behind those before it.
use Rattle.std.proofs.Common.{arith, sym, ap, ap₂, ◌∙◌, List, ℕ, suc, ◌+◌, ◌*◌, ◌/◌, ◌≤◌, ◌<◌, ◌≡◌, length, take, drop}
use Rattle.std.proofs.Math.Seq.{paste}
use Rattle.model.specs.Layout.{sequence_size, characters_size, text_part_size}
use Rattle.model.specs.Text.{bytes_in, sequence_bytes_in}
use Rattle.buffer_writes.specs.PasteLaws.{paste_more}
use Rattle.laws_text.specs.TextLaws.{Text, text_out, read_length}
use Rattle.laws_text.specs.PlaceLaws.{digits_at, bytes_at}
use Rattle.text_reading.proofs.parts.read_text.Goals as goal

-- one sequence more
one_more : (d t : List ℕ) → Text t (suc (length t) / text_part_size) → (k : ℕ) → k < suc (length t) / text_part_size → sequence_size * k ≤ length d
    → paste (paste d 0 (sequence_bytes_in t) (sequence_size * k)) (sequence_size * k) (bytes_in (take characters_size (drop (text_part_size * k) t))) sequence_size
    ≡ paste d 0 (sequence_bytes_in t) (sequence_size * (k + 1))
one_more d t x k h r =
    ap₂ (λ (at : ℕ) (l : List ℕ). paste (paste d 0 (sequence_bytes_in t) (sequence_size * k)) at l sequence_size) {x = sequence_size * k} {y = 0 + sequence_size * k} (omega arith) (sym (bytes_at t x k h))
    ∙ paste_more d 0 (sequence_bytes_in t) (sequence_size * k) sequence_size (omega arith) (omega (arith, read_length t x))
    ∙ ap (paste d 0 (sequence_bytes_in t)) {x = sequence_size * k + sequence_size} {y = sequence_size * (k + 1)} (omega arith)

pub read_part-requires : goal.read_part-requires
read_part-requires c =
    let t = c.args.text.now in
    let x = text_out t c.requires.formed in
    record {
      table_right = c.digits-table.ensures;
      inside = omega (arith, x.whole);
      digits = digits_at t x c.loop-k.k (omega arith);
      room = omega (arith, x.most);
    }

pub loop-k-preserved : goal.loop-k-preserved
loop-k-preserved c =
    let d = c.args.bytes.now in
    let t = c.args.text.now in
    let k = c.loop-k.k in
    let x = text_out t c.requires.formed in
    c.read_part.ensures
    ∙ ap (λ (b : List ℕ). paste b (sequence_size * k) (bytes_in (take characters_size (drop (text_part_size * k) t))) sequence_size) c.loop-k.invariant
    ∙ one_more d t x k (omega arith) (omega (arith, x.most))

pub returns : goal.returns
returns c =
    let t = c.args.text.now in
    let x = text_out t c.requires.formed in
    let all : c.loop-k.k ≡ (length t + 1) / text_part_size = omega arith in
    record {
      sized = omega (arith, read_length t x);
      read = c.loop-k.invariant ∙ ap (λ (n : ℕ). paste c.args.bytes.now 0 (sequence_bytes_in t) (sequence_size * n)) all;
    }
