-- The characters of one sequence more, and the comma behind them; then those of the last.
use Rattle.std.proofs.Common.{arith, ap, ap₂, ◌∙◌, List, ℕ, ◌+◌, ◌*◌, ◌/◌, ◌-◌, ◌≤◌, ◌≡◌, length, set, take, drop}
use Rattle.std.proofs.Math.Seq.{paste}
use Rattle.model.specs.Layout.{sequence_size, characters_size, text_part_size, text_room}
use Rattle.model.specs.Text.{comma, characters_of, text_of}
use Rattle.laws_text.specs.TextLaws.{Sequences, sized_out, text_length}
use Rattle.text_writing.specs.PutLaws.{characters_more, comma_more, size_is, all_put}
use Rattle.text_writing.proofs.parts.put_text.Goals as goal

fits : (d b : List ℕ) → Sequences b (length b / sequence_size) → text_room ≤ length d → length (text_of b) ≤ length d
fits d b s h = omega (arith, text_length b s, s.most)

pub overflow_sub-last : goal.overflow_sub-last
overflow_sub-last c = omega (arith, c.count_sequences-last.ensures, (sized_out c.args.sequences.now c.requires.formed).least)

pub overflow_mul-k : goal.overflow_mul-k
overflow_mul-k c = omega (arith, c.count_sequences-last.ensures, (sized_out c.args.sequences.now c.requires.formed).most)

pub put_characters-requires : goal.put_characters-requires
put_characters-requires c =
    let s = sized_out c.args.sequences.now c.requires.formed in
    record { inside = omega (arith, c.count_sequences-last.ensures, s.whole); room = omega (arith, c.count_sequences-last.ensures, s.most, c.requires.room) }

pub bounds-text-k : goal.bounds-text-k
bounds-text-k c = omega (arith, c.count_sequences-last.ensures, (sized_out c.args.sequences.now c.requires.formed).most, c.requires.room)

pub loop-k-preserved : goal.loop-k-preserved
loop-k-preserved c =
    let d = c.args.text.now in
    let b = c.args.sequences.now in
    let s = sized_out b c.requires.formed in
    let room = fits d b s c.requires.room in
    let k = c.loop-k.k in
    let put = c.put_characters.ensures
    ∙ ap (λ (x : List ℕ). paste x (text_part_size * k) (characters_of (take sequence_size (drop (sequence_size * k) b))) characters_size) c.loop-k.invariant
    ∙ characters_more d b s room k (omega (arith, c.count_sequences-last.ensures)) in
    ap (λ (x : List ℕ). set x (text_part_size * k + characters_size) comma) put ∙ comma_more d b s room k (omega (arith, c.count_sequences-last.ensures))

pub overflow_mul-last : goal.overflow_mul-last
overflow_mul-last c = omega (arith, c.count_sequences-last.ensures, (sized_out c.args.sequences.now c.requires.formed).most)

pub put_characters-requires-2 : goal.put_characters-requires-2
put_characters-requires-2 c =
    let s = sized_out c.args.sequences.now c.requires.formed in
    record { inside = omega (arith, c.count_sequences-last.ensures, s.whole, s.least); room = omega (arith, c.count_sequences-last.ensures, s.most, c.requires.room) }

pub returns : goal.returns
returns c =
    let d = c.args.text.now in
    let b = c.args.sequences.now in
    let s = sized_out b c.requires.formed in
    let room = fits d b s c.requires.room in
    let n : ℕ = length b / sequence_size - 1 in
    let all : c.loop-k.k ≡ n = omega (arith, c.count_sequences-last.ensures) in
    let last : c.count_sequences-last.result - 1 ≡ n = omega (arith, c.count_sequences-last.ensures) in
    record {
      sized = ap (λ (m : ℕ). text_part_size * m + characters_size) last ∙ size_is d b s room;
      put = c.put_characters-2.ensures
          ∙ ap₂ (λ (x : List ℕ) (m : ℕ). paste x (text_part_size * m) (characters_of (take sequence_size (drop (sequence_size * m) b))) characters_size)
          (c.loop-k.invariant ∙ ap (λ (m : ℕ). paste d 0 (text_of b) (text_part_size * m)) all) last
          ∙ characters_more d b s room n (omega (arith, s.least)) ∙ all_put d b s room;
    }
