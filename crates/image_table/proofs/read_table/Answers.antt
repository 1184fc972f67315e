-- Each offset is that of a message, which passes 3 to 6, and the bytes of its sequence lie in the image.
use Rattle.std.proofs.Common.{arith, sym, ◌∙◌, ap, subst, Err, ◌≡◌, List, [], ℕ, ◌+◌, ◌<◌, length, take, get_or}
use Rattle.std.proofs.lemmas.Result.{err_from_is_err_and}
use Rattle.model.specs.Layout.{sequence_at, sequence_size}
use Rattle.model.specs.Bytes.{field}
use Rattle.model.specs.Image.{messages_in}
use Rattle.message_sequence.specs.declared.Sequence.{Sequence}
use Rattle.message_sequence.specs.Sequence.{sequence_number}
use Rattle.set_table.specs.Table.{message_from}
use Rattle.set_table.specs.TableLaws.{Lies}
use Rattle.image_walk.specs.Walk.{count_in, Walkable, Offsets}
use Rattle.image_walk.proofs.WalkLaws.{walked_message, walked_passes, walked_lies}
use Rattle.image_table.specs.TableReading.{IsMessage}
use Rattle.image_table.specs.ReadingLaws.{Gathered, gathered_all, gathered_set, gathered_unfit, gathered_next, wrong_reads}
use Rattle.image_table.proofs.read_table.Goals as goal

module _ (b offsets : List ℕ) (w : Walkable b) (o : Offsets b (count_in b) offsets) (k : ℕ) (more : k < length offsets) where
  inside : k < count_in b
  inside = omega (arith, o.count)

  lies : Lies b (get_or offsets k 0)
  lies = walked_lies b (count_in b) offsets w.pass o k inside (omega arith)

  here : message_from b (get_or offsets k 0) ≡ get_or (messages_in b) k []
  here = walked_message b (count_in b) offsets w.pass o k inside (omega arith)

  is_message : (s : Sequence) → sequence_number s ≡ field b (get_or offsets k 0 + sequence_at) sequence_size → IsMessage b (get_or offsets k 0) s
  is_message s e = record {
    pass = walked_passes b (count_in b) offsets w.pass o k inside (omega arith);
    sequence = e ∙ sym (lies.fields sequence_at sequence_size (omega (arith, lies)));
  }

pub read_sequence-s-requires : goal.read_sequence-s-requires
read_sequence-s-requires c = omega (arith, lies c.args.b.now c.args.offsets.now c.requires.1 c.requires.2 c.loop-count.count c.loop-count-test.true)

pub take_in-requires : goal.take_in-requires
take_in-requires c =
    let l = c.loop-count in (
      l.invariant.room,
      omega (arith, c.requires.1.fits, c.requires.2.count),
      l.invariant.gathered.holds,
      is_message c.args.b.now c.args.offsets.now c.requires.1 c.requires.2 l.count c.loop-count-test.true c.read_sequence-s.result c.read_sequence-s.ensures,
    )

pub returns-in_err-take_in : goal.returns-in_err-take_in
returns-in_err-take_in c =
    let b = c.args.b.now in
    let l = c.loop-count in
    let at = get_or c.args.offsets.now l.count 0 in
    let p = err_from_is_err_and c.from_residual.result c.from_residual.ensures.1 in
    wrong_reads b c.from_residual.result (p.1 ∙ ap Err (p.2 ∙ c.in_err-take_in.ensures.0))
    (gathered_unfit b l.count (take l.count l.starts) l.invariant.gathered (omega (arith, c.requires.2.count)) at (here b c.args.offsets.now c.requires.1 c.requires.2 l.count c.loop-count-test.true) c.in_err-take_in.ensures.1)

pub loop-count-preserved : goal.loop-count-preserved
loop-count-preserved c =
    let b = c.args.b.now in
    let l = c.loop-count in
    let at = get_or c.args.offsets.now l.count 0 in
    let next = take (l.count + 1) c.take_in.new.starts in
    let taken = c.in_ok-take_in.ensures in
    record {
      room = c.take_in.auto.starts ∙ l.invariant.room;
      gathered = gathered_next b l.count (take l.count l.starts) l.invariant.gathered (omega (arith, c.requires.2.count)) at (here b c.args.offsets.now c.requires.1 c.requires.2 l.count c.loop-count-test.true) next taken.new taken.deltas taken.holds;
    }

pub returns : goal.returns
returns c =
    let b = c.args.b.now in
    let l = c.loop-count in
    let count = length c.args.offsets.now in
    let all : l.count ≡ count = omega arith in
    let g = subst (λ (n : ℕ). Gathered b n (take n l.starts)) all l.invariant.gathered in
    record {
      holds = g.holds;
      messages = gathered_all b count (take count l.starts) g (omega (arith, c.requires.2.count));
      set = gathered_set b count (take count l.starts) g (omega (arith, c.requires.2.count));
      count = c.requires.2.count;
      fits = omega (arith, c.requires.2.count, c.requires.1.fits);
    }
