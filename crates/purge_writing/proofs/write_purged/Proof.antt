-- The sections are written one by one, and zeros behind them.
use mathlib.Core.Path.{◌≡◌, ap}
use Prim.Native.Nat.{ℕ, ◌+◌, ◌*◌, ◌-◌, ◌≤◌}
use native.Mathlib.Omega.{arith}
use lib.ListN.{length, take, drop}
use lib.Dec.{T}
use borrow.Author.Rules.{rules}
use Rattle.model.specs.Bytes.{is_bytes}
use Rattle.model.specs.Layout.{sequence_size, image_size, floors_start}
use Rattle.model.specs.Image.{log_count, used_count}
use Rattle.buffer_reads.specs.FieldLaws.{all_bytes}
use Rattle.purge_writing.specs.WritingLaws.{size, pool_size, logged, from_used, used_inside, messages_fit, messages_long, purged_image}
use Rattle.purge_writing.proofs.write_purged.Statement.{statement}
use Rattle.purge_writing.proofs.write_purged.Tie as tie

-- earlier states: the call as it began, the numbers read, the messages moved, the header written
abbrev begun : tie.After-get_u16-logged → tie.Start
begun g = g.before.before.before.before

abbrev counted : tie.After-get_u16-used → tie.After-get_u16-logged
counted g = g.before.before

abbrev read : tie.After-move_part-end → tie.After-get_u16-used
read m = m.before.before

abbrev moved : tie.After-put_image_header → tie.After-move_part-end
moved h = h.before.before.before.before

abbrev headed : tie.After-put_start → tie.After-put_image_header
headed p = p.before.before.before.before.before

abbrev began : tie.After-move_part-end → tie.Start
began m = begun (counted (read m))

tops_bytes : (g : tie.After-get_u16-logged) → T (is_bytes (begun g).args.tops.now)
tops_bytes g = all_bytes (begun g).args.tops.now (λ i. omega (arith, g.shared_slice_known-2-1.given i))

module _ (s : tie.Start) where
  image_size_lem : length s.args.image.now ≡ image_size
  image_size_lem = let a = s.args in size a.image.now a.pool.now a.tops.now a.floors a.k a.rest s.requires

  whole_pool : length s.args.pool.now ≡ image_size
  whole_pool = let a = s.args in pool_size a.image.now a.pool.now a.tops.now a.floors a.k a.rest s.requires

  few : s.args.k ≤ log_count s.args.pool.now
  few = let a = s.args in omega (arith, s.requires.inside, logged a.image.now a.pool.now a.tops.now a.floors a.k a.rest s.requires)

  from_inside : s.args.rest.from ≤ used_count s.args.pool.now
  from_inside = let a = s.args in from_used a.image.now a.pool.now a.tops.now a.floors a.k a.rest s.requires

  to_inside : used_count s.args.pool.now ≤ length s.args.pool.now
  to_inside = let a = s.args in used_inside a.image.now a.pool.now a.tops.now a.floors a.k a.rest s.requires

  room : let a = s.args in floors_start + sequence_size * a.floors + (used_count a.pool.now - a.rest.from) ≤ image_size
  room = let a = s.args in messages_fit a.image.now a.pool.now a.tops.now a.floors a.k a.rest s.requires

-- the messages end inside the image
end_inside : (m : tie.After-move_part-end) → m.move_part-end.result ≤ image_size
end_inside m =
    let s = began m in
    let a = s.args in
    omega (
      arith,
      m.move_part-end.ensures.end,
      ap (λ (n : ℕ). length (take (n - a.rest.from) (drop a.rest.from a.pool.now))) (read m).get_u16-used.ensures.0,
      messages_long a.image.now a.pool.now a.tops.now a.floors a.k a.rest s.requires,
      room s,
      from_inside s,
      to_inside s,
      whole_pool s,
    )

get-u16-requires : tie.Need-get_u16-logged-requires
get-u16-requires c κs = omega (arith, whole_pool c.before.before.before)

cast-log : tie.Need-overflow_cast-log
cast-log c = omega (arith, few (begun c), c.get_u16-logged.ensures)

sub-log : tie.Need-overflow_sub-log
sub-log c = omega (arith, few (begun c), c.get_u16-logged.ensures)

get-u16-requires-2 : tie.Need-get_u16-held-requires
get-u16-requires-2 c κs = omega (arith, whole_pool (begun c))

get-u16-requires-3 : tie.Need-get_u16-used-requires
get-u16-requires-3 c κs = omega (arith, whole_pool (begun c.before))

move-part-requires : tie.Need-move_part-end-requires
move-part-requires c κs =
    let s = begun (counted c.before) in
    let to = c.get_u16-used.ensures.0 in
    (omega (arith, from_inside s, to), omega (arith, to_inside s, to), omega (arith, room s, from_inside s, to_inside s, whole_pool s, image_size_lem s, to))

cast-put-image-header-2 : tie.Need-overflow_cast-end
cast-put-image-header-2 c = omega (arith, end_inside c.before.before.before)

put-image-header-requires : tie.Need-put_image_header-requires
put-image-header-requires c κs = omega (arith, c.move_part-end.auto.image, image_size_lem (began c.before.before.before))

put-start-requires : tie.Need-put_start-requires
put-start-requires c κs =
    let m = moved c.before.before.before.before in
    let s = began m in
    (omega (arith, c.put_image_header.auto.out, m.move_part-end.auto.image, image_size_lem s, room s), s.requires.room)

clear-from-requires : tie.Need-clear_from-requires
clear-from-requires c κs =
    let h = headed c.before.before.before in
    let m = moved h in
    let s = began m in
    omega (arith, c.put_start.auto.image, h.put_image_header.auto.out, m.move_part-end.auto.image, image_size_lem s, end_inside m, (read m).get_u16-used.ensures.0, to_inside s, whole_pool s)

returns : tie.Need-returns
returns c =
    let h = headed c.before.before.before.before.before.before in
    let m = moved h in
    let g = read m in
    let s = began m in
    let a = s.args in
    purged_image a.image.now a.pool.now a.tops.now a.floors a.k a.rest s.requires (tops_bytes (counted g))
    (counted g).get_u16-logged.ensures.0 g.get_u16-held.ensures.0 g.get_u16-used.ensures.0
    m.move_part-end.ensures h.put_image_header.ensures c.put_start.ensures c.clear_from.ensures

pub write_purged_spec : {M : Type 1} → statement M
write_purged_spec =
    tie.close
    (tie.spec
    get-u16-requires
    cast-log
    sub-log
    get-u16-requires-2
    get-u16-requires-3
    (λ c. search rules)
    (λ c. search rules)
    (λ c. search rules)
    move-part-requires
    (λ c. search rules)
    cast-put-image-header-2
    (λ c. search rules)
    put-image-header-requires
    put-start-requires
    clear-from-requires
    (λ c. search rules)
    returns)
