-- A place's message is of the table: it has a header, and its group is small.
use Rattle.std.proofs.lemmas.Grind.{common_steps}
use Rattle.std.proofs.Common.{◌≡◌, ◌∙◌, ℕ, [], ap, arith, max, length, get_or}
use Rattle.model.specs.Message.{Message, group_of}
use Rattle.laws_order.specs.MaxLaws.{greatest_map}
use Rattle.set_table.specs.Table.{deltas_of}
use Rattle.set_table.specs.PlaceLaws.{entry_long}
use Rattle.image_sections.specs.LogPlaceLaws.{place_inside, place_passes}
use Rattle.log_highest.specs.GreatestLaws.{greatest_next, greatest_last}
use Rattle.log_highest.specs.BlockLaws.{group_small}
use Rattle.log_highest.proofs.group.highest_group.Goals as goal

pub message_at-m-requires : goal.message_at-m-requires
message_at-m-requires c = (c.requires.holds, place_inside _ _ _ c.requires _ c.loop-place-test.true)

pub get_u32-requires : goal.get_u32-requires
get_u32-requires c = omega (
  arith,
  ap length c.message_at-m.ensures,
  entry_long c.args.pool.now c.args.starts.now c.requires.holds _ (place_inside _ _ _ c.requires _ c.loop-place-test.true),
)

pub loop-place-preserved : goal.loop-place-preserved
loop-place-preserved c =
    let l = c.loop-place in
    let deltas = deltas_of c.args.pool.now c.args.starts.now in
    let m : Message = get_or deltas (get_or c.args.places.now l.place-index 0) [] in
    let here : c.get_u32.result ≡ group_of m = c.get_u32.ensures ∙ ap group_of c.message_at-m.ensures in
    let small = group_small m (place_passes c.args.pool.now c.args.starts.now c.args.places.now c.requires l.place-index c.loop-place-test.true) in
    let new : c.max-highest.result ≡ max l.highest c.get_u32.result = grind (arith, common_steps) in
    record {
      highest = greatest_next (λ (i : ℕ). group_of (get_or deltas i [])) c.args.places.now l.place-index l.highest l.invariant.highest 0 c.loop-place-test.true (omega (arith, here));
      small = omega (arith, here, small);
    }

pub returns : goal.returns
returns c =
    let l = c.loop-place in
    let deltas = deltas_of c.args.pool.now c.args.starts.now in (
      greatest_last (λ (i : ℕ). group_of (get_or deltas i [])) c.args.places.now l.place-index l.highest l.invariant.highest c.loop-place-test.false
          ∙ greatest_map group_of (λ (i : ℕ). get_or deltas i []) c.args.places.now,
      l.invariant.small,
    )
