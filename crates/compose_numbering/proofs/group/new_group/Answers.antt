-- The last delta decides between the highest group, of the log and of what was purged, and one more.
use Rattle.std.proofs.Common.{ℕ, List, [], ◌≡◌, ◌<◌, ◌-◌, sym, ◌∙◌, suc, ap, ap₂, arith, add-one, max, length, get_or}
use Rattle.model.specs.Message.{Message, sequence_of}
use Rattle.model.specs.Image.{origin_in}
use Rattle.model.specs.Compose.{group_after}
use Rattle.laws_origin.specs.OriginLaws.{group_limit, group_in, header_room}
use Rattle.message_sequence.specs.Sequence.{sequence_number}
use Rattle.set_table.specs.Table.{deltas_of}
use Rattle.image_sections.specs.LogPlaceLaws.{log_inside, place_inside}
use Rattle.compose_numbering.specs.GroupLaws.{group_first, group_behind}
use Rattle.compose_numbering.proofs.group.new_group.Goals as goal

pub get_u32-purged-requires : goal.get_u32-purged-requires
get_u32-purged-requires c = omega (arith, header_room c.args.pool.now c.requires.holds.right)

pub overflow_add-result : goal.overflow_add-result
overflow_add-result c =
    omega (arith, c.get_u32-purged.ensures, group_in c.args.pool.now, group_limit (origin_in c.args.pool.now) c.requires.holds.right)

pub returns-in_default : goal.returns-in_default
returns-in_default c =
    let s = sequence_number c.args.s in
    let none : length c.args.places.now ≡ 0 = omega (arith, c.in_default.ensures.item) in
    add-one _ ∙ ap suc (c.get_u32-purged.ensures ∙ sym (group_in c.args.pool.now))
    ∙ group_first (origin_in c.args.pool.now).group (deltas_of c.args.pool.now c.args.starts.now) c.args.places.now s none
    ∙ ap (λ (log : List Message). group_after (origin_in c.args.pool.now).group log s) c.requires.log

pub highest_group-requires : goal.highest_group-requires
highest_group-requires c = log_inside _ _ _ c.requires

pub sequence_at-requires : goal.sequence_at-requires
sequence_at-requires c =
    let some : 0 < length c.args.places.now = omega (arith, c.in-Some.ensures.item) in
    let inside = place_inside _ _ _ (log_inside _ _ _ c.requires) (length c.args.places.now - 1) (omega arith) in
    (c.requires.holds, omega (arith, inside, c.in-Some.ensures.item.4 (omega arith) 0))

pub overflow_add-result-then-less : goal.overflow_add-result-then-less
overflow_add-result-then-less c = omega (
  arith,
  c.max-highest.ensures,
  c.highest_group.ensures.1,
  c.get_u32-purged.ensures,
  group_in c.args.pool.now,
  group_limit (origin_in c.args.pool.now) c.requires.holds.right,
)

pub returns-then-less : goal.returns-then-less
returns-then-less c =
    let purged = (origin_in c.args.pool.now).group in
    let places = c.args.places.now in
    let deltas = deltas_of c.args.pool.now c.args.starts.now in
    let s = sequence_number c.args.s in
    let some : 0 < length places = omega (arith, c.in-Some.ensures.item) in
    let last = c.sequence_at.ensures ∙ ap (λ (i : ℕ). sequence_of (get_or deltas i [])) (c.in-Some.ensures.item.4 (omega arith) 0) in
    let highest = c.max-highest.ensures ∙ ap₂ max (c.get_u32-purged.ensures ∙ sym (group_in c.args.pool.now)) c.highest_group.ensures.0 in
    add-one _ ∙ group_behind purged deltas places s (sequence_number c.sequence_at.result) c.max-highest.result some last highest (sym c.less.ensures ∙ c.if-less.true)
    ∙ ap (λ (log : List Message). group_after purged log s) c.requires.log

pub returns : goal.returns
returns c =
    let purged = (origin_in c.args.pool.now).group in
    let places = c.args.places.now in
    let deltas = deltas_of c.args.pool.now c.args.starts.now in
    let s = sequence_number c.args.s in
    let some : 0 < length places = omega (arith, c.in-Some.ensures.item) in
    let last = c.sequence_at.ensures ∙ ap (λ (i : ℕ). sequence_of (get_or deltas i [])) (c.in-Some.ensures.item.4 (omega arith) 0) in
    let highest = c.max-highest.ensures ∙ ap₂ max (c.get_u32-purged.ensures ∙ sym (group_in c.args.pool.now)) c.highest_group.ensures.0 in
    group_behind purged deltas places s (sequence_number c.sequence_at.result) c.max-highest.result some last highest (sym c.less.ensures ∙ c.if-less.false)
    ∙ ap (λ (log : List Message). group_after purged log s) c.requires.log
