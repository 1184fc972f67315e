-- The origin of a buffer: what is asked of it, part by part; where its floors and base values lie; that what begins with an image has the
-- image's origin.
use Rattle.std.specs.Prelude.{◌≡◌, refl, Bool, true, false, cond, ℕ, zero, suc, ◌+◌, ◌*◌, ◌≤◌, ◌<◌, length, take, drop, get_or, T, ltb, leb, ℤ, pos}
use Rattle.std.proofs.Common.{sym, ◌∙◌, arith, length-take, drop-drop, le→leb}
use Rattle.std.proofs.Math.Path.{ap, ap₂}
use Rattle.std.proofs.Math.Logic.{⊎_elim}
use mathlib.Core.List.{List, [], ◌∷◌, map}
use Rattle.std.proofs.lemmas.List.{length-map}
use Rattle.std.proofs.Math.Seq.{take-length}
use Rattle.std.proofs.Math.Dec.{eqb→eq, ltb→lt, leb→le}
use Rattle.model.specs.Lists.{every, ascending}
use Rattle.model.specs.Bytes.{number, field, parts, integer}
use Rattle.model.specs.Layout.{field_limit, sequence_size, value_size, tag_count, floor_count_at, purged_block_at, purged_group_at, base_start, floors_start, most_floors}
use Rattle.model.specs.Message.{line_of, numbered}
use Rattle.model.specs.Tops.{tops_right}
use Rattle.model.specs.Order.{Origin, first_origin, in_range, all_zero, origin_right, State}
use Rattle.model.specs.Setpoints.{start_values}
use Rattle.model.specs.Image.{values_at, floor_count, messages_start_in, floors_in, base_in, origin_in}
use Rattle.laws_order.specs.TestLaws.{and_l, and_r, or_e, is_true}
use Rattle.laws_order.specs.ListLaws.{get_d_map}
use Rattle.laws_wire.specs.BytesLaws.{take_drop_take, part_agrees, length_parts, parts_at}

-- the values before any command are the origin's
pub start_same : (S R : State) → S.origin ≡ R.origin → start_values S ≡ start_values R
unfolding start_values
start_same S R e = ap (λ (O : Origin). O.base) e

-- ---- what is asked of an origin
module _ (O : Origin) (right : T (origin_right O)) where
  pub few_floors : length O.floors ≤ most_floors
  unfolding origin_right
  few_floors = leb→le (length O.floors) most_floors (search (and_l, and_r) depth 10)

  pub floors_right : T (tops_right O.floors)
  unfolding origin_right
  floors_right = search (and_l, and_r) depth 10

  pub floors_ascend : T (ascending (map line_of O.floors))
  unfolding tops_right
  floors_ascend = let t = floors_right in search (and_l, and_r) depth 10

  pub floors_numbered : T (every numbered O.floors)
  unfolding tops_right
  floors_numbered = let t = floors_right in search (and_l, and_r) depth 10

  pub base_length : length O.base ≡ tag_count
  unfolding origin_right
  base_length = eqb→eq (length O.base) tag_count (search (and_l, and_r) depth 10)

  pub base_range : T (every in_range O.base)
  unfolding origin_right
  base_range = search (and_l, and_r) depth 10

  pub block_limit : O.block ≤ field_limit
  unfolding origin_right
  block_limit = leb→le O.block field_limit (search (and_l, and_r) depth 10)

  pub group_limit : O.group ≤ field_limit
  unfolding origin_right
  group_limit = leb→le O.group field_limit (search (and_l, and_r) depth 10)

  pub zero_without_floors : length O.floors ≡ 0 → T (all_zero O)
  unfolding origin_right
  zero_without_floors none =
      ⊎_elim (λ t. let z : ⊥ = omega (arith, ltb→lt 0 (length O.floors) t) in absurd z) (λ t. t)
      (or_e (ltb 0 (length O.floors)) (all_zero O) (search (and_l, and_r) depth 10))

-- ---- where the parts of a buffer's origin lie
pub block_in : (b : List ℕ) → (origin_in b).block ≡ field b purged_block_at 4
unfolding origin_in
block_in b = refl

pub group_in : (b : List ℕ) → (origin_in b).group ≡ field b purged_group_at 4
unfolding origin_in
group_in b = refl

pub floors_length : (b : List ℕ) → length (floors_in b) ≡ floor_count b
unfolding floors_in
floors_length b = length-map (parts (floor_count b) sequence_size (drop floors_start b)) number ∙ length_parts (floor_count b) sequence_size (drop floors_start b)

pub floors_in_lem : (b : List ℕ) → length (origin_in b).floors ≡ floor_count b
unfolding origin_in
floors_in_lem b = floors_length b

pub floor_in : (b : List ℕ) (k : ℕ) → k < floor_count b → get_or (floors_in b) k 0 ≡ field b (floors_start + sequence_size * k) sequence_size
unfolding floors_in
floor_in b k h =
    get_d_map number (parts (floor_count b) sequence_size (drop floors_start b)) k [] 0 (omega (arith, length_parts (floor_count b) sequence_size (drop floors_start b)))
    ∙ ap number (parts_at (floor_count b) sequence_size (drop floors_start b) k h ∙ ap (take sequence_size) (drop-drop (sequence_size * k) floors_start b))

pub values_length : (at : ℕ) (b : List ℕ) → length (values_at at b) ≡ tag_count
values_length at b = length-map (parts tag_count value_size (drop at b)) (λ p. integer (number p)) ∙ length_parts tag_count value_size (drop at b)

pub value_in : (at : ℕ) (b : List ℕ) (tag : ℕ) → tag < tag_count → get_or (values_at at b) tag (pos 0) ≡ integer (field b (at + value_size * tag) value_size)
value_in at b tag h =
    get_d_map (λ p. integer (number p)) (parts tag_count value_size (drop at b)) tag [] (pos 0) (omega (arith, length_parts tag_count value_size (drop at b)))
    ∙ ap (λ (w : List ℕ). integer (number w)) (parts_at tag_count value_size (drop at b) tag h ∙ ap (take value_size) (drop-drop (value_size * tag) at b))

-- a buffer that ends past its floors has base values
pub base_is : (b : List ℕ) → messages_start_in b ≤ length b → base_in b ≡ values_at base_start b
unfolding base_in
base_is b h = ap (λ (c : Bool). cond c (values_at base_start b) []) (is_true (leb (messages_start_in b) (length b)) (le→leb (messages_start_in b) (length b) h))

-- and one whose origin is right ends past them
pub room_of : (b : List ℕ) → T (origin_right (origin_in b)) → messages_start_in b ≤ length b
unfolding origin_in base_in
room_of b right = go (leb (messages_start_in b) (length b)) (leb→le (messages_start_in b) (length b)) (base_length (origin_in b) right)
  where
    go : (c : Bool) → (T c → messages_start_in b ≤ length b) → length (cond c (values_at base_start b) []) ≡ tag_count → messages_start_in b ≤ length b
    go true f e = f tt
    go false f e = let z : ⊥ = omega arith in absurd z

pub start_least : (b : List ℕ) → floors_start ≤ messages_start_in b
unfolding messages_start_in
start_least b = omega arith

-- so that it has a whole header
pub header_room : (b : List ℕ) → T (origin_right (origin_in b)) → floors_start ≤ length b
header_room b right = omega (arith, room_of b right, start_least b)

-- ---- nothing was purged
pub first_right : T (origin_right first_origin)
unfolding origin_right tops_right
first_right = tt

-- ---- what begins with a buffer
pub parts_agree : (n size : ℕ) (a b : List ℕ) → take (n * size) a ≡ take (n * size) b → parts n size a ≡ parts n size b
parts_agree zero size a b e = refl
parts_agree (suc n) size a b e =
    ap₂ ◌∷◌
    (sym (take_drop_take (suc n * size) 0 size a (omega arith)) ∙ ap (take size) e ∙ take_drop_take (suc n * size) 0 size b (omega arith))
    (parts_agree n size (drop size a) (drop size b)
    (sym (take_drop_take (suc n * size) size (n * size) a (omega arith)) ∙ ap (λ (l : List ℕ). take (n * size) (drop size l)) e
    ∙ take_drop_take (suc n * size) size (n * size) b (omega arith)))

module _ (a b : List ℕ) (n : ℕ) (agree : take n a ≡ take n b) where
  -- two buffers that agree up to where the messages start have the same origin
  module _ (start : messages_start_in a ≤ n) (longA : n ≤ length a) (longB : n ≤ length b) where
    room : floors_start + sequence_size * floor_count a ≤ n
    unfolding messages_start_in
    room = start

    counts_agree : floor_count b ≡ floor_count a
    counts_agree = ap number (part_agrees a b n agree floor_count_at 2 (omega (arith, room)))

    starts_agree : messages_start_in b ≡ messages_start_in a
    unfolding messages_start_in
    starts_agree = ap (λ (k : ℕ). floors_start + sequence_size * k) counts_agree

    floors_agree : floors_in b ≡ floors_in a
    unfolding floors_in
    floors_agree =
        ap (λ (k : ℕ). map number (parts k sequence_size (drop floors_start b))) counts_agree
        ∙ ap (map number) (parts_agree (floor_count a) sequence_size (drop floors_start b) (drop floors_start a)
        (part_agrees a b n agree floors_start (floor_count a * sequence_size) (omega (arith, room))))

    base_agrees : base_in b ≡ base_in a
    base_agrees =
        base_is b (omega (arith, starts_agree))
        ∙ ap (map (λ p. integer (number p))) (parts_agree tag_count value_size (drop base_start b) (drop base_start a) (part_agrees a b n agree base_start (tag_count * value_size) (omega (arith, room))))
        ∙ sym (base_is a (omega arith))

    pub origin_agrees : origin_in b ≡ origin_in a
    unfolding origin_in
    origin_agrees =
        ap₂ (λ (f : List ℕ) (v : List ℤ). record { floors = f; base = v; block = field b purged_block_at 4; group = field b purged_group_at 4 }) floors_agree base_agrees
        ∙ ap₂ (λ (x y : ℕ). record { floors = floors_in a; base = base_in a; block = x; group = y })
        (ap number (part_agrees a b n agree purged_block_at 4 (omega (arith, room)))) (ap number (part_agrees a b n agree purged_group_at 4 (omega (arith, room))))

-- so that what begins with a buffer whose origin is right has that origin
pub origin_front : (b pool : List ℕ) → T (origin_right (origin_in b)) → take (length b) pool ≡ b → origin_in pool ≡ origin_in b
origin_front b pool right front =
    origin_agrees b pool (length b) (take-length b ∙ sym front) (room_of b right) (omega arith)
    (omega (arith, ap length front, length-take (length b) pool))
