-- The image: where its sections lie; of a valid state it has 16,384 bytes and reads back to that state; a buffer passes code 2 by
-- computing exactly if it is declared an image.
use Rattle.std.specs.Prelude.{◌≡◌, refl, ◌↔◌, not, ◌&&◌, take, ltb, ℤ}
use Rattle.std.proofs.Math.Path.{sym, ap, ap₂, subst}
use Rattle.std.proofs.Common.{◌∙◌, length-set, drop_at, take_at, ltb→lt, leb→le}
use mathlib.Core.List.Memᴰ
use mathlib.Core.List.{List, [], ◌∷◌, ◌++◌, map, append_assoc, append-nil}
use Prim.Native.Nat.{ℕ, ◌+◌, ◌*◌, ◌-◌, ◌^◌, ◌≤◌, ◌<◌}
use native.Mathlib.Omega.{arith}
use Rattle.std.proofs.Math.ListN.{length, length-append, length-replicate, drop, get_or, replicate}
use Rattle.std.proofs.lemmas.List.{length-map}
use Rattle.std.proofs.Math.Dec.{T, leb, le→leb}
use Rattle.model.specs.Lists.{◌∈◌, every, same}
use Rattle.model.specs.Bytes.{number, bytes, field, numbers_in, parts, join}
use Rattle.model.specs.Layout.{length_at, sequence_size, value_size, tag_count, values_size, image_size, purged_block_at, purged_group_at, setpoints_start, base_start, floors_start, image_fields, capacity, message_room}
use Rattle.model.specs.Message.{Message, sequence_of, commands_of, passes}
use Rattle.model.specs.Tops.{tops_right}
use Rattle.model.specs.Order.{State, holding, purged, origin_right, log_of, held_of}
use Rattle.model.specs.Setpoints.{start_values, apply, run_command, run_commands, run_delta, run_log, setpoints_of}
use Rattle.model.specs.Image.{messages_start, messages_of, values_of, base_of, floors_of, header_numbers, header_of, sections_of, used_of, image_of, Valid, IsImage, cut, log_count, held_count, used_count, floor_count, messages_start_in, floors_in, base_in, origin_in, log_in, messages_in, held_in, set_of, state_in, holdable, is_image}
use Rattle.laws_order.specs.TestLaws.{and_l, and_r, and_i, every_∈, ∈_every, same_refl, same→eq}
use Rattle.laws_wire.specs.BytesLaws.{fields_back, parts_join, length_join, section_at, field_append, join_append}
use Rattle.laws_wire.specs.MessageLaws.{Sized, passes_sized, sized_range}
use Rattle.laws_origin.specs.OriginLaws.{few_floors, floors_right, base_length, block_limit, group_limit, base_is}
use Rattle.laws_state.specs.NumberLaws.{all_sized, numbers_back}
use Rattle.laws_state.specs.SetLaws.{set_of_ascending, set_of_same}
use Rattle.laws_state.specs.LogLaws.{log_received, log_held, log_length, held_length, places}
use Rattle.laws_state.specs.ValueLaws.{start_range, length_values_bytes, values_read}

-- ---- 64 values
length_commands : (l : List (List ℕ)) (t : List ℤ) → length (run_commands l t) ≡ length t
unfolding run_command apply
length_commands [] t = refl
length_commands (c ∷ l) t = length_commands l (run_command c t) ∙ length-set t _ _

pub length_run : (l : List Message) (t : List ℤ) → length (run_log l t) ≡ length t
unfolding run_delta
length_run [] t = refl
length_run (m ∷ l) t = length_run l (run_delta m t) ∙ length_commands (commands_of m) t

-- as many as there are base values
setpoints_base : (S : State) → length (setpoints_of S) ≡ length S.origin.base
unfolding setpoints_of start_values
setpoints_base S = length_run (log_of S) (start_values S)

pub length_setpoints : (S : State) → Valid S → length (setpoints_of S) ≡ tag_count
length_setpoints S valid = setpoints_base S ∙ base_length S.origin valid.right

-- ---- messages end to end, cut by their length fields
pub cut_join : (l : List Message) (rest : List ℕ) → ((m : Message) → m ∈ l → Sized m) → cut (length l) (join l ++ rest) ≡ l
cut_join [] rest h = refl
cut_join (m ∷ l) rest h =
    let s : Sized m = h m (Memᴰ.head refl) in
    let e : field (m ++ (join l ++ rest)) length_at 2 ≡ length m =
    field_append m (join l ++ rest) length_at 2 (omega (arith, (sized_range m s).0)) ∙ s.stated in
    rw (append_assoc, e, take_at m (join l ++ rest) (length m) refl, drop_at m (join l ++ rest) (length m) refl)
    (ap (λ (k : List Message). m ∷ k) (cut_join l rest (λ x k. h x (Memᴰ.tail k))))

join_length : (l : List Message) → ((m : Message) → m ∈ l → length m ≤ message_room) → length (join l) ≤ message_room * length l
join_length [] h = omega arith
join_length (m ∷ l) h = omega (arith, length-append m (join l), h m (Memᴰ.head refl), join_length l (λ x k. h x (Memᴰ.tail k)))

-- ---- the sections, and where they lie
-- the sections before the messages
abbrev pub front_of : State → List (List ℕ)
front_of S = take 4 (sections_of S)

pub front_is : (S : State) → front_of S ≡ header_of S ∷ values_of S ∷ base_of S ∷ floors_of S ∷ []
unfolding sections_of
front_is S = refl

pub length_header : (S : State) → length (header_of S) ≡ setpoints_start
unfolding header_of
length_header S = refl

values_size_lem : (S : State) → length (values_of S) ≡ value_size * length S.origin.base
unfolding values_of
values_size_lem S = length_values_bytes (setpoints_of S) ∙ ap (λ (n : ℕ). value_size * n) (setpoints_base S)

base_size : (S : State) → length (base_of S) ≡ value_size * length S.origin.base
unfolding base_of
base_size S = length_values_bytes S.origin.base

length_floors : (S : State) → length (floors_of S) ≡ sequence_size * length S.origin.floors
unfolding floors_of
length_floors S =
    length_join sequence_size (map (bytes sequence_size) S.origin.floors) (all_sized sequence_size S.origin.floors)
    ∙ omega (arith, length-map S.origin.floors (bytes sequence_size))

-- how many bytes they take depends on the origin alone
pub front_size : (S : State) → length (join (front_of S)) ≡ setpoints_start + (value_size * length S.origin.base + (value_size * length S.origin.base + sequence_size * length S.origin.floors))
front_size S =
    ap (λ (l : List (List ℕ)). length (join l)) (front_is S) ∙ length-append (header_of S) (values_of S ++ (base_of S ++ (floors_of S ++ [])))
    ∙ omega (
      arith,
      length-append (values_of S) (base_of S ++ (floors_of S ++ [])),
      length-append (base_of S) (floors_of S ++ []),
      length-append (floors_of S) [],
      length_header S,
      values_size_lem S,
      base_size S,
      length_floors S,
    )

pub used_front : (S : State) → used_of S ≡ join (front_of S) ++ messages_of S
unfolding used_of sections_of
used_front S = sym (join_append (front_of S) (messages_of S ∷ [])) ∙ ap (λ (b : List ℕ). join (front_of S) ++ b) (append-nil (messages_of S))

pub used_size : (S : State) → length (used_of S) ≡ length (join (front_of S)) + length (messages_of S)
used_size S = ap length (used_front S) ∙ length-append (join (front_of S)) (messages_of S)

-- past the header stand the values
pub values_at : (S : State) → (rest : List ℕ) × (drop setpoints_start (image_of S) ≡ values_of S ++ rest)
unfolding image_of used_of sections_of
values_at S =
    let zeros : List ℕ = replicate (image_size - length (used_of S)) 0 in (
      _,
      ap (λ (n : ℕ). drop n (image_of S)) (sym (length_header S) ∙ ap length (sym (append-nil (header_of S)))) ∙ section_at (sections_of S) 1 zeros (omega arith),
    )

-- a floor fits its twelve bytes
floors_fit : (S : State) → Valid S → (s : ℕ) → s ∈ S.origin.floors → s < 256 ^ sequence_size
unfolding tops_right
floors_fit S valid s k =
    let t : T (tops_right S.origin.floors) = floors_right S.origin valid.right in
    ltb→lt s (256 ^ sequence_size) (every_∈ (λ top. ltb top (256 ^ sequence_size)) S.origin.floors (search (and_l, and_r)) s k)

module _ (S : State) (valid : Valid S) where
  pub length_values : length (values_of S) ≡ values_size
  length_values = omega (arith, values_size_lem S, base_length S.origin valid.right)

  length_base : length (base_of S) ≡ values_size
  length_base = omega (arith, base_size S, base_length S.origin valid.right)

  -- past the values stand the base values, and past these the floors
  base_at : (rest : List ℕ) × (drop base_start (image_of S) ≡ base_of S ++ rest)
  unfolding image_of used_of sections_of
  base_at =
      let zeros : List ℕ = replicate (image_size - length (used_of S)) 0 in (
        _,
        ap (λ (n : ℕ). drop n (image_of S)) {x = base_start} {y = length (join (take 2 (sections_of S)))}
            (omega (arith, length-append (header_of S) (values_of S ++ []), length-append (values_of S) [], length_header S, length_values))
            ∙ section_at (sections_of S) 2 zeros (omega arith),
      )

  floors_at : (rest : List ℕ) × (drop floors_start (image_of S) ≡ floors_of S ++ rest)
  unfolding image_of used_of sections_of
  floors_at =
      let zeros : List ℕ = replicate (image_size - length (used_of S)) 0 in (
        _,
        ap (λ (n : ℕ). drop n (image_of S)) {x = floors_start} {y = length (join (take 3 (sections_of S)))}
            (omega (
              arith,
              length-append (header_of S) (values_of S ++ (base_of S ++ [])),
              length-append (values_of S) (base_of S ++ []),
              length-append (base_of S) [],
              length_header S,
              length_values,
              length_base,
            ))
            ∙ section_at (sections_of S) 3 zeros (omega arith),
      )

  -- the messages start past those before them
  pub messages_start_lem : length (join (front_of S)) ≡ messages_start S
  unfolding messages_start
  messages_start_lem = front_size S ∙ omega (arith, base_length S.origin valid.right)

  pub messages_at : (rest : List ℕ) → drop (messages_start S) (used_of S ++ rest) ≡ messages_of S ++ rest
  unfolding used_of sections_of
  messages_at rest = ap (λ (n : ℕ). drop n (used_of S ++ rest)) (sym messages_start_lem) ∙ section_at (sections_of S) 4 rest (omega arith)

  pub used_length : length (used_of S) ≡ messages_start S + length (messages_of S)
  used_length = used_size S ∙ ap (λ (n : ℕ). n + length (messages_of S)) messages_start_lem

  sized : (m : Message) → m ∈ log_of S ++ held_of S → Sized m
  sized m k = passes_sized m (valid.pass m ((log_held S valid.ascends m).0 k))

  -- the log's deltas pass
  pub log_passes : (m : Message) → m ∈ log_of S → T (passes m)
  log_passes m k = valid.pass m (log_received S valid.ascends m k)

  -- the messages of a valid state fit behind what stands before them
  pub messages_room : messages_start S + length (messages_of S) ≤ image_size
  unfolding messages_start messages_of
  messages_room = omega (
    arith,
    few_floors S.origin valid.right,
    places S valid.ascends,
    valid.fits,
    ap length (join_append (log_of S) (held_of S)),
    join_length (log_of S ++ held_of S) (λ m k. (sized_range m (sized m k)).1),
  )

  pub used_fits : length (used_of S) ≤ image_size
  used_fits = omega (arith, used_length, messages_room)

  pub image_size_lem : length (image_of S) ≡ image_size
  unfolding image_of
  image_size_lem = omega (
    arith,
    length-append (used_of S) (replicate (image_size - length (used_of S)) 0),
    length-replicate {A = ℕ} (image_size - length (used_of S)) 0,
    used_fits,
  )

  -- the header reads back to its numbers
  header_back : numbers_in image_fields (image_of S) ≡ header_numbers S
  unfolding image_of used_of sections_of header_of messages_start
  header_back =
      let room = messages_room in
      let few = valid.fits in
      let logged = log_length S valid.ascends in
      let waiting = held_length S valid.ascends in
      let floors = few_floors S.origin valid.right in
      let block = block_limit S.origin valid.right in
      let group = group_limit S.origin valid.right in
      fields_back image_fields (header_numbers S) [] (join (values_of S ∷ base_of S ∷ floors_of S ∷ messages_of S ∷ []) ++ replicate (image_size - length (used_of S)) 0)
      (refl, (refl, (refl, (refl, (refl, (refl, (refl, (refl, (refl, (refl, (refl, tt)))))))))))
      (omega arith, (omega arith, (omega arith, (omega arith, (omega arith, (omega arith, (omega arith, (omega arith, (omega arith, (omega arith, (omega arith, tt)))))))))))

  count_log : log_count (image_of S) ≡ length (log_of S)
  count_log = ap (λ (l : List ℕ). get_or l 0 0) header_back

  count_held : held_count (image_of S) ≡ length (held_of S)
  count_held = ap (λ (l : List ℕ). get_or l 1 0) header_back

  pub used_back : used_count (image_of S) ≡ messages_start S + length (messages_of S)
  used_back = ap (λ (l : List ℕ). get_or l 4 0) header_back

  count_floors : floor_count (image_of S) ≡ length S.origin.floors
  count_floors = ap (λ (l : List ℕ). get_or l 5 0) header_back

  -- of the image they start where the state's do
  pub start_back : messages_start_in (image_of S) ≡ messages_start S
  unfolding messages_start messages_start_in
  start_back = ap (λ (n : ℕ). floors_start + sequence_size * n) count_floors

  -- ---- the image of a state has its origin
  floors_back : floors_in (image_of S) ≡ S.origin.floors
  unfolding floors_in floors_of
  floors_back =
      let floors : List ℕ = S.origin.floors in
      ap (map number)
      (ap₂ (λ (n : ℕ) (d : List ℕ). parts n sequence_size d) (count_floors ∙ sym (length-map floors (bytes sequence_size))) floors_at.1
      ∙ parts_join sequence_size (map (bytes sequence_size) floors) floors_at.0 (all_sized sequence_size floors))
      ∙ numbers_back sequence_size floors (floors_fit S valid)

  base_back : base_in (image_of S) ≡ S.origin.base
  unfolding base_of start_values
  base_back =
      base_is (image_of S) (omega (arith, start_back, image_size_lem, messages_room))
      ∙ values_read S.origin.base (base_length S.origin valid.right) (start_range S valid) base_start (image_of S) base_at.0 base_at.1

  pub origin_back : origin_in (image_of S) ≡ S.origin
  unfolding origin_in
  origin_back =
      let b : List ℕ = image_of S in
      ap₂ (λ (f : List ℕ) (v : List ℤ). record { floors = f; base = v; block = field b purged_block_at 4; group = field b purged_group_at 4 }) floors_back base_back
      ∙ ap₂ (λ (x y : ℕ). record { floors = S.origin.floors; base = S.origin.base; block = x; group = y })
      (ap (λ (l : List ℕ). get_or l 8 0) header_back) (ap (λ (l : List ℕ). get_or l 9 0) header_back)

  -- from there on stand the messages, and then zeros
  record Body : Type 0 where
    zeros : List ℕ
    body : drop (messages_start_in (image_of S)) (image_of S) ≡ join (log_of S ++ held_of S) ++ zeros

  image_body : Body
  unfolding image_of messages_of
  image_body =
      let Z : List ℕ = replicate (image_size - length (used_of S)) 0 in
      record {
        zeros = Z;
        body = ap (λ (n : ℕ). drop n (image_of S)) start_back ∙ messages_at Z ∙ ap (λ (x : List ℕ). x ++ Z) (join_append (log_of S) (held_of S));
      }

  pub messages_back : messages_in (image_of S) ≡ log_of S ++ held_of S
  messages_back =
      ap₂ cut (ap₂ ◌+◌ count_log count_held ∙ sym (length-append (log_of S) (held_of S))) image_body.body
      ∙ cut_join (log_of S ++ held_of S) image_body.zeros sized

  -- the image's log is the state's
  pub log_back : log_in (image_of S) ≡ log_of S
  log_back =
      ap₂ cut count_log (image_body.body ∙ ap (λ (x : List ℕ). x ++ image_body.zeros) (sym (join_append (log_of S) (held_of S))) ∙ append_assoc (join (log_of S)) (join (held_of S)) image_body.zeros)
      ∙ cut_join (log_of S) (join (held_of S) ++ image_body.zeros) (λ m k. passes_sized m (log_passes m k))

  -- and so are its held messages
  pub held_back : held_in (image_of S) ≡ held_of S
  held_back = ap₂ drop count_log messages_back ∙ drop_at (log_of S) (held_of S) (length (log_of S)) refl

  -- the image reads back to its state
  pub state_back : state_in (image_of S) ≡ S
  state_back = ap₂ holding origin_back (ap set_of messages_back ∙ set_of_same S.deltas (log_of S ++ held_of S) valid.ascends (log_held S valid.ascends))

  -- a delta of the state may stand in an image
  deltas_holdable : (m : Message) → m ∈ S.deltas → T (holdable S m)
  deltas_holdable m k = and_i (passes m) (not (purged S (sequence_of m))) (valid.pass m k) (valid.above m k)

  pub image_passes : T (is_image (image_of S))
  unfolding is_image
  image_passes =
      let right : T (origin_right S.origin) = valid.right in
      let small : T (leb (length S.deltas) capacity) = le→leb (length S.deltas) capacity valid.fits in
      let each : T (every (holdable S) S.deltas) = ∈_every (holdable S) S.deltas deltas_holdable in
      let own : T (same (image_of S) (image_of S)) = same_refl (image_of S) in
      subst (λ (R : State). T (origin_right R.origin && leb (length R.deltas) capacity && every (holdable R) R.deltas && same (image_of R) (image_of S))) (sym state_back)
      (search and_i depth 5)

-- ---- code 2: computed exactly as declared
image_computed : (b : List ℕ) → T (is_image b) → IsImage b
unfolding is_image
image_computed b t = record { state = S; valid = found; image = sym (same→eq (image_of S) b is_same) }
  where
    S : State
    S = state_in b

    is_same : T (same (image_of S) b)
    is_same = search (and_l, and_r) depth 6

    small : T (leb (length S.deltas) capacity)
    small = search (and_l, and_r) depth 6

    each : (m : Message) → m ∈ S.deltas → T (holdable S m)
    each = every_∈ (holdable S) S.deltas (search (and_l, and_r) depth 6)

    found : Valid S
    found = record {
      ascends = set_of_ascending (messages_in b);
      fits = leb→le (length S.deltas) capacity small;
      pass = λ m k. and_l (passes m) (not (purged S (sequence_of m))) (each m k);
      above = λ m k. and_r (passes m) (not (purged S (sequence_of m))) (each m k);
      right = search (and_l, and_r) depth 6;
    }

pub image_declared : (b : List ℕ) → T (is_image b) ↔ IsImage b
image_declared b = (image_computed b, λ i. subst (λ (x : List ℕ). T (is_image x)) (sym i.image) (image_passes i.state i.valid))

-- an image is the image of one state
pub image_state : (b : List ℕ) (i : IsImage b) → i.state ≡ state_in b
image_state b i = sym (state_back i.state i.valid) ∙ ap state_in (sym i.image)

-- and that of its own state, which is valid, and whose log it has
pub image_own : (b : List ℕ) → T (is_image b) → b ≡ image_of (state_in b)
image_own b t = ((image_declared b).0 t).image ∙ ap image_of (image_state b ((image_declared b).0 t))

pub own_valid : (b : List ℕ) → T (is_image b) → Valid (state_in b)
own_valid b t = subst Valid (image_state b ((image_declared b).0 t)) ((image_declared b).0 t).valid

pub own_log : (b : List ℕ) → T (is_image b) → log_in b ≡ log_of (state_in b)
own_log b t = ap log_in (image_own b t) ∙ log_back (state_in b) (own_valid b t)
