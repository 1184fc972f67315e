-- The image after a purge, section by section: the messages that stay, the header's numbers, the setpoints, which stand there, and base
-- values and floors.
use Rattle.std.specs.Prelude.{◌≡◌, refl, take, drop, T, ℤ}
use Rattle.std.proofs.Common.{sym, ◌∙◌, ap₂, subst, arith, length-drop, length-append, take_at, drop-drop, length-take-le}
use Rattle.std.proofs.Math.Path.{ap}
use mathlib.Core.List.{List, ◌++◌, map}
use Prim.Native.Nat.{ℕ, ◌+◌, ◌*◌, ◌-◌, ◌≤◌}
use Rattle.std.proofs.Math.ListN.{length, replicate}
use Rattle.std.proofs.lemmas.List.{drop-append-le}
use Rattle.model.specs.Bytes.{is_bytes, bytes, join}
use Rattle.model.specs.Layout.{sequence_size, image_size, setpoints_start, base_start, floors_start}
use Rattle.model.specs.Message.{Message}
use Rattle.model.specs.Order.{Origin, State, log_of, held_of}
use Rattle.model.specs.Purge.{origin_past, purge_first}
use Rattle.model.specs.Image.{messages_start, messages_of, values_bytes, values_of, header_of, used_of, image_of, Valid, log_count, held_count, used_count, messages_in, held_in, state_in}
use Rattle.laws_state.specs.ImageLaws.{length_header, length_values, values_at, messages_at, messages_room, used_fits, used_back, image_size_lem, image_own, own_valid, own_log, held_back}
use Rattle.laws_purge.specs.PurgeLaws.{purge_log}
use Rattle.laws_purge.specs.PurgedState.{purge_held, purge_setpoints, messages_parted, purge_messages}
use Rattle.laws_purge.specs.PurgeValid.{purge_valid}
use Rattle.laws_state.specs.OffsetLaws.{log_count_lem, count_messages}
use Rattle.image_header.specs.Pieces.{pasted, Copied, header_bytes}
use Rattle.image_header.specs.PieceLaws.{length_pasted}
use Rattle.image_sections.specs.Sections.{origin_bytes}
use Rattle.image_sections.specs.SectionLaws.{header_is, used_written, used_cleared}
use Rattle.set_tops.specs.TopsLaws.{tops_length, tops_bytes}
use Rattle.purge_rest.specs.declared.Rest.{Rest}
use Rattle.purge_writing.specs.Writing.{gone_from, Writable}
use Rattle.purge_writing.specs.StandingLaws.{Stands, pasted_standing, stands_before, stands_behind}

-- the origin after a purge
pub purged_origin : (k : ℕ) (S : State) → (purge_first k S).origin ≡ origin_past S (take k (log_of S))
unfolding purge_first
purged_origin k S = refl

module _ (b pool tops : List ℕ) (floors k : ℕ) (rest : Rest) (w : Writable b pool tops floors k rest) where
  abbrev S : State
  S = state_in b

  abbrev R : State
  R = purge_first k S

  abbrev gone : List Message
  gone = gone_from b k

  own : b ≡ image_of S
  own = image_own b w.image

  valid : Valid S
  valid = own_valid b w.image

  pub size : length b ≡ image_size
  size = ap length own ∙ image_size_lem S valid

  pub pool_size : length pool ≡ image_size
  pool_size = ap length w.pooled ∙ size

  -- ---- the numbers that are read
  pub logged : log_count pool ≡ length (log_of S)
  logged = ap log_count w.pooled ∙ sym (log_count_lem b) ∙ ap length (own_log b w.image)

  pub waiting : held_count pool ≡ length (held_of S)
  waiting =
      ap held_count w.pooled
      ∙ omega (arith, count_messages b, length-drop (log_count b) (messages_in b), ap (λ (x : List ℕ). length (held_in x)) own, ap length (held_back S valid))

  pub used : used_count pool ≡ messages_start S + length (messages_of S)
  used = ap used_count (w.pooled ∙ own) ∙ used_back S valid

  -- ---- the messages that stay
  abbrev dropped : ℕ
  dropped = length (join gone)

  few_bytes : dropped ≤ length (messages_of S)
  few_bytes = omega (arith, ap length (messages_parted S valid k), length-append (join gone) (join (drop k (log_of S)) ++ join (held_of S)))

  pub from_used : rest.from ≤ used_count pool
  from_used = omega (arith, w.left.from, used, few_bytes)

  pub used_inside : used_count pool ≤ length pool
  used_inside = omega (arith, used, messages_room S valid, pool_size)

  body : (zeros : List ℕ) × (drop (messages_start S) (image_of S) ≡ messages_of S ++ zeros)
  unfolding image_of
  body = let Z : List ℕ = replicate (image_size - length (used_of S)) 0 in (Z, messages_at S valid Z)

  kept : take (used_count pool - rest.from) (drop rest.from pool) ≡ drop dropped (messages_of S)
  kept =
      let M : List ℕ = messages_of S in
      ap₂ (λ (n : ℕ) (x : List ℕ). take n x) {x = used_count pool - rest.from} {y = length M - dropped}
      (omega (arith, used, w.left.from))
      (ap₂ drop w.left.from (w.pooled ∙ own) ∙ sym (drop-drop dropped (messages_start S) (image_of S)) ∙ ap (drop dropped) body.1 ∙ drop-append-le dropped M body.0 few_bytes)
      ∙ take_at (drop dropped M) body.0 (length M - dropped) (length-drop dropped M)

  -- ---- the floors
  pub count_floors : length R.origin.floors ≡ floors
  count_floors =
      ap (λ (O : Origin). length O.floors) (purged_origin k S) ∙ ap length (sym w.raised) ∙ tops_length tops floors

  pub start_is : floors_start + sequence_size * floors ≡ messages_start R
  unfolding messages_start
  start_is = ap (λ (n : ℕ). floors_start + sequence_size * n) (sym count_floors)

  floor_bytes : T (is_bytes tops) → take (sequence_size * floors) tops ≡ join (map (bytes sequence_size) R.origin.floors)
  floor_bytes are =
      sym (ap (λ (O : Origin). join (map (bytes sequence_size) O.floors)) (purged_origin k S) ∙ ap (λ (l : List ℕ). join (map (bytes sequence_size) l)) (sym w.raised)
      ∙ tops_bytes tops floors are w.room)

  pub origin_is : T (is_bytes tops) → values_bytes rest.base ++ take (sequence_size * floors) tops ≡ origin_bytes R.origin
  origin_is are = ap₂ (λ (v : List ℤ) (l : List ℕ). values_bytes v ++ l) (w.left.base ∙ sym (ap (λ (O : Origin). O.base) (purged_origin k S))) (floor_bytes are)

  -- ---- all of them
  right : Valid R
  right = purge_valid S valid k (omega (arith, count_floors, w.few))

  pub messages_are : take (used_count pool - rest.from) (drop rest.from pool) ≡ messages_of R
  messages_are = kept ∙ sym (purge_messages S valid k)

  -- there is room for them
  pub messages_long : length (take (used_count pool - rest.from) (drop rest.from pool)) ≡ used_count pool - rest.from
  messages_long = length-take-le (used_count pool - rest.from) (drop rest.from pool) (omega (arith, length-drop rest.from pool, used_inside))

  pub messages_fit : floors_start + sequence_size * floors + (used_count pool - rest.from) ≤ image_size
  messages_fit = omega (arith, start_is, messages_room R right, ap length messages_are, messages_long)

  header_bytes_lem : {end : ℕ} → end ≡ messages_start R + length (messages_of R)
      → header_bytes (log_count pool - k) (held_count pool) (floors_start + sequence_size * floors) end floors rest.block rest.group ≡ header_of R
  header_bytes_lem {end} e =
      let O : Origin = R.origin in
      let past = purged_origin k S in
      ap₂ (header_bytes (log_count pool - k) (held_count pool) (floors_start + sequence_size * floors) end floors)
      (w.left.block ∙ sym (ap (λ (o : Origin). o.block) past)) (w.left.group ∙ sym (ap (λ (o : Origin). o.group) past))
      ∙ ap (λ (n : ℕ). header_bytes (log_count pool - k) (held_count pool) (floors_start + sequence_size * floors) end n O.block O.group) (sym count_floors)
      ∙ header_is R (ap (λ (n : ℕ). n - k) logged ∙ sym (ap length (purge_log S valid k) ∙ length-drop k (log_of S))) (waiting ∙ sym (ap length (purge_held S valid k))) start_is
      (e ∙ ap (λ (n : ℕ). n + length (messages_of R)) (sym start_is))

  -- the setpoints stand there
  values_same : values_of R ≡ values_of S
  unfolding values_of
  values_same = ap values_bytes (purge_setpoints S valid k)

  values_stand : Stands b setpoints_start (values_of R)
  values_stand =
      ap₂ (λ (v x : List ℕ). take (length v) (drop setpoints_start x)) values_same own ∙ ap (take (length (values_of S))) (values_at S).1
      ∙ take_at (values_of S) (values_at S).0 (length (values_of S)) refl ∙ sym values_same

  pub purged_image : {behind headed whole out : List ℕ} {log held to end : ℕ} → T (is_bytes tops) → log ≡ log_count pool → held ≡ held_count pool → to ≡ used_count pool
      → Copied b (floors_start + sequence_size * floors) (take (to - rest.from) (drop rest.from pool)) behind end
      → headed ≡ pasted behind 0 (header_bytes (log - k) held (floors_start + sequence_size * floors) end floors rest.block rest.group)
      → whole ≡ pasted headed base_start (values_bytes rest.base ++ take (sequence_size * floors) tops)
      → out ≡ take end whole ++ replicate (length whole - end) 0
      → out ≡ image_of R
  purged_image {behind} {headed} {whole} {out} {log} {held} {to} {end} are logs helds tos copied header origin zeros =
      used_cleared R size (used_written R right (omega (arith, size)) messages_put header_put values_put (origin ∙ ap (pasted headed base_start) (origin_is are))) zeros (used_fits R right)
    where
      messages_put : Copied b (messages_start R) (messages_of R) behind end
      messages_put = subst (λ (x : List ℕ). Copied b (messages_start R) x behind end) (ap (λ (n : ℕ). take (n - rest.from) (drop rest.from pool)) tos ∙ messages_are)
          (subst (λ (n : ℕ). Copied b n (take (to - rest.from) (drop rest.from pool)) behind end) start_is copied)

      header_put : headed ≡ pasted behind 0 (header_of R)
      header_put =
          header
          ∙ ap₂ (λ (x y : ℕ). pasted behind 0 (header_bytes (x - k) y (floors_start + sequence_size * floors) end floors rest.block rest.group)) logs helds
          ∙ ap (pasted behind 0) (header_bytes_lem messages_put.end)

      long : length behind ≡ length b
      long = ap length messages_put.bytes ∙ length_pasted b (messages_start R) (messages_of R) (omega (arith, size, messages_room R right))

      stand : Stands headed setpoints_start (values_of R)
      stand = subst (λ (x : List ℕ). Stands x setpoints_start (values_of R)) (sym header_put)
          (stands_behind behind setpoints_start (values_of R) (header_of R) (length_header R) (omega (arith, long, size))
          (subst (λ (x : List ℕ). Stands x setpoints_start (values_of R)) (sym messages_put.bytes)
          (stands_before b setpoints_start (values_of R) (messages_of R) (messages_start R) (omega (arith, size, messages_room R right)) (omega (arith, length_values R right, start_is)) values_stand)))

      values_put : headed ≡ pasted headed setpoints_start (values_of R)
      values_put = pasted_standing headed setpoints_start (values_of R) stand
