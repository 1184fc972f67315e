-- The messages stand where they start, and the header, the values and what the pool begins with before them.
use mathlib.Core.Path.{◌≡◌, ◌∙◌, ap, subst}
use Prim.Native.Nat.{ℕ, ◌+◌, ◌-◌, ◌≤◌}
use native.Mathlib.Omega.{arith}
use native.Mathlib.Nat.{sub-zero}
use lib.ListN.{length, take}
use borrow.Author.Rules.{rules}
use Rattle.model.specs.Layout.{image_size, capacity, setpoints_start}
use Rattle.model.specs.Order.{State}
use Rattle.model.specs.Image.{messages_start, messages_of}
use Rattle.laws_origin.specs.OriginLaws.{room_of, header_room}
use Rattle.laws_state.specs.ImageLaws.{messages_room}
use Rattle.set_table.specs.Table.{set_in}
use Rattle.set_table.specs.StartLaws.{start_in}
use Rattle.image_sections.specs.LogPlaces.{others_below, LogPlaces}
use Rattle.set_table.specs.TableLaws.{table_count}
use Rattle.image_sections.specs.LogPlaceLaws.{log_inside, log_count_lem, log_fits, log_values}
use Rattle.image_sections.specs.HeldLaws.{others_length, others_count}
use Rattle.image_header.specs.Pieces.{pasted, Copied}
use Rattle.image_sections.specs.SectionLaws.{header_is, values_are, used_written}
use Rattle.image.proofs.write_used.Statement.{statement}
use Rattle.image.proofs.write_used.Tie as tie

-- earlier states: the call as it began, the held places found, the start of the messages known, the messages copied
abbrev begun : tie.After-held_places-held → tie.Start
begun h = h.before.before.before.before.before.before

abbrev found : tie.After-messages_start-start → tie.After-held_places-held
found m = m.before.before

abbrev started : tie.After-put_messages-used → tie.After-messages_start-start
started u = u.before.before.before

abbrev copied : tie.After-put_header-arg-1 → tie.After-put_messages-used
copied c = c.before.before.before

abbrev set : tie.After-held_places-held → State
set h = set_in (begun h).args.pool.now (begun h).args.starts.now

logged : (h : tie.After-held_places-held) → LogPlaces (begun h).args.pool.now (begun h).args.starts.now (begun h).args.places.now
logged h = (begun h).requires.logged

held_count : (h : tie.After-held_places-held) → h.held_places-held.result.count ≤ capacity
held_count h =
    let s = begun h in
    omega (
      arith,
      h.held_places-held.ensures.size,
      others_length (length s.args.starts.now) s.args.places.now,
      table_count s.args.pool.now s.args.starts.now (logged h).holds,
    )

-- the part that is lent has the other places
others_are : (h : tie.After-held_places-held)
    → take (h.held_places-held.result.count - 0) h.held_places-held.result.places ≡ others_below (length (begun h).args.starts.now) (begun h).args.places.now
others_are h = ap (λ (n : ℕ). take n h.held_places-held.result.places) (sub-zero h.held_places-held.result.count) ∙ h.held_places-held.ensures.others

-- there is room for the messages from their start on
start_is : (m : tie.After-messages_start-start) → m.messages_start-start.result ≡ messages_start (set (found m))
start_is m =
    let a = (begun (found m)).args in
    m.messages_start-start.ensures ∙ start_in a.pool.now a.starts.now

room : (m : tie.After-messages_start-start) → m.messages_start-start.result + length (messages_of (set (found m))) ≤ image_size
room m = omega (arith, start_is m, messages_room (set (found m)) (logged (found m)).holds)

used_fits : (u : tie.After-put_messages-used) → u.put_messages-used.result ≤ image_size
used_fits u = omega (arith, u.put_messages-used.ensures.end, room (started u))

run-log-requires : tie.Need-run_log-values-requires
run-log-requires c κs = log_inside c.args.pool.now c.args.starts.now c.args.places.now c.requires.logged

held-places-requires : tie.Need-held_places-held-requires
held-places-requires c κs =
    table_count c.args.pool.now c.args.starts.now c.requires.logged.holds

part-put-messages-end : tie.Need-slice_bounds-put_messages-end
part-put-messages-end c =
    let h = found c.before in
    let size : length h.held_places-held.result.places ≡ capacity = search rules in
    omega (arith, held_count h)

put-messages-requires : tie.Need-put_messages-used-requires
put-messages-requires c κs =
    let h = found c.before.before in
    let size = (begun h).requires.room in
    (record { logged = logged h; held = others_are h }, omega (arith, room c.before.before))

cast-put-header : tie.Need-overflow_cast-places
cast-put-header c =
    let s = begun (found (started (copied c))) in
    omega (arith, log_fits s.args.pool.now s.args.starts.now s.args.places.now s.requires.logged)

cast-put-header-2 : tie.Need-overflow_cast-count
cast-put-header-2 c = omega (arith, held_count (found (started (copied c))))

cast-put-header-3 : tie.Need-overflow_cast-start
cast-put-header-3 c = omega (arith, room (started (copied c)))

cast-put-header-4 : tie.Need-overflow_cast-used
cast-put-header-4 c = omega (arith, used_fits (copied c))

put-origin-requires : tie.Need-put_origin-requires
put-origin-requires c κs =
    let m = started c.before.before.before.before.before.before.before.before.before.before.before in
    let s = begun (found m) in (
      m.messages_start-start.ensures,
      omega (arith, m.messages_start-start.ensures, room_of s.args.pool.now s.requires.logged.holds.right),
      omega (arith, room m, s.requires.room, c.put_messages-used.auto.out, c.put_header.auto.out, c.put_values.auto.image),
    )

returns : tie.Need-returns
returns c =
    let m = started c.before.before.before.before.before.before.before.before.before.before.before.before.before.before in
    let h = found m in
    let a = (begun h).args in
    let S = set h in
    used_written S (logged h).holds (begun h).requires.room
    (subst (λ (n : ℕ). Copied a.out.now n (messages_of S) c.put_messages-used.new.out c.put_messages-used.result) (start_is m) c.put_messages-used.ensures)
    (c.put_header.ensures
    ∙ ap (pasted c.put_messages-used.new.out 0)
    (header_is S (log_count_lem a.pool.now a.starts.now a.places.now (logged h))
    (h.held_places-held.ensures.size ∙ others_count a.pool.now a.starts.now a.places.now (logged h)) (start_is m) c.put_messages-used.ensures.end))
    (c.put_values.ensures ∙ values_are S (logged h).holds c.put_header.new.out setpoints_start
    (log_values a.pool.now a.starts.now a.places.now h.run_log-values.result (logged h) h.run_log-values.ensures))
    c.put_origin.ensures

pub write_used_spec : {M : Type 1} → statement M
write_used_spec =
    tie.close
    (tie.spec
    run-log-requires
    held-places-requires
    (λ c κs. let s = begun c.before in header_room s.args.pool.now s.requires.logged.holds.right)
    (λ c. search rules)
    (λ c. search rules)
    part-put-messages-end
    put-messages-requires
    cast-put-header
    cast-put-header-2
    cast-put-header-3
    cast-put-header-4
    (λ c κs. ((begun (found (started (copied c)))).requires.logged.holds.right, search rules))
    (λ c κs. search rules)
    put-origin-requires
    (λ c. search rules)
    returns)
