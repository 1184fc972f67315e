-- The held messages are copied behind the log's, and together they are the section.
use mathlib.Core.Path.{sym, ap, subst}
use mathlib.Core.List.{List}
use Prim.Native.Nat.{ℕ, ◌+◌, ◌≤◌}
use native.Mathlib.Omega.{arith}
use lib.ListN.{length, length-append}
use borrow.Author.Rules.{rules}
use Rattle.model.specs.Bytes.{join}
use Rattle.set_table.specs.Table.{deltas_of, deltas_at}
use Rattle.image_sections.specs.LogPlaces.{TablePlaces}
use Rattle.image_sections.specs.LogPlaceLaws.{log_inside}
use Rattle.image_sections.specs.HeldLaws.{others_inside}
use Rattle.image_header.specs.Pieces.{Copied}
use Rattle.image_header.specs.PieceLaws.{copied_behind}
use Rattle.image_sections.specs.SectionLaws.{messages_are}
use Rattle.image_sections.proofs.messages.put_messages.Statement.{statement}
use Rattle.image_sections.proofs.messages.put_messages.Tie as tie

-- the call as it began, from where the log's messages are copied
abbrev start : tie.After-copy_messages-behind → tie.Start
start c = c.before.before.before.before.before.before.before

-- the messages of the log, and the held ones
abbrev logged : tie.Start → List ℕ
logged s = join (deltas_at (deltas_of s.args.pool.now s.args.starts.now) s.args.places.now)

abbrev held : tie.Start → List ℕ
held s = join (deltas_at (deltas_of s.args.pool.now s.args.starts.now) s.args.others.now)

-- there is room for both
room : (s : tie.Start) → s.args.at + length (logged s) + length (held s) ≤ length s.args.out.now
room s = omega (
  arith,
  length-append (logged s) (held s),
  ap length (messages_are s.args.pool.now s.args.starts.now s.args.places.now s.args.others.now s.requires.0),
  s.requires.1,
)

copy-messages-requires : tie.Need-copy_messages-behind-requires
copy-messages-requires c κs =
    (log_inside c.args.pool.now c.args.starts.now c.args.places.now c.requires.0.logged, omega (arith, room c.before.before.before.before.before.before))

copy-messages-requires-2 : tie.Need-copy_messages-requires
copy-messages-requires-2 c κs =
    let s = start c.before.before.before in
    let pool = s.args.pool.now in
    let starts = s.args.starts.now in (
      subst (λ (x : List ℕ). TablePlaces pool starts x) (sym s.requires.0.held) (others_inside pool starts s.args.places.now s.requires.0.logged),
      omega (arith, room s, c.copy_messages-behind.ensures.end),
    )

returns : tie.Need-returns
returns c =
    let s = start c.before.before.before.before.before.before in
    let a = s.args in
    subst (λ (b : List ℕ). Copied a.out.now a.at b c.copy_messages.new.out c.copy_messages.result)
    (messages_are a.pool.now a.starts.now a.places.now a.others.now s.requires.0)
    (copied_behind (omega (arith, room s)) c.copy_messages-behind.ensures c.copy_messages.ensures)

pub put_messages_spec : {M : Type 1} → statement M
put_messages_spec = tie.close (tie.spec copy-messages-requires copy-messages-requires-2 (λ c. search rules) returns)
