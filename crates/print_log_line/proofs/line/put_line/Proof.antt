-- The commands are those behind the message's dependencies; head, commands and line feed are the line.
use Prim.Native.Nat.{◌+◌, ◌*◌, ◌-◌, ◌≤◌}
use native.Mathlib.Omega.{arith}
use lib.ListN.{length, drop, length-take, length-drop}
use Rattle.model.specs.Layout.{header_size, command_size}
use Rattle.laws_wire.specs.MessageLaws.{Sized, layout_sized, sized_range}
use Rattle.print_log_line.specs.LineLaws.{line_puts}
use borrow.Author.Rules.{rules}
use Rattle.print_log_line.proofs.line.put_line.Statement.{statement}
use Rattle.print_log_line.proofs.line.put_line.Tie as tie

-- the lengths of the message
lengths : (s : tie.Start) → Sized s.args.message.now
lengths s = layout_sized s.args.message.now s.requires.1

long : (s : tie.Start) → header_size + command_size ≤ length s.args.message.now
long s = (sized_range s.args.message.now (lengths s)).0

-- where its commands start
abbrev began : tie.After-byte → tie.Start
began b = b.before.before.before

begins : (b : tie.After-byte) → header_size + 12 * b.byte.result ≤ length (began b).args.message.now
begins b = omega (arith, b.byte.ensures.0, (lengths (began b)).total)

byte-requires : tie.Need-byte-requires
byte-requires c κs = omega (arith, long c.before.before)

put-head-requires : tie.Need-put_head-headed-requires
put-head-requires c κs = (omega arith, omega (arith, long c.before.before.before.before))

sub-put-commands : tie.Need-slice_bounds-put_commands-count
sub-put-commands c = begins c.before.before.before.before.before

part-put-commands-start : tie.Need-slice_bounds-put_commands-start
part-put-commands-start c = begins c.before.before.before.before.before

put-commands-requires : tie.Need-put_commands-commanded-requires
put-commands-requires c κs =
    let m = (began c.before.before.before.before.before.before).args.message.now in
    let start = header_size + 12 * c.byte.result in (
      omega (arith, c.put_head-headed.ensures.end, c.put_head-headed.ensures.few, c.put_head-headed.auto.out),
      omega (arith, length-take (length m - start) (drop start m), length-drop start m, c.byte.ensures.0, (lengths (began c.before.before.before.before.before.before)).total, (lengths (began c.before.before.before.before.before.before)).commands),
    )

returns : tie.Need-returns
returns c =
    let s = began c.before.before.before.before.before.before.before.before.before.before.before.before.before.before.before in
    line_puts s.args.message.now s.requires.1 s.args.place s.args.offset (omega (arith, c.byte.ensures.0)) s.requires.0
    c.put_head-headed.ensures
    c.put_commands-commanded.ensures
    c.put_text.ensures

pub put_line_spec : {M : Type 1} → statement M
put_line_spec =
    tie.close
    (tie.spec
    byte-requires
    (λ c. search rules)
    (λ c. search rules)
    (λ c. search rules)
    put-head-requires
    sub-put-commands
    part-put-commands-start
    (λ c. search rules)
    put-commands-requires
    (λ c κs. search rules)
    (λ c. search rules)
    returns)
