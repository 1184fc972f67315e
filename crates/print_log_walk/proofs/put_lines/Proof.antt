-- The invariant: the lines that are printed, with those of the messages that are left, are all; the reader's offset is that of the next one.
use mathlib.Core.Path.{◌≡◌, sym, ◌∙◌, subst}
use Prim.Native.Nat.{◌-◌, ◌≤◌}
use lib.Dec.{T}
use borrow.Author.Tests.{eqb-true, eqb-false}
use native.Mathlib.Omega.{arith}
use borrow.Author.Rules.{rules}
use Rattle.model.specs.Message.{Message, layout_right}
use Rattle.model.specs.Image.{log_count}
use Rattle.model.specs.Calls.{log_message_code}
use Rattle.model.specs.Program.{log_line}
use Rattle.program_decimal.specs.Puts.{Puts}
use Rattle.print_log_line.specs.Rooms.{line_room}
use Rattle.print_log_walk.specs.Printing.{Printing}
use Rattle.print_log_walk.specs.CodeLaws.{code_found, code_ended}
use Rattle.print_log_walk.specs.PrintingLaws.{message_right, place_few, printing_first, printing_room, printing_next, printing_end}
use Rattle.print_log_walk.proofs.put_lines.Statement.{statement}
use Rattle.print_log_walk.proofs.put_lines.Tie as tie

abbrev invariant-loop : tie.invariant-loop-message
invariant-loop image out₀ place₀ offset₀ at₀ out place offset at = Printing image out₀ out place offset at

abbrev decreases-loop : tie.decreases-loop-message
decreases-loop image out₀ place₀ offset₀ at₀ out place offset at = log_count image - place

-- the call as it began, and the head of the loop, from where the place is looked up
abbrev began : tie.At-loop-message invariant-loop decreases-loop → tie.Start invariant-loop decreases-loop
began l = l.before.before.before.before

abbrev turn : tie.After-is_logged invariant-loop decreases-loop → tie.At-loop-message invariant-loop decreases-loop
turn k = k.before

-- a turn's place is in the log
found : (i : tie.In-loop-message invariant-loop decreases-loop) → let l = turn i.before in log_message_code (began l).args.image.now l.loop-message.place ≡ 0
found i = eqb-true _ 0 (sym i.is_logged.ensures ∙ i.loop-message-test.true)

ended : (c : tie.After-loop-message invariant-loop decreases-loop) → let l = turn c.before in log_count (began l).args.image.now ≤ l.loop-message.place
ended c =
    let l = turn c.before in
    code_ended (began l).args.image.now l.loop-message.place (began l).requires.0 (eqb-false _ 0 (sym c.is_logged.ensures ∙ c.loop-message-test.false))

-- from where its line is printed
abbrev inside : tie.After-put_line-at invariant-loop decreases-loop → tie.In-loop-message invariant-loop decreases-loop
inside p = p.before.before.before

loop-holds : tie.Need-loop-message-init invariant-loop decreases-loop
loop-holds c = printing_first {b = c.args.image.now} {entry = c.args.out.now} c.requires.0 c.start_offset-offset.ensures

put-line-requires : tie.Need-put_line-at-requires invariant-loop decreases-loop
put-line-requires c κs =
    let l = turn c.before.before.before in
    let s = began l in (
      printing_room l.loop-message.invariant (found c.before.before) s.requires.1,
      subst (λ (m : Message). T (layout_right m)) (sym c.log_message-message.ensures) (message_right s.args.image.now l.loop-message.place (found c.before.before)),
    )

add-place : tie.Need-overflow_add-place invariant-loop decreases-loop
add-place c =
    let i = inside c.before.before.before in
    let l = turn i.before in
    record { fits = omega (arith, place_few (began l).args.image.now l.loop-message.place (found i)) }

loop-less : tie.Need-loop-message-smaller invariant-loop decreases-loop
loop-less c =
    let i = inside c.before.before.before in
    let l = turn i.before in
    omega (arith, (code_found (began l).args.image.now l.loop-message.place (found i)).1)

loop-again : tie.Need-loop-message-preserved invariant-loop decreases-loop
loop-again c =
    let i = inside c.before.before.before in
    let l = turn i.before in
    let s = began l in
    printing_next l.loop-message.invariant (found i) s.requires.1
    (subst (λ (m : Message). Puts l.loop-message.out l.loop-message.at line_room (log_line l.loop-message.place l.loop-message.offset m) c.put_line-at.result c.put_line-at.new.out) c.log_message-message.ensures c.put_line-at.ensures)
    c.put_line-at.auto.out
    c.move_on-offset.ensures

same_length : tie.Need-shape_of-out invariant-loop decreases-loop
same_length c = (turn c.before).loop-message.invariant.size

returns : tie.Need-returns invariant-loop decreases-loop
returns c = let l = turn c.before in printing_end l.loop-message.invariant (began l).requires.0 (ended c)

pub put_lines_spec : {M : Type 1} → statement M
put_lines_spec =
    tie.close
    (tie.spec
    invariant-loop
    decreases-loop
    (λ c κs. search rules)
    loop-holds
    (λ c κs. search rules)
    (λ c κs. search rules)
    put-line-requires
    (λ c κs. search rules)
    add-place
    loop-less
    loop-again
    same_length
    returns)
