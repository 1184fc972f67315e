-- A printable line goes to the reader, and any other input whole to the writer.
use Rattle.std.proofs.Common.{rules, arith, take}
use Rattle.sequences_forms.specs.FormCases.{sequences_printed}
use Rattle.sequences_forms.proofs.Printing.{by_line}
use Rattle.sequences_forms.proofs.convert.Goals as goal

pub returns-then-is_printable : goal.returns-then-is_printable
returns-then-is_printable c =
    let read = sequences_printed (take c.line_size-size.result c.args.input.now) c.args.output.now (omega arith) in
    rw (by_line c.args.input.now c.line_size-size.result c.line_size-size.ensures) (search rules)

pub returns : goal.returns
returns c = rw (by_line c.args.input.now c.line_size-size.result c.line_size-size.ensures) (search rules)
