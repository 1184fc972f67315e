-- What was written is a text: there is room behind it.
use Rattle.std.proofs.Common.{arith}
use Rattle.std.proofs.lemmas.Result.{err_from_is_err_and}
use Rattle.sequences_forms.proofs.Printing.{written_short, line_refused}
use Rattle.sequences_forms.proofs.put_line.Goals as goal

pub returns-in_err-size : goal.returns-in_err-size
returns-in_err-size c =
    let p = err_from_is_err_and c.from_residual.result c.from_residual.ensures.1 in
    rw (p.1, p.2) (line_refused c.args.sequences.now c.args.output.now (omega arith) _ c.write_sequences.new.text c.in_err-size.ensures)

pub bounds-output-size : goal.bounds-output-size
bounds-output-size c = omega (arith, written_short c.args.sequences.now c.args.output.now c.in_ok-size.size c.write_sequences.new.text c.in_ok-size.ensures)

pub overflow_add-result : goal.overflow_add-result
overflow_add-result c = omega (arith, written_short c.args.sequences.now c.args.output.now c.in_ok-size.size c.write_sequences.new.text c.in_ok-size.ensures)
