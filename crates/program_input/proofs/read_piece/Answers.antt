-- A read puts what the reader gives behind the bytes that are there.
use Rattle.std.proofs.Common.{arith}
use Rattle.program_input.proofs.Taken.{took}
use Rattle.program_input.proofs.read_piece.Goals as goal

pub returns-clause-takes : goal.returns-clause-takes
returns-clause-takes g c = took _ _ c.args.at c.args.buf.now c.read.new.buf c.read.result _ c.judge_answer.ensures c.requires (omega (arith, c.read.auto.buf)) c.read.ensures.bound c.read.ensures.bytes
