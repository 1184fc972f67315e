-- Whatever was located, its number is answered.
use Rattle.std.proofs.Common.{refl, arith, Ok, Err}
use Rattle.bivamolune_packing.specs.ReadAnswerLaws.{part_small, answers_log_message}
use Rattle.bivamolune.proofs.reads.bivamolune_log_message.Goals as goal

pub pack_part-requires : goal.pack_part-requires
pack_part-requires c =
    let l = c.in-Ok.located in
    part_small c.args.image.now c.args.place (Ok l) c.in-Ok.ensures l.offset l.size refl

pub returns-in-Ok : goal.returns-in-Ok
returns-in-Ok c = answers_log_message c.args.image.now c.args.place (Ok c.in-Ok.located) c.in-Ok.ensures c.pack_part.result c.pack_part.ensures

pub returns-in-Err : goal.returns-in-Err
returns-in-Err c = answers_log_message c.args.image.now c.args.place (Err c.in-Err.why) c.in-Err.ensures c.from.result (omega (arith, c.from.ensures, c.code.ensures))
