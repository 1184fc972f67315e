-- What is known of a store past the end: it changes nothing.
use Rattle.std.proofs.Math.Seq.{set_out}

pub ruleset applying = (set_out)
