-- What is used where the digits of a number are found.
use Rattle.program_decimal.specs.DigitLaws.{spelled_none, spelled_first, spelled_next, spelled_all}

pub ruleset spelling = (spelled_none, spelled_first, spelled_next, spelled_all)
