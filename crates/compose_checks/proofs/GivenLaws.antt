-- What decides flag and priority: a law for each end of the tests.
use Rattle.compose_checks.specs.CheckLaws.{flag_wrong, priority_wrong, flag_given, priority_alone, none_given}

pub ruleset given_laws = (flag_wrong, priority_wrong, flag_given, priority_alone, none_given)
