-- The places that are not the log's are those of the held deltas.
use Rattle.std.specs.Prelude.{◌≡◌, Bool, true, false, not, Ok, Err, List, ℕ, ◌≤◌, length, take}
use Rattle.std.proofs.Common.{sym, ◌∙◌, ap, subst, arith}
use Rattle.model.specs.Layout.{capacity}
use Rattle.model.specs.Codes.{held_on}
use Rattle.refusals.specs.declared.Refusal.TheVariants.{HeldLine}
use Rattle.refusals.specs.Refusals.{checked}
use Rattle.set_table.specs.Table.{deltas_of, deltas_at, set_in}
use Rattle.set_table.specs.TableLaws.{table_count}
use Rattle.image_sections.specs.declared.held.Held.{Held}
use Rattle.image_sections.specs.LogPlaces.{TablePlaces, LogPlaces, HeldBelow}
use Rattle.image_sections.specs.HeldLaws.{others_inside, others_length}
use Rattle.compose_line.specs.Line.{some_on}
use Rattle.compose_line.specs.LineLaws.{held_on_lem}

module _ (pool starts places : List ℕ) (log : LogPlaces pool starts places) where
  pub starts_fit : length starts ≤ capacity
  starts_fit = table_count pool starts log.holds

  module _ (h : Held) (held : HeldBelow (length starts) places h) where
    pub held_fit : h.count ≤ capacity
    held_fit = omega (arith, held.size, others_length (length starts) places, starts_fit)

    pub held_inside : TablePlaces pool starts (take h.count h.places)
    held_inside = subst (TablePlaces pool starts) (sym held.others) (others_inside pool starts places log)

    module _ (line : ℕ) where
      abbrev found : Bool
      found = some_on line (deltas_at (deltas_of pool starts) (take h.count h.places))

      held_is : found ≡ held_on (set_in pool starts) line
      held_is = ap (λ (l : List ℕ). some_on line (deltas_at (deltas_of pool starts) l)) held.others ∙ held_on_lem pool starts places log line

      pub refused : true ≡ found → Err HeldLine ≡ checked HeldLine (not (held_on (set_in pool starts) line))
      refused e = ap (λ (t : Bool). checked HeldLine (not t)) (e ∙ held_is)

      pub free : false ≡ found → Ok tt ≡ checked HeldLine (not (held_on (set_in pool starts) line))
      free e = ap (λ (t : Bool). checked HeldLine (not t)) (e ∙ held_is)

pub ruleset held_line = (starts_fit, held_fit, held_inside, refused, free)
