-- The first places of a log are places of it, and their messages end before the image does.
use Rattle.std.specs.Prelude.{◌≡◌, ℕ, ◌+◌, ◌≤◌, max, get_or}
use Rattle.std.proofs.Math.Path.{refl, ap}
use Rattle.std.proofs.Common.{sym, ◌∙◌, subst, take-append-drop}
use mathlib.Core.List.{List, []}
use native.Mathlib.Omega.{arith}
use Rattle.std.proofs.Math.ListN.{length, take, drop, length-append}
use Rattle.model.specs.Lists.{◌∈◌}
use Rattle.model.specs.Bytes.{join}
use Rattle.model.specs.Layout.{image_size}
use Rattle.model.specs.Message.{Message}
use Rattle.model.specs.Order.{State, log_of, held_of}
use Rattle.model.specs.Setpoints.{start_values, run_log}
use Rattle.model.specs.Purge.{origin_past}
use Rattle.model.specs.Compose.{highest_block, highest_group}
use Rattle.model.specs.Image.{messages_start, messages_of}
use Rattle.laws_order.specs.ListLaws.{∈_take, take_map}
use Rattle.laws_wire.specs.BytesLaws.{join_append}
use Rattle.laws_state.specs.ImageLaws.{messages_room}
use Rattle.set_table.specs.Table.{deltas_of, deltas_at, set_in}
use Rattle.image_sections.specs.LogPlaces.{TablePlaces}
use Rattle.image_sections.specs.LogPlaceLaws.{log_inside}
use Rattle.log_highest.specs.Logged.{LoggedPlaces}
use Rattle.purge_rest.specs.Rest.{FirstPlaces}

-- ---- what a log starts from, part by part
module _ (S : State) (gone : List Message) where
  pub base_past : (origin_past S gone).base ≡ run_log gone (start_values S)
  unfolding origin_past
  base_past = refl

  pub block_past : (origin_past S gone).block ≡ max S.origin.block (highest_block S gone)
  unfolding origin_past
  block_past = refl

  pub group_past : (origin_past S gone).group ≡ max S.origin.group (highest_group gone)
  unfolding origin_past
  group_past = refl

module _ (pool starts gone : List ℕ) (p : FirstPlaces pool starts gone) where
  abbrev S : State
  S = set_in pool starts

  among : (i : ℕ) → i ∈ gone → i ∈ p.all
  among i k = ∈_take p.count p.all (subst (λ (l : List ℕ). i ∈ l) p.first k)

  pub first_logged : LoggedPlaces pool starts gone
  first_logged = record { all = p.all; log = p.log; among = among }

  pub first_inside : TablePlaces pool starts gone
  first_inside = record { holds = p.log.holds; inside = λ i k. (log_inside pool starts p.all p.log).inside i (among i k) }

  -- their deltas are the first of the log
  pub first_deltas : deltas_at (deltas_of pool starts) gone ≡ take p.count (log_of S)
  first_deltas = ap (deltas_at (deltas_of pool starts)) p.first ∙ sym (take_map p.count (λ (i : ℕ). get_or (deltas_of pool starts) i []) p.all) ∙ ap (take p.count) p.log.log

  pub first_room : messages_start S + length (join (deltas_at (deltas_of pool starts) gone)) ≤ image_size
  unfolding messages_of
  first_room =
      let front : List Message = take p.count (log_of S) in
      let rest : List Message = drop p.count (log_of S) in
      omega (
        arith,
        ap (λ (l : List Message). length (join l)) first_deltas,
        messages_room S p.log.holds,
        length-append (join (log_of S)) (join (held_of S)),
        length-append (join front) (join rest),
        ap length (join_append front rest),
        ap (λ (l : List Message). length (join l)) (take-append-drop p.count (log_of S)),
      )
