-- The first deltas of a log at their places: what is found of them is what the definitions purge.
use Rattle.std.specs.Prelude.{◌≡◌, refl, false, List, ℕ, ◌≤◌, length, ltb}
use Rattle.std.proofs.Common.{sym, ◌∙◌, ap₂, subst, arith, le-ltb}
use Rattle.std.proofs.Math.Path.{ap}
use Rattle.std.proofs.Math.ListN.{take}
use Rattle.model.specs.Layout.{most_floors, capacity}
use Rattle.model.specs.Message.{Message}
use Rattle.model.specs.Tops.{raise_tops}
use Rattle.model.specs.Order.{Origin, State, sequences_of, log_of}
use Rattle.model.specs.Purge.{origin_past}
use Rattle.model.specs.Image.{origin_in, state_in}
use Rattle.model.specs.Codes.{exceeds_log, many_floors}
use Rattle.set_table.specs.Table.{deltas_of, deltas_at, set_in}
use Rattle.image_sections.specs.LogPlaceLaws.{log_count_lem, log_fits}
use Rattle.set_tops.specs.TopsIn.{tops_room, tops_in}
use Rattle.set_tops.specs.TopsLaws.{tops_length}
use Rattle.purge_rest.specs.declared.Rest.{Rest}
use Rattle.purge_rest.specs.Rest.{FirstPlaces, IsRest}
use Rattle.purge_rest.specs.RestLaws.{first_deltas}
use Rattle.purge_writing.specs.Writing.{gone_from, Writable}
use Rattle.purge_writing.specs.WritingLaws.{purged_origin}
use Rattle.purge_dropping.specs.Dropping.{Droppable}

floors_past : (S : State) (gone : List Message) → (origin_past S gone).floors ≡ raise_tops (sequences_of gone) S.origin.floors
unfolding origin_past
floors_past S gone = refl

module _ (b pool starts gone : List ℕ) (d : Droppable b pool starts gone) where
  abbrev S : State
  S = state_in b

  abbrev K : ℕ
  K = length gone

  abbrev deltas : List Message
  deltas = deltas_at (deltas_of pool starts) gone

  -- the pool's set is the image's, and the deltas are the first of its log
  set_is : set_in pool starts ≡ S
  set_is = ap (λ (x : List ℕ). set_in x starts) d.pooled ∙ d.set

  pub first_places : FirstPlaces pool starts gone
  first_places = record { all = d.all; log = d.log; count = K; first = d.first }

  deltas_are : deltas ≡ gone_from b K
  unfolding first_places
  deltas_are = first_deltas pool starts gone first_places ∙ ap (λ (R : State). take K (log_of R)) set_is

  -- ---- 15 is passed, and they are at most 64
  inside : K ≤ length (log_of S)
  inside = omega (arith, d.inside, log_count_lem pool starts d.all d.log, ap (λ (R : State). length (log_of R)) set_is)

  pub within : exceeds_log S K ≡ false
  within = le-ltb (length (log_of S)) K inside

  pub few_places : K ≤ capacity
  few_places = omega (arith, d.inside, log_fits pool starts d.all d.log)

  -- ---- 16 is asked of the floors that were raised
  module _ (tops : List ℕ) (n : ℕ) (raised : tops_in tops n ≡ raise_tops (sequences_of deltas) (origin_in pool).floors) where
    floors_are : tops_in tops n ≡ (origin_past S (gone_from b K)).floors
    floors_are = raised ∙ sym (floors_past (set_in pool starts) deltas) ∙ ap₂ (λ (R : State) (l : List Message). (origin_past R l).floors) set_is deltas_are

    pub floors_asked : many_floors S K ≡ ltb most_floors n
    floors_asked = ap (ltb most_floors) (ap (λ (O : Origin). length O.floors) (purged_origin K S) ∙ ap length (sym floors_are) ∙ tops_length tops n)

    -- ---- and what is left is written
    pub writable : (rest : Rest) → IsRest (set_in pool starts) deltas rest → n ≤ most_floors → tops_room ≤ length tops → Writable b pool tops n K rest
    writable rest is few room = record {
      image = d.image;
      pooled = d.pooled;
      inside = inside;
      left = subst (λ (l : List Message). IsRest S l rest) deltas_are (subst (λ (R : State). IsRest R deltas rest) set_is is);
      few = few;
      room = omega arith;
      raised = floors_are;
    }
