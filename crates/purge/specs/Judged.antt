-- A judged image with a copy of it, and the first places of its log.
use Rattle.std.specs.Prelude.{◌≡◌, List, ℕ, ◌≤◌, length, take, ltb}
use Rattle.std.proofs.Common.{sym, ◌∙◌, ap, subst, arith, length-take-le, take-take}
use Rattle.model.specs.Layout.{capacity}
use Rattle.model.specs.Image.{state_in}
use Rattle.model.specs.Codes.{exceeds_log}
use Rattle.laws_state.specs.ImageLaws.{own_log}
use Rattle.laws_state.specs.OffsetLaws.{log_count_lem}
use Rattle.set_table.specs.Table.{starts_of}
use Rattle.image_sections.specs.LogPlaces.{LogPlaces}
use Rattle.image_listed.specs.declared.Station.{Station}
use Rattle.image_listed.specs.Listed.{places_in}
use Rattle.image_judged.specs.Judging.{IsStation}
use Rattle.purge_dropping.specs.Dropping.{Droppable}

pub record Judged (b pool : List ℕ) (station : Station) : Type 0 where
  pub judged : IsStation b station
  pub pooled : pool ≡ b

module _ (b pool : List ℕ) (station : Station) (j : Judged b pool station) (size : length station.places ≡ capacity) where
  -- k is not past the log exactly if it is not past the places
  pub log_asked : (k : ℕ) → exceeds_log (state_in b) k ≡ ltb station.logged k
  log_asked k = ap (λ (n : ℕ). ltb n k) (ap length (sym (own_log b j.judged.image)) ∙ log_count_lem b ∙ sym j.judged.count)

  module _ (k : ℕ) (within : k ≤ station.logged) where
    pub gone_count : length (take k station.places) ≡ k
    gone_count = length-take-le k station.places (omega (arith, j.judged.fits, size))

    pub droppable : Droppable b pool (starts_of station.table) (take k station.places)
    droppable = record {
      image = j.judged.image;
      pooled = j.pooled;
      set = j.judged.table.set;
      all = places_in station;
      log = subst (λ (x : List ℕ). LogPlaces x (starts_of station.table) (places_in station)) (sym j.pooled) (record { holds = j.judged.table.holds; log = j.judged.log });
      inside = omega (arith, gone_count, length-take-le station.logged station.places (omega (arith, j.judged.fits, size)));
      first = sym (ap (λ (n : ℕ). take n (places_in station)) gone_count ∙ take-take k station.logged station.places within);
    }
