-- An empty table, in a pool of zeros, has an empty log, and nothing was purged.
use mathlib.Core.Path.{◌≡◌, refl, sym, ◌∙◌, ap, subst}
use mathlib.Core.List.{List, []}
use Prim.Native.Nat.{ℕ, ◌≤◌}
use lib.ListN.{length, replicate}
use lib.Dec.{T}
use native.Mathlib.Omega.{arith}
use borrow.Author.Rules.{rules}
use Rattle.model.specs.Layout.{image_size, floors_start}
use Rattle.model.specs.Order.{Origin, first_origin, State, holding, origin_right}
use Rattle.model.specs.Image.{used_of, image_of, messages_start_in, floors_in, base_in, origin_in}
use Rattle.model.specs.Calls.{empty_state}
use Rattle.laws_origin.specs.OriginLaws.{first_right}
use Rattle.laws_state.specs.ImageLaws.{used_fits}
use Rattle.set_table.specs.Table.{set_in}
use Rattle.image_sections.specs.LogPlaces.{LogPlaces}
use Rattle.image_sections.specs.LogPlaceLaws.{empty_log}
use Rattle.image_sections.specs.SectionLaws.{used_cleared}
use Rattle.image.proofs.put_empty.Statement.{statement}
use Rattle.image.proofs.put_empty.Tie as tie

-- a pool of zeros, with room for an origin and no floor; it begins with the origin of an empty station
unfoldable zeros : List ℕ
zeros = replicate floors_start 0

is_first : origin_in zeros ≡ first_origin
unfolding origin_in floors_in base_in messages_start_in zeros
is_first = refl

-- the set of the empty table in it
abbrev none : State
none = set_in zeros []

is_empty : none ≡ empty_state
is_empty = ap (λ (O : Origin). holding O []) is_first

none_logged : LogPlaces zeros [] []
none_logged = empty_log zeros (subst (λ (O : Origin). T (origin_right O)) (sym is_first) first_right)

-- its image fits
fits : length (used_of none) ≤ image_size
fits = used_fits none none_logged.holds

-- where the call began, from where the used bytes are written
abbrev begun : tie.After-write_used-used → tie.Start
begun w = w.before.before.before.before.before.before

write-used-requires : tie.Need-write_used-used-requires
unfolding zeros
write-used-requires c κs = record { room = search rules; logged = none_logged }

clear-from-requires : tie.Need-clear_from-requires
unfolding zeros
clear-from-requires c κs =
    omega (arith, c.write_used-used.ensures.end, fits, c.write_used-used.auto.out, (begun c.before.before.before).requires)

returns : tie.Need-returns
unfolding zeros
returns c =
    used_cleared none (begun c.before.before.before.before.before.before).requires c.write_used-used.ensures c.clear_from.ensures fits ∙ ap image_of is_empty

pub put_empty_spec : {M : Type 1} → statement M
put_empty_spec =
    tie.close
    (tie.spec
    (λ c. search rules)
    (λ c. search rules)
    (λ c. search rules)
    (λ c. search rules)
    (λ c. search rules)
    (λ c. search rules)
    (λ c. search rules)
    write-used-requires
    clear-from-requires
    (λ c. search rules)
    returns)
