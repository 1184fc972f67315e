-- Too many floors are the definitions' refusal; else what is left is found, and its image written.
use Rattle.std.specs.Prelude.{◌≡◌, true, false, not, List, ℕ, length, ltb, Ok, Err}
use Rattle.std.proofs.Common.{◌∙◌, ap, arith, ltb-false}
use Rattle.std.proofs.lemmas.Bool.{not-true, not-false}
use Rattle.model.specs.Layout.{most_floors}
use Rattle.refusals.specs.declared.Refusal.{Refusal}
use Rattle.refusals.specs.declared.Refusal.TheVariants.{ManyFloors}
use Rattle.refusals.specs.Refusals.{checked, passed, failed}
use Rattle.purge_rest.specs.RestLaws.{first_inside}
use Rattle.purge_dropping.specs.PurgeCases.{floors_case, left_case}
use Rattle.purge_dropping.specs.DropLaws.{first_places, few_places, within, floors_asked, writable}
use Rattle.purge_dropping.proofs.drop_first.Goals as goal

-- what the check tells of the number of floors
few : (floors : ℕ) → Ok tt ≡ checked ManyFloors (not (ltb most_floors floors)) → ltb most_floors floors ≡ false
few floors e = not-true _ (passed ManyFloors (not (ltb most_floors floors)) e)

many : (floors : ℕ) (why : Refusal) → Err why ≡ checked ManyFloors (not (ltb most_floors floors)) → ltb most_floors floors ≡ true
many floors why e = not-false _ (failed ManyFloors why (not (ltb most_floors floors)) e)

pub raise_floors-floors-requires : goal.raise_floors-floors-requires
raise_floors-floors-requires c =
    let a = c.args in (
      first_inside a.pool.now a.starts.now a.gone.now (first_places a.image.now a.pool.now a.starts.now a.gone.now c.requires),
      few_places a.image.now a.pool.now a.starts.now a.gone.now c.requires,
      omega arith,
    )

pub returns-in_default : goal.returns-in_default
returns-in_default c =
    let a = c.args in
    let n = c.raise_floors-floors.result in
    floors_case a.image.now (length a.gone.now) c.requires.image (within a.image.now a.pool.now a.starts.now a.gone.now c.requires)
    (floors_asked a.image.now a.pool.now a.starts.now a.gone.now c.requires c.raise_floors-floors.new.tops n c.raise_floors-floors.ensures ∙ many n _ c.in_default.ensures)

pub write_purged-requires : goal.write_purged-requires
write_purged-requires c =
    let a = c.args in
    let n = c.raise_floors-floors.result in
    writable a.image.now a.pool.now a.starts.now a.gone.now c.requires c.raise_floors-floors.new.tops n c.raise_floors-floors.ensures
    c.find_rest-rest.result c.find_rest-rest.ensures (ltb-false _ _ (few n c.in-Ok.ensures)) (omega (arith, c.raise_floors-floors.auto))

pub returns : goal.returns
returns c =
    let a = c.args in
    let n = c.raise_floors-floors.result in
    ap (λ (i : List ℕ). record { code = 0; image = i }) c.write_purged.ensures
    ∙ left_case a.image.now (length a.gone.now) c.requires.image (within a.image.now a.pool.now a.starts.now a.gone.now c.requires)
    (floors_asked a.image.now a.pool.now a.starts.now a.gone.now c.requires c.raise_floors-floors.new.tops n c.raise_floors-floors.ensures ∙ few n c.in-Ok.ensures)
