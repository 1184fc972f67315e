-- A k past the log is the definitions' refusal; else the first k places are lent.
use Rattle.std.specs.Prelude.{◌≡◌, not, ℕ, ◌≤◌, ltb, Ok}
use Rattle.std.proofs.Common.{◌∙◌, ap, rules, ltb-false}
use Rattle.std.proofs.lemmas.Bool.{not-true, not-false}
use Rattle.model.specs.Calls.{purge}
use Rattle.refusals.specs.declared.Refusal.TheVariants.{PastLog}
use Rattle.refusals.specs.Refusals.{checked, passed, failed}
use Rattle.purge_dropping.specs.PurgeCases.{log_case}
use Rattle.purge.specs.Judged.{log_asked, gone_count, droppable}
use Rattle.purge.proofs.purge_at.Goals as goal

-- k is not past the log
within : (logged k : ℕ) → Ok tt ≡ checked PastLog (not (ltb logged k)) → k ≤ logged
within logged k e = ltb-false _ _ (not-true _ (passed PastLog (not (ltb logged k)) e))

pub returns-in_default : goal.returns-in_default
returns-in_default c =
    let a = c.args in
    log_case a.image.now a.k c.requires.judged.image
    (log_asked a.image.now a.pool.now a.station c.requires (search rules) a.k ∙ not-false _ (failed PastLog _ (not (ltb a.station.logged a.k)) c.in_default.ensures))

pub drop_first-requires : goal.drop_first-requires
drop_first-requires c =
    let a = c.args in
    droppable a.image.now a.pool.now a.station c.requires (search rules) a.k (within a.station.logged a.k c.in-Ok.ensures)

pub returns : goal.returns
returns c =
    let a = c.args in
    c.drop_first.ensures
    ∙ ap (purge a.image.now) (gone_count a.image.now a.pool.now a.station c.requires (search rules) a.k (within a.station.logged a.k c.in-Ok.ensures))
