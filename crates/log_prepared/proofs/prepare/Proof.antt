-- The blocks of the closure are the effective blocks of the executable deltas, so the keys made with them are theirs.
use mathlib.Core.Path.{sym}
use Prim.Native.Nat.{◌≤◌}
use native.Mathlib.Omega.{arith}
use lib.ListN.{length, length-map}
use lib.Seq.{length-take-le}
use Rattle.set_table.specs.Table.{message_from, set_in}
use Rattle.log_prepared.specs.KeyMaking.{keys_closed}
use borrow.Author.Rules.{rules}
use Rattle.log_prepared.proofs.prepare.Statement.{statement}
use Rattle.log_prepared.proofs.prepare.Tie as tie

-- where the closure and, before it, the rows are known
abbrev closed : tie.After-blocks-3-1 → tie.After-close-count
closed c = c.before.before.before.before

abbrev filled : tie.After-close-count → tie.After-fill_rows
filled c = c.before.before.before.before.before.before.before

abbrev start : tie.After-fill_rows → tie.Start
start f = f.before.before.before.before.before.before.before.before

-- as many are placed as the order has room for
fits : (k : tie.After-close-count) → k.close-count.result ≤ length k.close-count.new.order
fits k = let s = start (filled k) in omega (arith, k.close-count.ensures.closing.size, k.close-count.ensures.closing.few, s.requires.3.fits)

array-share-prefix-executable : tie.Need-slice_bounds-executable-end
array-share-prefix-executable c = fits (closed c)

slice-aggregate-fill-keys-2 : tie.Need-slice_bounds-fill_keys-end-2
slice-aggregate-fill-keys-2 c = let k = closed c.before in sym (length-take-le k.close-count.result k.close-count.new.order (fits k))

fill-keys-requires : tie.Need-fill_keys-requires
fill-keys-requires c κs =
    let k = closed c.before in
    let s = start (filled k) in
    let e = k.close-count.ensures.closing in
    (s.requires.2, s.requires.3, e.effective.size, λ i m. omega (arith, e.inside i m, length-map s.args.starts.now (message_from s.args.pool.now)))

returns : tie.Need-returns
returns c =
    let k = closed c.before.before.before.before in
    let f = filled k in
    let s = start f in
    record {
      needs = f.fill_rows.ensures;
      keyed = keys_closed (set_in s.args.pool.now s.args.starts.now) s.requires.3 f.fill_rows.new.rows f.fill_rows.new.counts f.fill_rows.ensures k.close-count.new.blocks k.close-count.new.order k.close-count.result k.close-count.ensures c.fill_keys.new.keys c.fill_keys.ensures;
    }

pub prepare_spec : {M : Type 1} → statement M
prepare_spec =
    tie.close
    (tie.spec
    (λ c κs. search rules)
    (λ c. search rules)
    (λ c. search rules)
    (λ c κs. search rules)
    (λ c. search rules)
    array-share-prefix-executable
    slice-aggregate-fill-keys-2
    fill-keys-requires
    (λ c. search rules)
    (λ c. search rules)
    (λ c. search rules)
    returns)
